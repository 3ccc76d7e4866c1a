use Rattle.std.proofs.Common.{◌≡◌, ◌<◌, ◌∙◌, length, get_or, List, ap, sym, arith, rules, FitsSigned, to_z-of_z}
use Rattle.std.specs.Int.{w128}
use Rattle.flex_num.specs.declared.guarded.GuardedSum.{GuardedSum}
use Rattle.flex_num.specs.Guarded.{zero_sum, value_at}
use Rattle.certificate.proofs.RowSumLemmas.{read-here, read-other, read_as, tracked-same}
use Rattle.certificate.proofs.row_sums.RowSums.take.Goals as goal

pub invariant_of-self : goal.invariant_of-self
invariant_of-self c =
    let sums = c.self.inside.sums.items in
    let inside : c.args.at < length sums = rw c.self.view_is c.requires in
    let read = read_as sums c.args.at c.index-sum.result.now inside c.index-sum.ensures in
    tracked-same sums _ _ c.args.at _ c.self.invariant inside (ap (λ (s : GuardedSum). s.size) read ∙ sym c.emptied.ensures.size)

pub returns-clause-value : goal.returns-clause-value
returns-clause-value c =
    let sums = c.self.inside.sums.items in
    let sum = c.index-sum.result.now in
    let inside : c.args.at < length sums = rw c.self.view_is c.requires in
    let fits : FitsSigned w128 sum.value = search rules in
    let read : get_or sums c.args.at zero_sum ≡ sum = read_as sums c.args.at sum inside c.index-sum.ensures in
    to_z-of_z fits ∙ sym (ap (λ (s : GuardedSum). s.value) read) ∙ ap (λ (xs : List GuardedSum). value_at xs c.args.at) c.self.view_is

pub returns-clause-size : goal.returns-clause-size
returns-clause-size c =
    let sum = c.index-sum.result.now in
    let fits : FitsSigned w128 sum.value = search rules in
    rw (to_z-of_z fits) (omega (arith, sum.bounded, sum.narrow))

pub returns-clause-here : goal.returns-clause-here
returns-clause-here c =
    let inside : c.args.at < length c.self.inside.sums.items = rw c.self.view_is c.requires in
    ap (λ (s : GuardedSum). s.value) (read-here c.self.inside.sums.items c.args.at _ inside) ∙ c.emptied.ensures.value

pub returns-clause-others : goal.returns-clause-others
returns-clause-others c = λ j apart.
    ap (λ (s : GuardedSum). s.value) (read-other c.self.inside.sums.items c.args.at _ j apart) ∙ ap (λ (xs : List GuardedSum). value_at xs j) c.self.view_is
