use Rattle.std.proofs.Common.{◌≡◌, ◌+◌, ◌*◌, ◌<◌, ℕ, length, refl, rules, arith, subst, sym, ◌∙◌, Ok}
use Rattle.std.specs.List.{slice_index_or}
use Rattle.std.proofs.lemmas.List.{get_or_read_under}
use Rattle.flex_interval.specs.Ends.{Ends}
use Rattle.flex_interval.specs.Operations.{add_of}
use Rattle.member_set.specs.Members.{nothing}
use Rattle.load_vectors.specs.Totals.{IsOfLoads}
use Rattle.load_vectors.proofs.AddingLemmas.{IsAdding, adding_start, adding_next, adding_end, adding_size}
use Rattle.load_vectors.proofs.adding.add_parts.Goals as goal

pub loop-freedom-init : goal.loop-freedom-init
loop-freedom-init c = adding_start _ _ _

pub loop-freedom-preserved : goal.loop-freedom-preserved
loop-freedom-preserved c =
    let i = c.loop-freedom.freedom in
    let row = 6 * c.args.node + i in
    let inside : row < length c.loop-freedom.loads = omega (arith, c.loop-freedom.invariant.one_each, c.requires.node, c.loop-freedom-test.true) in
    let read = get_or_read_under c.loop-freedom.loads row (length c.loop-freedom.loads) c.index-loads-row.result nothing c.index-loads-row.is inside refl in
    let six : 6 ≡ length c.args.parts.now = search rules in
    let part = get_or_read_under c.args.parts.now i 6 c.index-parts-freedom.result nothing c.index-parts-freedom.is c.loop-freedom-test.true six in
    let first = subst (λ (e : Ends). add_of c.index-loads-row.result e ≡ Ok c.sum.result) (sym c.index-parts-freedom.is ∙ part) c.sum.ensures.value in
    let sum = subst (λ (e : Ends). add_of e (slice_index_or c.args.parts.now i nothing) ≡ Ok c.sum.result) read first in
    let size = subst (λ (e : Ends). (n : ℕ) → IsOfLoads n e → IsOfLoads (n + 1) c.sum.result) read c.sum.ensures.size in
    adding_next c.args.loads.now c.loop-freedom.loads c.args.node c.args.parts.now i c.sum.result c.requires.node c.loop-freedom-test.true c.loop-freedom.invariant sum size

pub returns-clause-adds : goal.returns-clause-adds
returns-clause-adds c =
    let done : c.loop-freedom.freedom ≡ 6 = omega (arith, c.loop-freedom-test.false, c.loop-freedom.auto.freedom-end) in
    adding_end c.args.loads.now c.loop-freedom.loads c.args.node c.args.parts.now (subst (λ (k : ℕ). IsAdding c.args.loads.now c.loop-freedom.loads c.args.node c.args.parts.now k) done c.loop-freedom.invariant)

pub returns-clause-size : goal.returns-clause-size
returns-clause-size c = λ n of.
    let done : c.loop-freedom.freedom ≡ 6 = omega (arith, c.loop-freedom-test.false, c.loop-freedom.auto.freedom-end) in
    adding_size c.args.loads.now c.loop-freedom.loads c.args.node c.args.parts.now n (subst (λ (k : ℕ). IsAdding c.args.loads.now c.loop-freedom.loads c.args.node c.args.parts.now k) done c.loop-freedom.invariant) of
