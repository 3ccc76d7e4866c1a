use Rattle.std.proofs.Common.{arith, ap, refl, ◌∙◌, ◌≡◌, ◌+◌, ◌^◌, ◌≤ℤ◌, ◌+ℤ◌, pos, unsigned_abs, List}
use Rattle.std.proofs.Math.ListN.{length-set}
use Rattle.std.proofs.lemmas.Int.{ints}
use Rattle.flex_num.specs.declared.guarded.GuardedSum.{GuardedSum}
use Rattle.int_laws.specs.Matrices.{absolute}
use Rattle.certificate.specs.RowSums.{sizes_total}
use Rattle.flex_num.specs.Guarded.{zero_sum}
use Rattle.certificate.proofs.RowSumLemmas.{tracked-popped, tracked-nothing, drain-step, drain-stop, sizes-clear, read_as}
use Rattle.certificate.proofs.row_sums.RowSums.drain.Goals as goal

pub invariant_of-self : goal.invariant_of-self
invariant_of-self c =
    (tracked-popped c.loop-at.self-inside.sums.items _ _ _ _ c.in-Some.at _ c.loop-at.invariant.tracked c.in-Some.ensures.items c.in-Some.ensures.capacity refl).1

pub returns-in_err-total-clause-none : goal.returns-in_err-total-clause-none
returns-in_err-total-clause-none c = λ _.
    let sums = c.loop-at.self-inside.sums.items in
    let inside = (tracked-popped sums _ _ _ _ c.in-Some.at zero_sum c.loop-at.invariant.tracked c.in-Some.ensures.items c.in-Some.ensures.capacity refl).0 in
    let read = ap (λ (s : GuardedSum). s.value) (read_as sums c.in-Some.at c.index.result.now inside c.index.ensures) in
    let reached : pos (2 ^ 126) ≤ℤ (pos c.loop-at.total +ℤ absolute c.index.result.now.value) = omega (arith, ints, c.in_err-total.ensures, c.index.result.now.bounded, c.index.result.now.narrow) in
    let whole = ap (λ (xs : List GuardedSum). pos c.args.total +ℤ sizes_total xs) c.self.view_is in
    drain-stop sums c.in-Some.at _ c.loop-at.total _ _ inside read reached (c.loop-at.invariant.whole ∙ whole)

pub loop-at-preserved : goal.loop-at-preserved
loop-at-preserved c =
    let sums = c.loop-at.self-inside.sums.items in
    let inside = (tracked-popped sums _ _ _ _ c.in-Some.at zero_sum c.loop-at.invariant.tracked c.in-Some.ensures.items c.in-Some.ensures.capacity refl).0 in
    let read = ap (λ (s : GuardedSum). s.value) (read_as sums c.in-Some.at c.index.result.now inside c.index.ensures) in
    let more : c.in_ok-total.total ≡ c.loop-at.total + unsigned_abs c.index.result.now.value = omega (arith, ints, c.in_ok-total.ensures.0, c.index.result.now.bounded, c.index.result.now.narrow) in
    record {
      tracked = (tracked-popped sums _ _ _ _ c.in-Some.at _ c.loop-at.invariant.tracked c.in-Some.ensures.items c.in-Some.ensures.capacity refl).1;
      same = length-set sums c.in-Some.at _ ∙ c.loop-at.invariant.same;
      small = c.in_ok-total.ensures.1;
      whole = drain-step sums c.in-Some.at _ _ c.loop-at.total _ _ inside refl read more c.loop-at.invariant.whole;
    }

pub returns-clause-some : goal.returns-clause-some
returns-clause-some c =
    let sums = c.loop-at.self-inside.sums.items in
    let clear = tracked-nothing sums c.loop-at.self-inside.touched.items _ c.loop-at.invariant.tracked (omega (arith, c.in_default.ensures.cases.0, c.loop-at.self-inside.touched.ok)) in
    let whole = ap (λ (xs : List GuardedSum). pos c.args.total +ℤ sizes_total xs) c.self.view_is in
    (c.loop-at.invariant.small, omega (arith, ints, sizes-clear sums clear, whole, c.loop-at.invariant.whole))

pub loop-at-init : goal.loop-at-init
loop-at-init c = record { tracked = c.self.invariant; same = refl; small = c.requires; whole = refl }

pub with_size-requires : goal.with_size-requires
with_size-requires c = c.loop-at.invariant.small

pub returns-clause-clear : goal.returns-clause-clear
returns-clause-clear c =
    tracked-nothing c.loop-at.self-inside.sums.items c.loop-at.self-inside.touched.items _ c.loop-at.invariant.tracked (omega (arith, c.in_default.ensures.cases.0, c.loop-at.self-inside.touched.ok))
