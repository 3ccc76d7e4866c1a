use Rattle.std.proofs.Common.{ap, arith, ◌≤ℤ◌, ◌<ℤ◌, FitsSigned}
use Rattle.std.specs.Int.{w128}
use Rattle.int_laws.proofs.Sums.{int_sums}
use Rattle.flex_interval.specs.Ends.{Ends}
use Rattle.stress_terms.proofs.VerdictLemmas.{passes, fails}
use Rattle.stress_terms.proofs.judgement.verdict_on.Goals as goal

pub returns-then-stress-allowable-clause-pass : goal.returns-then-stress-allowable-clause-pass
returns-then-stress-allowable-clause-pass c =
    let stress_fits : FitsSigned w128 c.stress.inside.hi = omega (arith, int_sums, c.stress.invariant.hi_small) in
    let allowable_fits : FitsSigned w128 c.allowable.inside.lo = omega (arith, int_sums, c.allowable.invariant.lo_small) in
    let stress = ap (λ (e : Ends). e.hi) c.stress.view_is in
    let allowable = ap (λ (e : Ends). e.lo) c.allowable.view_is in
    let below : c.args.stress.hi ≤ℤ c.args.allowable.lo = omega (arith, int_sums) in
    λ _ a q t y encloses within. passes c.args.stress c.args.allowable a q t y (rw (← c.stress.view_is) c.stress.invariant.ordered) below encloses within

pub returns-then-allowable-stress-clause-fail : goal.returns-then-allowable-stress-clause-fail
returns-then-allowable-stress-clause-fail c =
    let stress_fits : FitsSigned w128 c.stress.inside.lo = omega (arith, int_sums, c.stress.invariant.lo_small) in
    let allowable_fits : FitsSigned w128 c.allowable.inside.hi = omega (arith, int_sums, c.allowable.invariant.hi_small) in
    let stress = ap (λ (e : Ends). e.lo) c.stress.view_is in
    let allowable = ap (λ (e : Ends). e.hi) c.allowable.view_is in
    let above : c.args.allowable.hi <ℤ c.args.stress.lo = omega (arith, int_sums) in
    λ _ a q t y encloses within positive. fails c.args.stress c.args.allowable a q t y above encloses within positive
