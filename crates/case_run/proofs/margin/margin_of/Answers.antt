use Rattle.std.proofs.Common.{◌≡◌, below_more, subst, to_z-of_z, arith, rules, FitsSigned, ap, ℕ, ◌<◌}
use Rattle.std.specs.Int.{w128}
use Rattle.case_run.specs.Certified.{last_place, shift_of}
use Rattle.std.specs.Prelude.{is_err, IsErr}
use Rattle.sym_blocks.specs.Matrix.{entry}
use Rattle.case_run.specs.Answers.{margin_at}
use Rattle.case_run.proofs.Chained.{last_value, value_at}
use Rattle.case_run.proofs.margin.margin_of.Goals as goal

pub loop-place-preserved : goal.loop-place-preserved
loop-place-preserved g c =
    let fits : FitsSigned w128 c.shift_of.result = search rules in
    let given = rw (c.in-Err-Because.field-0-is, to_z-of_z fits, c.shift_of.ensures.value) at c.in-Err-Because.ensures.given in
    below_more _ _ c.loop-place.invariant (ap (λ o. is_err o) given)

pub returns-in-Ok-clause-given : goal.returns-in-Ok-clause-given
returns-in-Ok-clause-given g c =
    let fits : FitsSigned w128 c.shift_of.result = search rules in
    let lambda_fits : FitsSigned w128 c.in-Ok.lambda = search rules in
    let given = rw (to_z-of_z fits, c.shift_of.ensures.value) at c.in-Ok.ensures.given in
    rw (to_z-of_z lambda_fits)
    (value_at last_place c.loop-place.place (λ (i : ℕ). margin_at (g.M.Maker.plan c.args.maker.now) (entry c.args.middles.now) (entry c.args.radii.now) (shift_of i)) c.in-Ok.lambda
    (omega arith) c.loop-place.invariant given)

pub returns-clause-given : goal.returns-clause-given
returns-clause-given g c =
    let fits : FitsSigned w128 c.shift_of-2.result = search rules in
    let at_end : c.loop-place.place ≡ last_place = omega arith in
    let f : ℕ → _ = λ i. margin_at (g.M.Maker.plan c.args.maker.now) (entry c.args.middles.now) (entry c.args.radii.now) (shift_of i) in
    let none = subst (λ (n : ℕ). (i : ℕ) → i < n → IsErr (f i)) at_end c.loop-place.invariant in
    rw (last_value last_place f none) (rw (to_z-of_z fits, c.shift_of-2.ensures.value) at c.margin_at-2.ensures.given)
