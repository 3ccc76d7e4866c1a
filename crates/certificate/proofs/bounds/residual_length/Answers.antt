use Rattle.std.proofs.Common.{rules, ◌≡◌, ℕ, ◌<◌, ◌⊎◌, inl, inr, sym, ◌∙◌, ap, refl, subst, arith, FitsSigned, to_z-of_z, ℤ, pos, ◌<ℤ◌, ◌^◌}
use Rattle.std.specs.Prelude.{IsOk, IsErr}
use Rattle.std.specs.Int.{w128}
use Rattle.std.proofs.lemmas.Result.{err_from_is_err_and}
use Rattle.int_laws.specs.Sums.{sum_below}
use Rattle.int_laws.proofs.Sums.{int_sums}
use Rattle.int_laws.specs.Root.{root_up_of}
use Rattle.member_set.specs.Members.{row_count, system}
use Rattle.member_set.specs.Interval.{Outcome, forces_of, residual_of}
use Rattle.certificate.specs.Bounds.{residual_at, no_residual, long}
use Rattle.certificate.proofs.BoundsLemmas.{found_is, found_ok, square_of, sum_more, sum_too_long}
use Rattle.certificate.proofs.bounds.residual_length.Goals as goal

pub returns-in_err-member_forces-clause-wide : goal.returns-in_err-member_forces-clause-wide
returns-in_err-member_forces-clause-wide c =
    let p = err_from_is_err_and c.from_residual.result c.from_residual.ensures.1 in
    let broken = c.in_err-member_forces.ensures.fault c.args.loads.now in
    rw p.1 (λ lambda. no_residual broken.0 broken.1 broken.2)

pub returns-in_err-residual_from-clause-wide : goal.returns-in_err-residual_from-clause-wide
returns-in_err-residual_from-clause-wide c =
    let p = err_from_is_err_and c.from_residual-in_err-residual_from.result c.from_residual-in_err-residual_from.ensures.1 in
    let at = c.in_err-residual_from.ensures.value (forces_of c.args.b.now c.args.laws.now c.args.u.now) c.in_ok-member_forces.ensures.forces in
    let inside : c.loop-row.row < row_count c.args.b.now = omega (arith, c.requires.system.one_load_each) in
    rw p.1 (λ lambda. no_residual c.loop-row.row inside (subst (λ (o : Outcome). IsErr o) at refl))

pub returns-in_err-sum-clause-wide : goal.returns-in_err-sum-clause-wide
returns-in_err-sum-clause-wide c =
    let p = err_from_is_err_and c.from_residual-in_err-sum.result c.from_residual-in_err-sum.ensures.1 in
    let e = c.in_ok-residual_from.field-0 in
    let at = c.in_ok-residual_from.ensures.value (forces_of c.args.b.now c.args.laws.now c.args.u.now) c.in_ok-member_forces.ensures.forces in
    let inside : c.loop-row.row < row_count c.args.b.now = omega (arith, c.requires.system.one_load_each) in
    let here = found_is (residual_of (system c.args.b.now c.args.laws.now c.args.loads.now) c.args.u.now c.loop-row.row) e (sym at) in
    let beyond = sum_too_long c.loop-row.row (row_count c.args.b.now) c.loop-row.sum (residual_at (system c.args.b.now c.args.laws.now c.args.loads.now) c.args.u.now) e
    inside here c.loop-row.invariant.sum c.in_err-sum.ensures.long in
    rw p.1 (λ lambda. long beyond)

pub loop-row-preserved : goal.loop-row-preserved
loop-row-preserved c =
    let k = c.loop-row.row in
    let e = c.in_ok-residual_from.field-0 in
    let residual = residual_of (system c.args.b.now c.args.laws.now c.args.loads.now) c.args.u.now in
    let at = c.in_ok-residual_from.ensures.value (forces_of c.args.b.now c.args.laws.now c.args.u.now) c.in_ok-member_forces.ensures.forces in
    let here = found_is (residual_of (system c.args.b.now c.args.laws.now c.args.loads.now) c.args.u.now k) e (sym at) in
    record {
      short = c.in_ok-sum.ensures.short;
      sum = sum_more k c.loop-row.sum c.in_ok-sum.sum (residual_at (system c.args.b.now c.args.laws.now c.args.loads.now) c.args.u.now) e here c.loop-row.invariant.sum c.in_ok-sum.ensures.value;
      residuals = λ j below.
          let side : (j < k) ⊎ (j ≡ k) = search arith in
          elim side [
            | inl less ↦ c.loop-row.invariant.residuals j less
            | inr same ↦ subst (λ (i : ℕ). IsOk (residual i)) (sym same) (found_ok (residual k) e (sym at))
          ];
    }

pub loop-row-init : goal.loop-row-init
loop-row-init c = record { short = omega arith; sum = refl; residuals = λ row below. absurd (omega arith) }

pub returns-clause-residuals : goal.returns-clause-residuals
returns-clause-residuals c = λ row below. c.loop-row.invariant.residuals row (omega (arith, c.requires.system.one_load_each))

pub returns-clause-short : goal.returns-clause-short
returns-clause-short c =
    let done : c.loop-row.row ≡ row_count c.args.b.now = omega (arith, c.requires.system.one_load_each) in
    let residual = residual_at (system c.args.b.now c.args.laws.now c.args.loads.now) c.args.u.now in
    let sum = subst (λ (n : ℕ). pos c.loop-row.sum ≡ sum_below n (λ row. square_of (residual row))) done c.loop-row.invariant.sum in
    let short : pos c.loop-row.sum <ℤ pos (2 ^ 126) = omega (arith, int_sums, c.loop-row.invariant.short) in
    subst (λ (z : ℤ). z <ℤ pos (2 ^ 126)) sum short

pub returns-clause-value : goal.returns-clause-value
returns-clause-value c =
    let fits : FitsSigned w128 c.root_of_squares.result = search rules in
    let done : c.loop-row.row ≡ row_count c.args.b.now = omega (arith, c.requires.system.one_load_each) in
    let residual = residual_at (system c.args.b.now c.args.laws.now c.args.loads.now) c.args.u.now in
    let sum = subst (λ (n : ℕ). pos c.loop-row.sum ≡ sum_below n (λ row. square_of (residual row))) done c.loop-row.invariant.sum in
    to_z-of_z fits ∙ c.root_of_squares.ensures.value ∙ ap root_up_of sum

pub returns-clause-bounded : goal.returns-clause-bounded
returns-clause-bounded c =
    let fits : FitsSigned w128 c.root_of_squares.result = search rules in
    rw (to_z-of_z fits) c.root_of_squares.ensures.bounded
