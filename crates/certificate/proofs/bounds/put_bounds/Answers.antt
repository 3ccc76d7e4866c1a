use Rattle.std.proofs.Common.{rules, arith, ap, refl, get_or, ◌^◌, ◌∙◌, sym, subst, FitsSigned, to_z-of_z, ℤ, pos, ◌≤ℤ◌}
use Rattle.std.specs.Int.{w128}
use Rattle.std.proofs.lemmas.Result.{err_from_is_err_and, on_ok_weaker, on_err_weaker}
use Rattle.flex_interval.specs.Ends.{Ends}
use Rattle.member_set.specs.Members.{member_of, system}
use Rattle.certificate.specs.Bounds.{force_radius, far, unsteady}
use Rattle.bound_laws.specs.Nearness.{widened, alone, displacement_radius_of, force_radius_of}
use Rattle.certificate.proofs.BoundsLemmas.{found_is, found_ok, forces_limited}
use Rattle.certificate.proofs.bounds.put_bounds.Goals as goal

pub returns-in_err-size-clause-wide : goal.returns-in_err-size-clause-wide
returns-in_err-size-clause-wide c =
    let p = err_from_is_err_and c.from_residual.result c.from_residual.ensures.1 in
    rw p.1 (c.in_err-size.ensures.wide c.args.lambda)

pub widen_forces-requires-clause-limited : goal.widen_forces-requires-clause-limited
widen_forces-requires-clause-limited c =
    forces_limited c.args.b.now c.args.laws.now c.args.u.now c.residual_length.new.forces c.in_ok-size.ensures.forces

pub returns-clause-wide : goal.returns-clause-wide
returns-clause-wide c =
    let size_fits : FitsSigned w128 c.in_ok-size.size = search rules in
    let too_unsteady = rw (to_z-of_z c.ranges.lambda, to_z-of_z size_fits) at c.widen_forces.ensures.unsteady in
    on_err_weaker c.widen_forces.result
    (λ found.
    unsteady found.member found.inside
    (subst (λ (n : ℤ). pos (2 ^ 60) ≤ℤ force_radius_of c.args.lambda n (member_of c.args.b.now found.member).kappa.hi) c.in_ok-size.ensures.value found.unsteady))
    too_unsteady

pub widen_displacements-requires-clause-one_each : goal.widen_displacements-requires-clause-one_each
widen_displacements-requires-clause-one_each c = c.requires.one_bound_each ∙ sym c.requires.one_displacement_each

pub returns-in_err-displacement_radius-clause-wide : goal.returns-in_err-displacement_radius-clause-wide
returns-in_err-displacement_radius-clause-wide c =
    let size_fits : FitsSigned w128 c.in_ok-size.size = search rules in
    let p = err_from_is_err_and c.from_residual-in_err-displacement_radius.result c.from_residual-in_err-displacement_radius.ensures.1 in
    let wide = rw (to_z-of_z c.ranges.lambda, to_z-of_z size_fits) at c.in_err-displacement_radius.ensures.wide in
    rw p.1 (far (subst (λ (n : ℤ). pos (2 ^ 60) ≤ℤ displacement_radius_of c.args.lambda n) c.in_ok-size.ensures.value wide))

pub returns-clause-bounds : goal.returns-clause-bounds
returns-clause-bounds c =
    let u = c.args.u.now in
    let size = c.in_ok-size.ensures.value in
    let size_fits : FitsSigned w128 c.in_ok-size.size = search rules in
    let radius_fits : FitsSigned w128 c.in_ok-displacement_radius.field-0 = search rules in
    let widened_all = rw (to_z-of_z c.ranges.lambda, to_z-of_z size_fits, size) at c.widen_forces.ensures.widened in
    let around = rw (to_z-of_z radius_fits) at c.widen_displacements.ensures in
    let radius = rw (to_z-of_z c.ranges.lambda, to_z-of_z size_fits, size) at c.in_ok-displacement_radius.ensures.value in
    let near = rw radius at c.in_ok-displacement_radius.ensures.small in
    let forces = c.in_ok-size.ensures.forces in
    on_ok_weaker c.widen_forces.result
    (λ wider.
    record {
      exist = record {
        residuals = c.in_ok-size.ensures.residuals;
        forces = λ k inside. found_ok _ _ (forces.value k inside);
        short = c.in_ok-size.ensures.short;
        near = near;
        steady = wider.steady;
      };
      one_displacement_each = around.one_each ∙ c.requires.one_displacement_each;
      displacement = λ row inside. around.around row (omega (arith, inside, c.requires.one_displacement_each)) ∙ ap (λ (z : ℤ). widened (alone (get_or u row (pos 0))) z) radius;
      one_force_each = wider.one_each;
      force = λ k inside.
          wider.wider k inside ∙ ap (λ (f : Ends). widened f (force_radius (system c.args.b.now c.args.laws.now c.args.loads.now) u c.args.lambda k)) (sym (found_is _ _ (forces.value k inside)));
      no_states = refl;
    })
    widened_all
