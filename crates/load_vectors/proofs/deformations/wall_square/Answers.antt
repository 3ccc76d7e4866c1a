use Rattle.std.proofs.Common.{rules, refl, ◌≡◌, ◌<ℤ◌, ◌≤ℤ◌, pos, ◌-ℤ◌, ◌*ℤ◌, arith, FitsSigned, to_z-of_z}
use Rattle.std.specs.Int.{w128}
use Rattle.std.specs.Prelude.{false}
use Rattle.std.proofs.lemmas.Int.{ints}
use Rattle.int_laws.proofs.Sums.{int_sums}
use Rattle.int_laws.proofs.Products.{square_less}
use Rattle.section_data.specs.Tube.{IsTube, inside_diameter, difference_of_squares}
use Rattle.model_types.specs.declared.records.Section.{Section}
use Rattle.load_vectors.proofs.deformations.wall_square.Goals as goal

-- a pipe has a wall
positive : (s : Section) → IsTube s → pos 0 <ℤ difference_of_squares s false
positive s tube =
    let is : inside_diameter s false ≡ s.d -ℤ (pos 2 *ℤ s.t) = refl in
    let bore = tube.bore in
    let wall : pos 100 ≤ℤ s.t = tube.form.t.least in
    let low : pos 0 ≤ℤ inside_diameter s false = rw is (omega (arith, int_sums, bore)) in
    let below : inside_diameter s false <ℤ s.d = rw is (omega (arith, ints, wall)) in
    let less = square_less (inside_diameter s false) s.d low below in
    omega (arith, int_sums, less)

pub returns-clause-positive : goal.returns-clause-positive
returns-clause-positive c =
    let fits : FitsSigned w128 c.section.result.x = search rules in
    rw (to_z-of_z fits, c.section.ensures.x) (positive c.args.s.now c.requires.tube)
