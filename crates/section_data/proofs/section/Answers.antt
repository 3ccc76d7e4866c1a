use Rattle.std.proofs.Common.{rules, ◌≡◌, refl, arith, FitsSigned, to_z, of_z, to_z-of_z}
use Rattle.std.proofs.lemmas.Int.{ints}
use Rattle.std.specs.Int.{w128, w64}
use Rattle.flex_interval.specs.Fraction.{Within}
use Rattle.section_data.specs.Tube.{exact_area, exact_modulus, difference_of_squares, square_sum}
use Rattle.section_data.specs.Values.{values_of}
use Rattle.section_data.proofs.section.Goals as goal

x_is : (c : goal.After-weight) → to_z w128 (of_z w128 c.square_difference-x.result) ≡ difference_of_squares c.args.s.now c.args.reduced
x_is c =
    let d_fits : FitsSigned w64 c.args.s.now.d = search rules in
    let inside_fits : FitsSigned w64 c.inside_diameter-inside.result = search rules in
    let fits : FitsSigned w128 c.square_difference-x.result = search rules in
    rw (to_z-of_z fits) (rw (to_z-of_z d_fits, to_z-of_z inside_fits, c.inside_diameter-inside.ensures.value) at c.square_difference-x.ensures.value)

y_is : (c : goal.After-weight) → to_z w128 (of_z w128 c.square_sum-y.result) ≡ square_sum c.args.s.now c.args.reduced
y_is c =
    let d_fits : FitsSigned w64 c.args.s.now.d = search rules in
    let inside_fits : FitsSigned w64 c.inside_diameter-inside.result = search rules in
    let fits : FitsSigned w128 c.square_sum-y.result = search rules in
    rw (to_z-of_z fits) (rw (to_z-of_z d_fits, to_z-of_z inside_fits, c.inside_diameter-inside.ensures.value) at c.square_sum-y.ensures.value)

d_is : (c : goal.After-weight) → to_z w64 (of_z w64 c.args.s.now.d) ≡ c.args.s.now.d
d_is c = let fits : FitsSigned w64 c.args.s.now.d = search rules in to_z-of_z fits

pub modulus-requires-clause-outside_low : goal.modulus-requires-clause-outside_low
modulus-requires-clause-outside_low c = omega (arith, ints, c.requires.tube.form.d.least, c.requires.tube.form.d.most)

pub modulus-requires-clause-outside_high : goal.modulus-requires-clause-outside_high
modulus-requires-clause-outside_high c = omega (arith, ints, c.requires.tube.form.d.least, c.requires.tube.form.d.most)

pub returns-clause-x : goal.returns-clause-x
returns-clause-x c = x_is c

pub returns-clause-y : goal.returns-clause-y
returns-clause-y c = y_is c

pub returns-clause-area : goal.returns-clause-area
returns-clause-area c = rw (x_is c) at c.area-area.ensures.value

pub returns-clause-modulus : goal.returns-clause-modulus
returns-clause-modulus c = rw (y_is c, d_is c) at c.modulus.ensures.value

pub returns-clause-encloses : goal.returns-clause-encloses
unfolding exact_modulus
returns-clause-encloses c = λ pi within.
    let area : Within c.area-area.result (exact_area pi (difference_of_squares c.args.s.now c.args.reduced)) = (rw (x_is c) at c.area-area.ensures.within) pi within in
    record {
      area = area;
      modulus = (rw (y_is c, d_is c) at c.modulus.ensures.within) _ area;
      weight = c.weight.ensures.within _ (c.full_area.ensures.within pi within);
    }

pub returns-clause-values : goal.returns-clause-values
unfolding values_of
returns-clause-values c =
    let area = rw (x_is c) at c.area-area.ensures.value in
    let modulus = rw (y_is c, d_is c) at c.modulus.ensures.value in
    rw (x_is c, y_is c, area, modulus, c.full_area.ensures.value, c.weight.ensures.value) refl
