use Rattle.std.proofs.Common.{rules, ◌≡◌, true, false, pos, ◌*ℤ◌, ◌+ℤ◌, arith, int_le, FitsSigned, to_z-of_z}
use Rattle.std.proofs.lemmas.Int.{ints}
use Rattle.std.specs.Int.{w64}
use Rattle.int_laws.proofs.Products.{mul_assoc}
use Rattle.sif_factors.specs.Factors.{tee_inverse_square_of}
use Rattle.sif_factors.proofs.characteristic.pad_inverse_square.Goals as goal

thin : (c : goal.After-padded) → int_le (pos 2 *ℤ c.args.thickness) (pos 3 *ℤ c.args.header.now.t) ≡ true
thin c =
    let t_fits : FitsSigned w64 c.args.header.now.t = search rules in
    let twice : FitsSigned w64 (pos 2 *ℤ c.args.thickness) = omega (arith, ints, c.requires.pad.least, c.requires.pad.most) in
    let thrice : FitsSigned w64 (pos 3 *ℤ c.args.header.now.t) = omega (arith, ints, c.requires.section.form.t.least, c.requires.section.form.t.most) in
    rw (to_z-of_z c.ranges.thickness, to_z-of_z twice, to_z-of_z t_fits, to_z-of_z thrice) at c.if-thickness-header.true

thick : (c : goal.After-inverse_square) → int_le (pos 2 *ℤ c.args.thickness) (pos 3 *ℤ c.args.header.now.t) ≡ false
thick c =
    let t_fits : FitsSigned w64 c.args.header.now.t = search rules in
    let twice : FitsSigned w64 (pos 2 *ℤ c.args.thickness) = omega (arith, ints, c.requires.pad.least, c.requires.pad.most) in
    let thrice : FitsSigned w64 (pos 3 *ℤ c.args.header.now.t) = omega (arith, ints, c.requires.section.form.t.least, c.requires.section.form.t.most) in
    rw (to_z-of_z c.ranges.thickness, to_z-of_z twice, to_z-of_z t_fits, to_z-of_z thrice) at c.if-thickness-header.false

pub returns-then-thickness-header-clause-value : goal.returns-then-thickness-header-clause-value
unfolding tee_inverse_square_of
returns-then-thickness-header-clause-value c =
    let first = rw (to_z-of_z c.ranges.thickness) at c.pad_wall.ensures.den in
    let second = rw (to_z-of_z c.ranges.thickness) at c.pad_inverse.ensures.den in
    let value = rw (c.pad_wall.ensures.num, first, c.pad_inverse.ensures.num, second) at c.padded.ensures.value in
    rw (thin c) value

pub returns-then-thickness-header-clause-within : goal.returns-then-thickness-header-clause-within
returns-then-thickness-header-clause-within c =
    let first = rw (to_z-of_z c.ranges.thickness) at c.pad_wall.ensures.den in
    let second = rw (to_z-of_z c.ranges.thickness) at c.pad_inverse.ensures.den in
    let within = rw (c.pad_wall.ensures.num, first, c.pad_inverse.ensures.num, second) at c.padded.ensures.within in
    let thick = pos 2 *ℤ c.args.header.now.t +ℤ c.args.thickness in
    rw (thin c) (rw (← mul_assoc ((thick *ℤ thick) *ℤ thick) thick thick) at within)

pub returns-else-thickness-header-clause-value : goal.returns-else-thickness-header-clause-value
unfolding tee_inverse_square_of
returns-else-thickness-header-clause-value c =
    let value = rw (c.wall_inverse.ensures.num, c.wall_inverse.ensures.den) at c.inverse_square.ensures.value in
    rw (thick c) value

pub returns-else-thickness-header-clause-within : goal.returns-else-thickness-header-clause-within
returns-else-thickness-header-clause-within c =
    let within = rw (c.wall_inverse.ensures.num, c.wall_inverse.ensures.den) at c.inverse_square.ensures.within in
    rw (thick c) within
