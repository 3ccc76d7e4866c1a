-- Half of a bend's angle is from 0 to a right angle.
use Rattle.std.proofs.Common.{◌≤◌, ◌^◌, ℕ, arith, pos, ◌≤ℤ◌}
use Rattle.std.specs.Prelude.{IsTrue}
use Rattle.std.proofs.lemmas.Int.{ints}
use Rattle.std.proofs.lemmas.Bool.Decides.{nat_tests}
use Rattle.angle_table.specs.HalfAngle.{is_bend_angle, HalfEnds}
use Rattle.angle_table.specs.Pi.{pi_ends}
use Rattle.angle_table.specs.declared.angle.Half.{Half}
use Rattle.flex_interval.proofs.SmallRatios.{IsSmall, small_ratio, ratio_lo, ratio_hi}
use Rattle.flex_interval.specs.Operations.{ratio_of}
use Rattle.load_vectors.proofs.Sizes.{same_outcome}

angle_most : (angle : ℕ) → IsTrue (is_bend_angle angle) → angle ≤ 180000
angle_most angle is = grind (arith, nat_tests)

small : (angle : ℕ) → angle ≤ 180000 → IsSmall pi_ends (pos angle)
small angle most = record { lo = omega (arith, ints); ordered = omega (arith, ints); factor = omega (arith, ints); small = omega (arith, ints) }

pub half_low : (angle : ℕ) (h : Half) → IsTrue (is_bend_angle angle) → HalfEnds angle h → pos 0 ≤ℤ h.a.lo
half_low angle h bend is =
    let held = small angle (angle_most angle bend) in
    rw (same_outcome (ratio_of pi_ends (pos angle) (pos 360000)) is.a (small_ratio pi_ends (pos angle) (pos 360000) held))
    (ratio_lo pi_ends (pos angle) (pos 360000) (omega (arith, ints)) held)

pub half_high : (angle : ℕ) (h : Half) → IsTrue (is_bend_angle angle) → HalfEnds angle h → h.a.hi ≤ℤ pos (2 ^ 57)
half_high angle h bend is =
    let most = angle_most angle bend in
    let held = small angle most in
    rw (same_outcome (ratio_of pi_ends (pos angle) (pos 360000)) is.a (small_ratio pi_ends (pos angle) (pos 360000) held))
    (ratio_hi pi_ends (pos angle) (pos 360000) (pos (2 ^ 57)) (omega (arith, ints)) held (omega (arith, ints)))
