-- A gap or a movement in 2^-56 m.
use Rattle.std.proofs.Common.{◌≡◌, ◌^◌, ◌<◌, refl, arith, Ok, ℤ, pos, ◌*ℤ◌, unsigned_abs, ◌≢◌, true, false, FitsSigned}
use Rattle.std.proofs.lemmas.Int.{ints, clamps}
use Rattle.std.specs.Int.{int_min, w64}
use Rattle.std.specs.Ordering.{int_eq}
use Rattle.std.proofs.lemmas.Bool.Decides.{Decides-int_eq}
use Rattle.int_laws.proofs.Sums.{int_sums}
use Rattle.flex_interval.specs.Operations.{point_of, multiple_of, ratio_of}
use Rattle.model_types.specs.Ranges.{IsIn}
use Rattle.model_types.specs.declared.ranges.TheConstants.{GAP, MOVEMENT}
use Rattle.restraint_law.specs.Restraints.{is_shut}
use Rattle.restraint_law.specs.States.{micrometres_of}
use Rattle.restraint_law.proofs.DirectionLemmas.{product_is}

length_small : (length : ℤ) → IsIn MOVEMENT length → unsigned_abs (length *ℤ pos (2 ^ 56)) < 2 ^ 126
length_small length h = omega (arith, ints, h.least, h.most)

min_self : (x : ℤ) → int_min x x ≡ x
min_self x = omega (arith, int_sums, clamps)

pub length_ratio : (length : ℤ) → IsIn MOVEMENT length → ratio_of (point_of length) (pos (2 ^ 56)) (pos 1000000) ≡ Ok (micrometres_of length)
unfolding ratio_of multiple_of
length_ratio length h = rw (product_is length (pos (2 ^ 56)) (length_small length h), min_self (length *ℤ pos (2 ^ 56))) refl

pub gap_fits : (gap : ℤ) → IsIn GAP gap → FitsSigned w64 gap
gap_fits gap h = omega (arith, int_sums, h.least, h.most)

pub not_shut : (gap : ℤ) → gap ≢ pos 0 → is_shut gap ≡ false
not_shut gap apart =
    elim (int_eq gap (pos 0)) as (λ t. int_eq gap (pos 0) ≡ t → t ≡ false) [
      | true ↦ λ same. absurd (apart ((Decides-int_eq gap (pos 0)).0 same))
      | false ↦ λ _. refl
    ] refl
