-- A bend that keeps the rule of its record runs along a curve, with its corner off the line of its chord.
use Rattle.std.proofs.Common.{◌≡◌, suc, zero, ◌≤◌, refl, arith, ℤ, pos, negsuc, ◌+ℤ◌, ◌-ℤ◌, ◌*ℤ◌, ◌≤ℤ◌, unsigned_abs}
use Rattle.std.proofs.lemmas.Int.{ints, by_lt_z}
use Rattle.int_laws.proofs.Sums.{int_sums}
use Rattle.int_laws.proofs.Products.{square_nonnegative}
use Rattle.model_types.specs.Bends.{AreParallel, difference_between, difference_to}
use Rattle.model_types.specs.Ranges.{IsIn, of_size}
use Rattle.model_types.specs.declared.spans.Difference.{Difference}
use Rattle.member_pairs.specs.Span.{square_of}
use Rattle.bend_element.specs.Between.{BendSpansAreCurves}
use Rattle.bend_element.specs.Normal.{WaysCross, way_by, normal_parts, normal_to}

-- a number whose square isn't over 0 is 0
zero_of_square : (d : ℤ) → (d *ℤ d) ≤ℤ pos 0 → d ≡ pos 0
zero_of_square (pos zero) low = refl
zero_of_square (pos (suc n)) low = absurd (omega (arith, ints))
zero_of_square (negsuc n) low = absurd (omega (arith, ints))

same_of_square : (a b : ℤ) → ((a -ℤ b) *ℤ (a -ℤ b)) ≤ℤ pos 0 → a ≡ b
same_of_square a b low = let none = zero_of_square (a -ℤ b) low in omega (arith, int_sums, none)

-- of three numbers that aren't negative, and together not over 0, none is over 0
none_over : (a b c : ℤ) → pos 0 ≤ℤ a → pos 0 ≤ℤ b → pos 0 ≤ℤ c → ((a +ℤ b) +ℤ c) ≤ℤ pos 0 → (a ≤ℤ pos 0) × (b ≤ℤ pos 0) × (c ≤ℤ pos 0)
none_over a b c p q r h = (omega (arith, int_sums), omega (arith, int_sums), omega (arith, int_sums))

-- two ways whose cross product has no length are parallel
parallel_where_flat : (u v : Difference) → square_of (normal_parts (normal_to (way_by u) (way_by v))) ≤ℤ pos 0 → AreParallel u v
parallel_where_flat u v flat =
    let parts = none_over _ _ _ (square_nonnegative ((u.y *ℤ v.z) -ℤ (u.z *ℤ v.y))) (square_nonnegative ((u.z *ℤ v.x) -ℤ (u.x *ℤ v.z))) (square_nonnegative ((u.x *ℤ v.y) -ℤ (u.y *ℤ v.x))) flat in
    record {
      x = same_of_square (u.y *ℤ v.z) (u.z *ℤ v.y) parts.0;
      y = same_of_square (u.z *ℤ v.x) (u.x *ℤ v.z) parts.1;
      z = same_of_square (u.x *ℤ v.y) (u.y *ℤ v.x) parts.2;
    }

pub ways_cross : WaysCross
ways_cross u v off_line = by_lt_z (pos 0) _ (λ over. over) (λ flat. absurd (off_line (parallel_where_flat u v flat)))

in_size : (z : ℤ) → unsigned_abs z ≤ 100000000 → IsIn (of_size 100000000) z
in_size z near = record { least = omega (arith, ints, near); most = omega (arith, ints, near) }

pub spans_are_curves : BendSpansAreCurves
spans_are_curves from to s r angle x y z form span = (
  record {
    radius = record { range = record { least = form.radius.least; most = form.radius.most }; room = span.room };
    listed = form.listed;
    corner = record { x = in_size (x -ℤ from.x) span.near.x; y = in_size (y -ℤ from.y) span.near.y; z = in_size (z -ℤ from.z) span.near.z };
  },
  ways_cross (difference_between from to) (difference_to from x y z) span.off_line,
)
