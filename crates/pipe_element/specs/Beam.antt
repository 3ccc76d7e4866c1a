-- The stiffness matrix of a prismatic beam, as textbooks of structural analysis give it, in any direction, and that the
-- members of a straight add up to it.
--
-- Moments and rotations are per metre of a unit length of 1 m. With the unit vector t along the beam, P = t t^T and [t] the
-- matrix of the cross product with t, the blocks are
--   force by translation     EA/L P + 12EI/L^3 (I - P), negative between the ends
--   force by rotation        6EI/L^2 [t], negative at FROM
--   moment by rotation       GJ/L P + 4EI/L (I - P) at one end, 2EI/L (I - P) - GJ/L P between the ends
use Rattle.std.specs.Prelude.{ℕ, ◌^◌, ◌*◌, ◌≡◌, ℤ, pos, ◌+ℤ◌, ◌*ℤ◌}
use Rattle.flex_interval.specs.Fraction.{Fraction, whole, negated, scaled, times, over, plus, minus}
use Rattle.member_pairs.specs.Axes.{Axis, x_axis, y_axis, z_axis, Motion, translation, rotation, End, from_end, to_end, where_equal}
use Rattle.member_pairs.specs.Span.{Span}
use Rattle.member_pairs.specs.Lengths.{tangent}
use Rattle.member_pairs.specs.Vectors.{crossed}
use Rattle.member_pairs.specs.declared.tube.Tube.{Tube}
use Rattle.pipe_element.specs.ExactStraight.{Mode, axial, torsion, bending, shear, stiffness_of, shape_of, signed}

-- ---- the beam

-- a beam: its rigidities EA in 2^-20 N, EI and GJ in 2^-20 N m^2, its length in 2^-56 m and its unit vector in 2^-56
pub record Beam : Type 0 where
  pub ea : Fraction
  pub ei : Fraction
  pub gj : Fraction
  pub length : Fraction
  pub axis : Axis → Fraction

-- that of a tube: A = pi (D^2 - d^2) / 4, I = pi (D^4 - d^4) / 64, J = 2I, G = E / (2 (1 + nu)), with D and d in 10^-6 m,
-- E in 10^6 Pa and pi in 2^-56
unfoldable pub beam_of : Tube → Span → Fraction → Fraction → Beam
beam_of tube d pi length =
    let fourth_powers : ℤ = tube.square_difference *ℤ tube.square_sum in
    record {
      ea = scaled pi (tube.modulus *ℤ tube.square_difference) (pos (4 * 10 ^ 6 * 2 ^ 36));
      ei = scaled pi (tube.modulus *ℤ fourth_powers) (pos (64 * 10 ^ 18 * 2 ^ 36));
      gj = scaled (scaled pi ((tube.modulus *ℤ pos 1000) *ℤ (pos 2 *ℤ fourth_powers)) (pos (64 * 10 ^ 18 * 2 ^ 36))) (pos 1) (pos 2 *ℤ (pos 1000 +ℤ tube.poisson_ratio));
      length = scaled length (pos (2 ^ 20)) (pos (10 ^ 6));
      axis = tangent d length;
    }

abbrev pub per_length : Fraction → Beam → Fraction
per_length x b = over x b.length 56

-- a multiple of EI/L
abbrev pub ei_per_length : ℕ → Beam → Fraction
ei_per_length n b = scaled (per_length b.ei b) (pos n) (pos 1)

-- ---- its blocks

-- P: what is along the axis
abbrev pub along : Beam → Axis → Axis → Fraction
along b i k = times (b.axis i) (b.axis k) 56

-- I - P: what is across it
abbrev pub across : Beam → Axis → Axis → Fraction
across b i k = minus (where_equal (whole (pos (2 ^ 56))) (whole (pos 0)) i k) (along b i k)

-- [t]: the part along `i` of the cross product of the axis with `k`
abbrev pub turning : Beam → Axis → Axis → Fraction
turning b i k = crossed b.axis k i

-- EA/L P + 12EI/L^3 (I - P)
abbrev pub force_by_translation : Beam → Axis → Axis → Fraction
force_by_translation b i k = plus (times (per_length b.ea b) (along b i k) 56) (times (per_length (per_length (ei_per_length 12 b) b) b) (across b i k) 56)

-- 6EI/L^2 [t]
abbrev pub force_by_rotation : Beam → Axis → Axis → Fraction
force_by_rotation b i k = times (per_length (ei_per_length 6 b) b) (turning b i k) 56

-- GJ/L P + 4EI/L (I - P)
abbrev pub moment_at_end : Beam → Axis → Axis → Fraction
moment_at_end b i k = plus (times (per_length b.gj b) (along b i k) 56) (times (ei_per_length 4 b) (across b i k) 56)

-- 2EI/L (I - P) - GJ/L P
abbrev pub moment_carried_over : Beam → Axis → Axis → Fraction
moment_carried_over b i k = minus (times (ei_per_length 2 b) (across b i k) 56) (times (per_length b.gj b) (along b i k) 56)

-- a value for one end, and one for the two ends
abbrev pub between : {A : Type 0} → A → A → End → End → A
between one two from_end from_end = one
between one two to_end to_end = one
between one two _ _ = two

-- the beam's stiffness matrix, entry by entry, in units of 2^-20 N/m
abbrev pub beam_entry : Beam → End → Motion → Axis → End → Motion → Axis → Fraction
beam_entry b p translation i q translation k = between (force_by_translation b i k) (negated (force_by_translation b i k)) p q
beam_entry b p translation i q rotation k = signed p (force_by_rotation b i k)
beam_entry b p rotation i q translation k = signed q (force_by_rotation b k i)
beam_entry b p rotation i q rotation k = between (moment_at_end b i k) (moment_carried_over b i k) p q

-- ---- the members

-- over the three axes
abbrev pub over_axes : (Axis → Fraction) → Fraction
over_axes f = plus (plus (f x_axis) (f y_axis)) (f z_axis)

-- over the eight members
abbrev pub over_modes : (Mode → Fraction) → Fraction
over_modes f = plus (plus (f axial) (f torsion)) (plus (over_axes (λ e. f (bending e))) (over_axes (λ e. f (shear e))))

-- the sum of kappa w w^T, entry by entry
abbrev pub members_entry : Tube → Span → Fraction → Fraction → End → Motion → Axis → End → Motion → Axis → Fraction
members_entry tube d pi length p m i q n k =
    over_modes (λ mode. times (times (stiffness_of tube d pi length mode) (shape_of d length mode p m i) 56) (shape_of d length mode q n k) 56)

-- the same number
pub record Same (x y : Fraction) : Type 0 where
  pub same : (x.num *ℤ y.den) ≡ (y.num *ℤ x.den)

-- the sum of the members is the beam's stiffness matrix, entry by entry
abbrev pub AddUpToBeam : Tube → Span → Fraction → Fraction → Type 0
AddUpToBeam tube d pi length =
    (p : End) (m : Motion) (i : Axis) (q : End) (n : Motion) (k : Axis) →
    Same (members_entry tube d pi length p m i q n k) (beam_entry (beam_of tube d pi length) p m i q n k)
