-- The eight members of a straight add up to the stiffness matrix of a beam, in any direction.
use Rattle.std.proofs.Common.{◌≡◌, ℕ, ◌*◌, ◌^◌, refl, ap, sym, ◌∙◌, subst, arith, ℤ, pos, negsuc, ◌+ℤ◌, ◌-ℤ◌, ◌*ℤ◌, neg_ℤ, ◌<ℤ◌}
use Rattle.std.proofs.lemmas.Int.{ints}
use Rattle.int_laws.proofs.Sums.{int_sums}
use Rattle.int_laws.proofs.Products.{mul_comm, mul_assoc, one-mul, zero-mul, mul-neg, mul-sub, mul_positive, lt_of_mul}
use Rattle.flex_interval.specs.Fraction.{Fraction, whole, negated, scaled, times, over, minus}
use Rattle.member_pairs.specs.Axes.{Axis, x_axis, y_axis, z_axis, Motion, translation, rotation, End, from_end, to_end}
use Rattle.member_pairs.specs.Span.{Span, square_of, IsLengthOf}
use Rattle.member_pairs.specs.Lengths.{tangent, half_length}
use Rattle.member_pairs.specs.Vectors.{crossed}
use Rattle.member_pairs.specs.declared.tube.Tube.{Tube}
use Rattle.pipe_element.specs.ExactStraight.{Mode, axial, torsion, bending, shear, lever_arm, signed, shape_of, axial_stiffness, bending_stiffness, torsion_stiffness, shear_stiffness, stiffness_of}
use Rattle.pipe_element.specs.Beam.{Beam, beam_of, per_length, ei_per_length, along, across, turning, force_by_translation, force_by_rotation, moment_at_end, moment_carried_over, between, beam_entry, members_entry, AddUpToBeam, Same}
use Rattle.pipe_element.proofs.Readings.{Reads, reads_whole, reads_at, reads_same, reads_negated, reads_scaled, reads_times, reads_plus, reads_minus, reads_over}
use Rattle.pipe_element.proofs.CrossProducts.{cross, lever, mul-zero}
use Rattle.pipe_element.proofs.MemberSums.{double, double_square, sign, part_of, Numerators, numerator_of, term_of, sum_of_modes, IsShear}
use Rattle.pipe_element.proofs.MemberSums as sums
use Rattle.pipe_element.proofs.Balances as balance

reads_as : {x : Fraction} {n q : ℤ} (m : ℤ) → n ≡ m → Reads x n q → Reads x m q
reads_as {x} {n} {q} m e reads = subst (λ (z : ℤ). Reads x z q) e reads

-- ---- shape vectors, over one denominator

abbrev denominator : Fraction → ℤ
denominator length = pos (10 ^ 6) *ℤ length.num

abbrev factor_of : Fraction → ℤ
factor_of length = pos (2 ^ 91) *ℤ length.den

-- x has the whole part w: it is 2^91 w / (10^6 L)
record IsPart (length x : Fraction) (w : ℤ) : Type 0 where
  reads : Reads x (factor_of length *ℤ w) (denominator length)

length_reads : {d : Span} {length : Fraction} → IsLengthOf d length → Reads length length.num length.den
length_reads {d} {length} e = record { defined = e.defined; positive = e.defined; same = refl }

denominator_positive : {d : Span} {length : Fraction} → IsLengthOf d length → pos 0 <ℤ denominator length
denominator_positive {d} {length} e = mul_positive (pos (10 ^ 6)) length.num (omega (arith, ints)) e.positive

square_positive : {d : Span} {length : Fraction} → IsLengthOf d length → pos 0 <ℤ square_of d
square_positive {d} {length} e =
    let c : ℤ = pos (2 ^ 72) *ℤ (length.den *ℤ length.den) in
    let above : pos 0 <ℤ c = mul_positive (pos (2 ^ 72)) (length.den *ℤ length.den) (omega (arith, ints)) (mul_positive length.den length.den e.defined e.defined) in
    let square : pos 0 <ℤ (length.num *ℤ length.num) = mul_positive length.num length.num e.positive e.positive in
    lt_of_mul c (pos 0) (square_of d) (omega (arith, int_sums))
    (omega (arith, int_sums, zero-mul c, mul_assoc (square_of d) (pos (2 ^ 72)) (length.den *ℤ length.den), e.square))

zero_part : {d : Span} {length : Fraction} → IsLengthOf d length → IsPart length (whole (pos 0)) (pos 0)
zero_part {d} {length} e = record {
  reads = reads_at (factor_of length *ℤ pos 0) (denominator length) (reads_whole (pos 0)) (denominator_positive e)
      (zero-mul (denominator length) ∙ sym (ap (λ z. z *ℤ pos 1) (mul-zero (factor_of length))));
}

negated_part : {length x : Fraction} {w : ℤ} → IsPart length x w → IsPart length (negated x) (neg_ℤ w)
negated_part {length} {x} {w} p = record {
  reads = reads_as (factor_of length *ℤ neg_ℤ w) (sym (mul-neg (factor_of length) w)) (reads_negated p.reads);
}

part_as : {length x : Fraction} {w : ℤ} (v : ℤ) → w ≡ v → IsPart length x w → IsPart length x v
part_as {length} {x} {w} v e p = subst (λ (z : ℤ). IsPart length x z) e p

minus_one-mul : (w : ℤ) → neg_ℤ w ≡ negsuc 0 *ℤ w
minus_one-mul w = omega (arith, ints)

signed_part : {length x : Fraction} {w : ℤ} (end : End) → IsPart length x w → IsPart length (signed end x) (sign end *ℤ w)
signed_part {length} {x} {w} from_end p = part_as (negsuc 0 *ℤ w) (minus_one-mul w) (negated_part p)
signed_part {length} {x} {w} to_end p = part_as (pos 1 *ℤ w) (sym (one-mul w)) p

tangent_part : {d : Span} {length : Fraction} → IsLengthOf d length → (i : Axis) → IsPart length (tangent d length i) (double *ℤ d i)
unfolding tangent
tangent_part {d} {length} e i = record {
  reads = reads_at (factor_of length *ℤ (double *ℤ d i)) (denominator length)
      (reads_over 56 (reads_whole (d i *ℤ pos (2 ^ 36))) (length_reads e) e.positive e.positive)
      (denominator_positive e) (balance.tangent_balance (d i) length.den length.num);
}

half_part : {d : Span} {length : Fraction} → IsLengthOf d length → IsPart length (half_length length) (square_of d)
unfolding half_length
half_part {d} {length} e = record {
  reads = reads_at (factor_of length *ℤ square_of d) (denominator length)
      (reads_scaled (pos (2 ^ 19)) (pos (10 ^ 6)) (omega (arith, ints)) (length_reads e))
      (denominator_positive e) (sym (balance.half_balance (square_of d) length.den length.num e.square));
}

-- the parts of a vector along the axis
abbrev IsAlong : Span → Fraction → (Axis → Fraction) → Type 0
IsAlong d length t = (i : Axis) → IsPart length (t i) (double *ℤ d i)

turned_part : {length x : Fraction} (w : ℤ) → IsPart length x (double *ℤ w) → IsPart length (negated x) (double *ℤ neg_ℤ w)
turned_part {length} {x} w p = part_as (double *ℤ neg_ℤ w) (sym (mul-neg double w)) (negated_part p)

crossed_part : {d : Span} {length : Fraction} → IsLengthOf d length → (t : Axis → Fraction) → IsAlong d length t → (e i : Axis) →
    IsPart length (crossed t e i) (double *ℤ cross d e i)
crossed_part {d} {length} l t p x_axis x_axis = zero_part l
crossed_part {d} {length} l t p x_axis y_axis = p z_axis
crossed_part {d} {length} l t p x_axis z_axis = turned_part (d y_axis) (p y_axis)
crossed_part {d} {length} l t p y_axis x_axis = turned_part (d z_axis) (p z_axis)
crossed_part {d} {length} l t p y_axis y_axis = zero_part l
crossed_part {d} {length} l t p y_axis z_axis = p x_axis
crossed_part {d} {length} l t p z_axis x_axis = p y_axis
crossed_part {d} {length} l t p z_axis y_axis = turned_part (d x_axis) (p x_axis)
crossed_part {d} {length} l t p z_axis z_axis = zero_part l

-- the part of a lever arm along the axis
along_part : {d : Span} {length : Fraction} → IsLengthOf d length → (e k : Axis) → IsPart length (scaled (tangent d length e) (d k) double) (d e *ℤ d k)
along_part {d} {length} l e k = record {
  reads = reads_at (factor_of length *ℤ (d e *ℤ d k)) (denominator length)
      (reads_scaled (d k) double (omega (arith, ints)) (tangent_part l e).reads)
      (denominator_positive l) (balance.arm_balance (factor_of length) (denominator length) (d e) (d k));
}

difference_part : {length x y : Fraction} {v w : ℤ} → IsPart length x v → IsPart length y w → IsPart length (minus x y) (v -ℤ w)
difference_part {length} {x} {y} {v} {w} p r = record {
  reads = reads_as (factor_of length *ℤ (v -ℤ w)) (sym (mul-sub (factor_of length) v w)) (reads_minus p.reads r.reads);
}

lever_part : {d : Span} {length : Fraction} → IsLengthOf d length → (e k : Axis) → IsPart length (lever_arm d length e k) (lever d e k)
unfolding lever_arm
lever_part l x_axis x_axis = difference_part (half_part l) (along_part l x_axis x_axis)
lever_part l x_axis y_axis = negated_part (along_part l x_axis y_axis)
lever_part l x_axis z_axis = negated_part (along_part l x_axis z_axis)
lever_part l y_axis x_axis = negated_part (along_part l y_axis x_axis)
lever_part l y_axis y_axis = difference_part (half_part l) (along_part l y_axis y_axis)
lever_part l y_axis z_axis = negated_part (along_part l y_axis z_axis)
lever_part l z_axis x_axis = negated_part (along_part l z_axis x_axis)
lever_part l z_axis y_axis = negated_part (along_part l z_axis y_axis)
lever_part l z_axis z_axis = difference_part (half_part l) (along_part l z_axis z_axis)

shape_part : {d : Span} {length : Fraction} → IsLengthOf d length → (mode : Mode) (p : End) (m : Motion) (i : Axis) →
    IsPart length (shape_of d length mode p m i) (part_of d mode p m i)
shape_part l axial p translation i = signed_part p (tangent_part l i)
shape_part l axial p rotation i = zero_part l
shape_part l torsion p translation i = zero_part l
shape_part l torsion p rotation i = signed_part p (tangent_part l i)
shape_part l (bending e) p translation i = zero_part l
shape_part {d} {length} l (bending e) p rotation i = signed_part p (crossed_part l (tangent d length) (tangent_part l) e i)
shape_part {d} {length} l (shear e) p translation i = signed_part p (crossed_part l (tangent d length) (tangent_part l) e i)
shape_part l (shear e) p rotation i = lever_part l e i

-- ---- the members' sum

-- the denominator of a matrix entry, where q is that of the stiffnesses
abbrev entry_denominator : Span → ℤ → ℤ
entry_denominator d q = q *ℤ (double_square *ℤ square_of d)

entry_denominator_positive : {d : Span} {length : Fraction} → IsLengthOf d length → (q : ℤ) → pos 0 <ℤ q → pos 0 <ℤ entry_denominator d q
entry_denominator_positive {d} {length} l q h = mul_positive q _ h (mul_positive double_square (square_of d) (omega (arith, ints)) (square_positive l))

-- kappa v w
term_reads : {d : Span} {length : Fraction} → IsLengthOf d length → {kappa x y : Fraction} {n q v w : ℤ} →
    Reads kappa n q → IsPart length x v → IsPart length y w → Reads (times (times kappa x 56) y 56) (n *ℤ (v *ℤ w)) (entry_denominator d q)
term_reads {d} {length} l {kappa} {x} {y} {n} {q} {v} {w} k a b =
    reads_at (n *ℤ (v *ℤ w)) (entry_denominator d q) (reads_times 56 (reads_times 56 k a.reads) b.reads)
    (entry_denominator_positive l q k.positive)
    (balance.term_balance n v w q (square_of d) length.den length.num l.square)

members_read : {d : Span} {length : Fraction} → IsLengthOf d length → (tube : Tube) (pi : Fraction) (n : Numerators) (q : ℤ) →
    ((mode : Mode) → Reads (stiffness_of tube d pi length mode) (numerator_of n mode) q) →
    (p : End) (m : Motion) (i : Axis) (o : End) (r : Motion) (k : Axis) →
    Reads (members_entry tube d pi length p m i o r k) (sum_of_modes (term_of n d p m i o r k)) (entry_denominator d q)
members_read {d} {length} l tube pi n q stiffness p m i o r k =
    let one = λ (mode : Mode). term_reads l (stiffness mode) (shape_part l mode p m i) (shape_part l mode o r k) in
    reads_plus (reads_plus (one axial) (one torsion))
    (reads_plus (reads_plus (reads_plus (one (bending x_axis)) (one (bending y_axis))) (one (bending z_axis)))
    (reads_plus (reads_plus (one (shear x_axis)) (one (shear y_axis))) (one (shear z_axis))))

-- ---- the beam

-- the beam's numbers, by the same numerators
record IsBeam (b : Beam) (n : Numerators) (d : Span) (length : Fraction) (q : ℤ) : Type 0 where
  axis : IsAlong d length b.axis
  ea : Reads (per_length b.ea b) n.axial q
  gj : Reads (per_length b.gj b) n.torsion q
  ei : Reads (per_length b.ei b) n.bending q
  sway : Reads (per_length (per_length (ei_per_length 12 b) b) b) n.shear q
  coupling : (x : Fraction) (w : ℤ) → IsPart length x (double *ℤ w) →
      Reads (times (per_length (ei_per_length 6 b) b) x 56) ((n.bending *ℤ pos 6) *ℤ (pos (10 ^ 6) *ℤ w)) (q *ℤ square_of d)

along_reads : {d : Span} {length : Fraction} → IsLengthOf d length → (b : Beam) → IsAlong d length b.axis → (i k : Axis) →
    Reads (along b i k) (pos (2 ^ 56) *ℤ (d i *ℤ d k)) (square_of d)
along_reads {d} {length} l b axis i k =
    reads_at (pos (2 ^ 56) *ℤ (d i *ℤ d k)) (square_of d) (reads_times 56 (axis i).reads (axis k).reads) (square_positive l)
    (balance.along_balance (d i) (d k) (square_of d) length.den length.num l.square)

across_same : {x : Fraction} (s m : ℤ) → pos 0 <ℤ s → Reads x (pos (2 ^ 56) *ℤ m) s → Reads (minus (whole (pos (2 ^ 56))) x) (pos (2 ^ 56) *ℤ (s -ℤ m)) s
across_same {x} s m positive h =
    let unit : pos (2 ^ 56) *ℤ s ≡ (pos (2 ^ 56) *ℤ s) *ℤ pos 1 = sym (mul_comm (pos (2 ^ 56) *ℤ s) (pos 1) ∙ one-mul (pos (2 ^ 56) *ℤ s)) in
    reads_as (pos (2 ^ 56) *ℤ (s -ℤ m)) (sym (mul-sub (pos (2 ^ 56)) s m)) (reads_minus (reads_at (pos (2 ^ 56) *ℤ s) s (reads_whole (pos (2 ^ 56))) positive unit) h)

across_other : {x : Fraction} (s m : ℤ) → pos 0 <ℤ s → Reads x (pos (2 ^ 56) *ℤ m) s → Reads (minus (whole (pos 0)) x) (pos (2 ^ 56) *ℤ neg_ℤ m) s
across_other {x} s m positive h =
    reads_as (pos (2 ^ 56) *ℤ neg_ℤ m) (omega (arith, int_sums, mul-neg (pos (2 ^ 56)) m)) (reads_minus (reads_at (pos 0) s (reads_whole (pos 0)) positive (zero-mul s)) h)

across_reads : {d : Span} {length : Fraction} → IsLengthOf d length → (b : Beam) → IsAlong d length b.axis → (i k : Axis) →
    Reads (across b i k) (pos (2 ^ 56) *ℤ lever d i k) (square_of d)
across_reads {d} l b axis x_axis x_axis = across_same _ (d x_axis *ℤ d x_axis) (square_positive l) (along_reads l b axis x_axis x_axis)
across_reads {d} l b axis x_axis y_axis = across_other _ (d x_axis *ℤ d y_axis) (square_positive l) (along_reads l b axis x_axis y_axis)
across_reads {d} l b axis x_axis z_axis = across_other _ (d x_axis *ℤ d z_axis) (square_positive l) (along_reads l b axis x_axis z_axis)
across_reads {d} l b axis y_axis x_axis = across_other _ (d y_axis *ℤ d x_axis) (square_positive l) (along_reads l b axis y_axis x_axis)
across_reads {d} l b axis y_axis y_axis = across_same _ (d y_axis *ℤ d y_axis) (square_positive l) (along_reads l b axis y_axis y_axis)
across_reads {d} l b axis y_axis z_axis = across_other _ (d y_axis *ℤ d z_axis) (square_positive l) (along_reads l b axis y_axis z_axis)
across_reads {d} l b axis z_axis x_axis = across_other _ (d z_axis *ℤ d x_axis) (square_positive l) (along_reads l b axis z_axis x_axis)
across_reads {d} l b axis z_axis y_axis = across_other _ (d z_axis *ℤ d y_axis) (square_positive l) (along_reads l b axis z_axis y_axis)
across_reads {d} l b axis z_axis z_axis = across_same _ (d z_axis *ℤ d z_axis) (square_positive l) (along_reads l b axis z_axis z_axis)

-- a stiffness times an entry of a projector
block_reads : {d : Span} {length : Fraction} → IsLengthOf d length → {kappa x : Fraction} {n q : ℤ} (m : ℤ) →
    Reads kappa n q → Reads x (pos (2 ^ 56) *ℤ m) (square_of d) → Reads (times kappa x 56) (n *ℤ (m *ℤ double_square)) (entry_denominator d q)
block_reads {d} {length} l {kappa} {x} {n} {q} m k h =
    reads_at (n *ℤ (m *ℤ double_square)) (entry_denominator d q) (reads_times 56 k h) (entry_denominator_positive l q k.positive)
    (balance.part_balance n m q (square_of d))

multiple_reads : (b : Beam) {n q : ℤ} (m : ℕ) → Reads (per_length b.ei b) n q → Reads (ei_per_length m b) (n *ℤ pos m) q
multiple_reads b {n} {q} m h =
    reads_at (n *ℤ pos m) q (reads_scaled (pos m) (pos 1) (omega (arith, ints)) h) h.positive
    (ap (λ z. (n *ℤ pos m) *ℤ z) (sym (mul_comm q (pos 1) ∙ one-mul q)))

forces_by_translation_read : {b : Beam} {n : Numerators} {d : Span} {length : Fraction} {q : ℤ} → IsLengthOf d length → IsBeam b n d length q → (i k : Axis) →
    Reads (force_by_translation b i k) ((n.axial *ℤ ((d i *ℤ d k) *ℤ double_square)) +ℤ (n.shear *ℤ (lever d i k *ℤ double_square))) (entry_denominator d q)
forces_by_translation_read {b} {n} {d} l h i k =
    reads_plus (block_reads l (d i *ℤ d k) h.ea (along_reads l b h.axis i k)) (block_reads l (lever d i k) h.sway (across_reads l b h.axis i k))

forces_by_rotation_read : {b : Beam} {n : Numerators} {d : Span} {length : Fraction} {q : ℤ} → IsLengthOf d length → IsBeam b n d length q → (i k : Axis) →
    Reads (force_by_rotation b i k) (((n.bending *ℤ pos 6) *ℤ (pos (10 ^ 6) *ℤ cross d k i)) *ℤ double_square) (entry_denominator d q)
forces_by_rotation_read {b} {n} {d} {length} {q} l h i k =
    let c : ℤ = (n.bending *ℤ pos 6) *ℤ (pos (10 ^ 6) *ℤ cross d k i) in
    reads_at (c *ℤ double_square) (entry_denominator d q) (h.coupling (turning b i k) (cross d k i) (crossed_part l b.axis h.axis k i))
    (entry_denominator_positive l q h.ea.positive) (balance.widen_balance c q (square_of d))

moments_at_end_read : {b : Beam} {n : Numerators} {d : Span} {length : Fraction} {q : ℤ} → IsLengthOf d length → IsBeam b n d length q → (i k : Axis) →
    Reads (moment_at_end b i k) ((n.torsion *ℤ ((d i *ℤ d k) *ℤ double_square)) +ℤ ((n.bending *ℤ pos 4) *ℤ (lever d i k *ℤ double_square))) (entry_denominator d q)
moments_at_end_read {b} {n} {d} l h i k =
    reads_plus (block_reads l (d i *ℤ d k) h.gj (along_reads l b h.axis i k)) (block_reads l (lever d i k) (multiple_reads b 4 h.ei) (across_reads l b h.axis i k))

moments_carried_over_read : {b : Beam} {n : Numerators} {d : Span} {length : Fraction} {q : ℤ} → IsLengthOf d length → IsBeam b n d length q → (i k : Axis) →
    Reads (moment_carried_over b i k) (((n.bending *ℤ pos 2) *ℤ (lever d i k *ℤ double_square)) -ℤ (n.torsion *ℤ ((d i *ℤ d k) *ℤ double_square))) (entry_denominator d q)
moments_carried_over_read {b} {n} {d} l h i k =
    reads_minus (block_reads l (lever d i k) (multiple_reads b 2 h.ei) (across_reads l b h.axis i k)) (block_reads l (d i *ℤ d k) h.gj (along_reads l b h.axis i k))

signed_reads : {x : Fraction} {n q : ℤ} (p : End) → Reads x n q → Reads (signed p x) (sign p *ℤ n) q
signed_reads {x} {n} {q} from_end h = reads_as (negsuc 0 *ℤ n) (minus_one-mul n) (reads_negated h)
signed_reads {x} {n} {q} to_end h = reads_as (pos 1 *ℤ n) (sym (one-mul n)) h

between_reads : {x : Fraction} {n q : ℤ} (p o : End) → Reads x n q → Reads (between x (negated x) p o) ((sign p *ℤ sign o) *ℤ n) q
between_reads {x} {n} {q} from_end from_end h = reads_as (pos 1 *ℤ n) (sym (one-mul n)) h
between_reads {x} {n} {q} from_end to_end h = reads_as (negsuc 0 *ℤ n) (minus_one-mul n) (reads_negated h)
between_reads {x} {n} {q} to_end from_end h = reads_as (negsuc 0 *ℤ n) (minus_one-mul n) (reads_negated h)
between_reads {x} {n} {q} to_end to_end h = reads_as (pos 1 *ℤ n) (sym (one-mul n)) h

four_fold : (t b m : ℤ) → t +ℤ ((b *ℤ pos 4) *ℤ m) ≡ (pos 1 *ℤ t) +ℤ (pos 4 *ℤ (b *ℤ m))
four_fold t b m = omega (arith, int_sums, one-mul t, balance.four_balance b m)

two_fold : (t b m : ℤ) → ((b *ℤ pos 2) *ℤ m) -ℤ t ≡ (negsuc 0 *ℤ t) +ℤ (pos 2 *ℤ (b *ℤ m))
two_fold t b m = omega (arith, int_sums, minus_one-mul t, balance.two_balance b m)

-- the two moment blocks, with the signs of the ends
moments_between : {x y : Fraction} {q : ℤ} (t b m : ℤ) (p o : End) →
    Reads x (t +ℤ ((b *ℤ pos 4) *ℤ m)) q → Reads y (((b *ℤ pos 2) *ℤ m) -ℤ t) q →
    Reads (between x y p o) (((sign p *ℤ sign o) *ℤ t) +ℤ (((sign p *ℤ sign o) +ℤ pos 3) *ℤ (b *ℤ m))) q
moments_between {x} {y} {q} t b m from_end from_end h g = reads_as _ (four_fold t b m) h
moments_between {x} {y} {q} t b m from_end to_end h g = reads_as _ (two_fold t b m) g
moments_between {x} {y} {q} t b m to_end from_end h g = reads_as _ (two_fold t b m) g
moments_between {x} {y} {q} t b m to_end to_end h g = reads_as _ (four_fold t b m) h

law : {b : Beam} {n : Numerators} {d : Span} {length : Fraction} {q : ℤ} (tube : Tube) (pi : Fraction) → IsLengthOf d length → IsBeam b n d length q → IsShear n d →
    ((mode : Mode) → Reads (stiffness_of tube d pi length mode) (numerator_of n mode) q) →
    (p : End) (m : Motion) (i : Axis) (o : End) (r : Motion) (k : Axis) → Same (members_entry tube d pi length p m i o r k) (beam_entry b p m i o r k)
law {b} {n} {d} {length} {q} tube pi l h e stiffness p translation i o translation k =
    reads_same (reads_as _ (sums.translations n d p o i k) (members_read l tube pi n q stiffness p translation i o translation k))
    (between_reads p o (forces_by_translation_read l h i k))
law {b} {n} {d} {length} {q} tube pi l h e stiffness p translation i o rotation k =
    reads_same (reads_as _ (sums.force_by_rotation n d p o i k e) (members_read l tube pi n q stiffness p translation i o rotation k))
    (signed_reads p (forces_by_rotation_read l h i k))
law {b} {n} {d} {length} {q} tube pi l h e stiffness p rotation i o translation k =
    reads_same (reads_as _ (sums.moment_by_translation n d p o i k e) (members_read l tube pi n q stiffness p rotation i o translation k))
    (signed_reads o (forces_by_rotation_read l h k i))
law {b} {n} {d} {length} {q} tube pi l h e stiffness p rotation i o rotation k =
    reads_same (reads_as _ (sums.rotations n d p o i k e) (members_read l tube pi n q stiffness p rotation i o rotation k))
    (moments_between (n.torsion *ℤ ((d i *ℤ d k) *ℤ double_square)) n.bending (lever d i k *ℤ double_square) p o (moments_at_end_read l h i k) (moments_carried_over_read l h i k))

-- ---- the numerators of a tube

-- one by the denominator of the stiffnesses
abbrev tube_denominator : Tube → Span → Fraction → Fraction → ℤ
tube_denominator tube d pi length = ((pi.den *ℤ length.num) *ℤ pos (64 * 10 ^ 12)) *ℤ ((pos 1000 +ℤ tube.poisson_ratio) *ℤ square_of d)

abbrev numerators : Tube → Span → Fraction → Fraction → Numerators
numerators tube d pi length =
    let unit : ℤ = pi.num *ℤ length.den in
    let ring : ℤ = tube.modulus *ℤ tube.square_difference in
    let shape : ℤ = ring *ℤ tube.square_sum in
    let softness : ℤ = pos 1000 +ℤ tube.poisson_ratio in
    record {
      axial = unit *ℤ (ring *ℤ (pos (16 * 10 ^ 12) *ℤ (softness *ℤ square_of d)));
      torsion = unit *ℤ (shape *ℤ (pos 1000 *ℤ square_of d));
      bending = unit *ℤ (shape *ℤ (softness *ℤ square_of d));
      shear = unit *ℤ (shape *ℤ (pos (12 * 10 ^ 12) *ℤ softness));
    }

-- what the stiffnesses ask of a tube and of a value of pi
record IsSound (tube : Tube) (pi : Fraction) : Type 0 where
  defined : pos 0 <ℤ pi.den
  soft : pos 0 <ℤ (pos 1000 +ℤ tube.poisson_ratio)

pi_reads : {tube : Tube} {pi : Fraction} → IsSound tube pi → Reads pi pi.num pi.den
pi_reads {tube} {pi} t = record { defined = t.defined; positive = t.defined; same = refl }

tube_denominator_positive : {d : Span} {length : Fraction} {tube : Tube} {pi : Fraction} → IsLengthOf d length → IsSound tube pi → pos 0 <ℤ tube_denominator tube d pi length
tube_denominator_positive {d} {length} {tube} {pi} l t =
    mul_positive _ _ (mul_positive _ (pos (64 * 10 ^ 12)) (mul_positive pi.den length.num t.defined l.positive) (omega (arith, ints))) (mul_positive _ (square_of d) t.soft (square_positive l))

axial_reads : {d : Span} {length : Fraction} {tube : Tube} {pi : Fraction} → IsLengthOf d length → IsSound tube pi →
    Reads (axial_stiffness tube pi length) (numerators tube d pi length).axial (tube_denominator tube d pi length)
unfolding axial_stiffness scaled
axial_reads {d} {length} {tube} {pi} l t =
    let four : pos 0 <ℤ (length.num *ℤ pos 4) = mul_positive length.num (pos 4) l.positive (omega (arith, ints)) in
    reads_at _ _
    (reads_over 0 (reads_scaled (tube.modulus *ℤ tube.square_difference) (pos 1) (omega (arith, ints)) (pi_reads t)) (reads_scaled (pos 4) (pos 1) (omega (arith, ints)) (length_reads l)) four four)
    (tube_denominator_positive l t)
    (balance.axial_balance pi.num pi.den tube.modulus tube.square_difference (pos 1000 +ℤ tube.poisson_ratio) (square_of d) length.den length.num)

bending_reads : {d : Span} {length : Fraction} {tube : Tube} {pi : Fraction} → IsLengthOf d length → IsSound tube pi →
    Reads (bending_stiffness tube pi length) (numerators tube d pi length).bending (tube_denominator tube d pi length)
unfolding bending_stiffness
bending_reads {d} {length} {tube} {pi} l t =
    reads_at _ _ (reads_scaled tube.square_sum (pos (16 * 10 ^ 12)) (omega (arith, ints)) (axial_reads l t)) (tube_denominator_positive l t)
    (balance.bending_balance pi.num tube.modulus tube.square_difference tube.square_sum (pos 1000 +ℤ tube.poisson_ratio) (square_of d) length.den (tube_denominator tube d pi length))

torsion_reads : {d : Span} {length : Fraction} {tube : Tube} {pi : Fraction} → IsLengthOf d length → IsSound tube pi →
    Reads (torsion_stiffness tube pi length) (numerators tube d pi length).torsion (tube_denominator tube d pi length)
unfolding torsion_stiffness
torsion_reads {d} {length} {tube} {pi} l t =
    reads_at _ _ (reads_scaled (pos 1000) (pos 1000 +ℤ tube.poisson_ratio) t.soft (bending_reads l t)) (tube_denominator_positive l t)
    (balance.torsion_balance pi.num tube.modulus tube.square_difference tube.square_sum (pos 1000 +ℤ tube.poisson_ratio) (square_of d) length.den (tube_denominator tube d pi length))

shear_reads : {d : Span} {length : Fraction} {tube : Tube} {pi : Fraction} → IsLengthOf d length → IsSound tube pi →
    Reads (shear_stiffness tube d pi length) (numerators tube d pi length).shear (tube_denominator tube d pi length)
unfolding shear_stiffness
shear_reads {d} {length} {tube} {pi} l t =
    reads_at _ _ (reads_scaled (pos (12 * 10 ^ 12)) (square_of d) (square_positive l) (bending_reads l t)) (tube_denominator_positive l t)
    (balance.shear_balance pi.num tube.modulus tube.square_difference tube.square_sum (pos 1000 +ℤ tube.poisson_ratio) (square_of d) length.den (tube_denominator tube d pi length))

stiffness_reads : {d : Span} {length : Fraction} {tube : Tube} {pi : Fraction} → IsLengthOf d length → IsSound tube pi → (mode : Mode) →
    Reads (stiffness_of tube d pi length mode) (numerator_of (numerators tube d pi length) mode) (tube_denominator tube d pi length)
stiffness_reads l t axial = axial_reads l t
stiffness_reads l t torsion = torsion_reads l t
stiffness_reads l t (bending _) = bending_reads l t
stiffness_reads l t (shear _) = shear_reads l t

-- ---- a tube as a beam

metres_read : {d : Span} {length : Fraction} → IsLengthOf d length → Reads (scaled length (pos (2 ^ 20)) (pos (10 ^ 6))) (length.num *ℤ pos (2 ^ 20)) (length.den *ℤ pos (10 ^ 6))
metres_read l = reads_scaled (pos (2 ^ 20)) (pos (10 ^ 6)) (omega (arith, ints)) (length_reads l)

per_metre : {d : Span} {length x : Fraction} {n q : ℤ} → IsLengthOf d length → Reads x n q →
    Reads (over x (scaled length (pos (2 ^ 20)) (pos (10 ^ 6))) 56) (pos (2 ^ 56) *ℤ (n *ℤ (length.den *ℤ pos (10 ^ 6)))) (q *ℤ (length.num *ℤ pos (2 ^ 20)))
unfolding scaled
per_metre {d} {length} l h =
    let above : pos 0 <ℤ (length.num *ℤ pos (2 ^ 20)) = mul_positive length.num (pos (2 ^ 20)) l.positive (omega (arith, ints)) in
    reads_over 56 h (metres_read l) above above

numerators_shear : (tube : Tube) (d : Span) (pi length : Fraction) → IsShear (numerators tube d pi length) d
numerators_shear tube d pi length =
    balance.shear_numerator pi.num tube.modulus tube.square_difference tube.square_sum (pos 1000 +ℤ tube.poisson_ratio) (square_of d) length.den

beam_reads : {d : Span} {length : Fraction} {tube : Tube} {pi : Fraction} → IsLengthOf d length → IsSound tube pi →
    IsBeam (beam_of tube d pi length) (numerators tube d pi length) d length (tube_denominator tube d pi length)
unfolding beam_of
beam_reads {d} {length} {tube} {pi} l t =
    let v : ℤ = pos 1000 +ℤ tube.poisson_ratio in
    let q : ℤ = tube_denominator tube d pi length in
    let n : Numerators = numerators tube d pi length in
    let positive : pos 0 <ℤ q = tube_denominator_positive l t in
    let rigid = λ (k m : ℤ) (above : pos 0 <ℤ m). reads_scaled k m above (pi_reads t) in
    let two_soft : pos 0 <ℤ (pos 2 *ℤ v) = mul_positive (pos 2) v (omega (arith, ints)) t.soft in
    let bends = reads_at n.bending q (per_metre l (rigid (tube.modulus *ℤ (tube.square_difference *ℤ tube.square_sum)) (pos (64 * 10 ^ 18 * 2 ^ 36)) (omega (arith, ints)))) positive
    (balance.ei_balance pi.num pi.den tube.modulus tube.square_difference tube.square_sum v (square_of d) length.den length.num) in
    record {
      axis = tangent_part l;
      ea = reads_at n.axial q (per_metre l (rigid (tube.modulus *ℤ tube.square_difference) (pos (4 * 10 ^ 6 * 2 ^ 36)) (omega (arith, ints)))) positive
          (balance.ea_balance pi.num pi.den tube.modulus tube.square_difference v (square_of d) length.den length.num);
      gj = reads_at n.torsion q (per_metre l (reads_scaled (pos 1) (pos 2 *ℤ v) two_soft (rigid ((tube.modulus *ℤ pos 1000) *ℤ (pos 2 *ℤ (tube.square_difference *ℤ tube.square_sum))) (pos (64 * 10 ^ 18 * 2 ^ 36)) (omega (arith, ints))))) positive
          (balance.gj_balance pi.num pi.den tube.modulus tube.square_difference tube.square_sum v (square_of d) length.den length.num);
      ei = bends;
      sway = reads_at n.shear q (per_metre l (per_metre l (reads_scaled (pos 12) (pos 1) (omega (arith, ints)) bends))) positive
          (balance.sway_balance n.bending n.shear q (square_of d) length.den length.num l.square (numerators_shear tube d pi length));
      coupling = λ x w part. reads_at ((n.bending *ℤ pos 6) *ℤ (pos (10 ^ 6) *ℤ w)) (q *ℤ square_of d)
          (reads_times 56 (per_metre l (reads_scaled (pos 6) (pos 1) (omega (arith, ints)) bends)) part.reads)
          (mul_positive q (square_of d) positive (square_positive l))
          (balance.coupling_balance n.bending w q (square_of d) length.den length.num l.square);
    }

-- the law
pub members_are_a_beam : (tube : Tube) (d : Span) (pi length : Fraction) → pos 0 <ℤ (pos 1000 +ℤ tube.poisson_ratio) → pos 0 <ℤ pi.den → IsLengthOf d length →
    AddUpToBeam tube d pi length
members_are_a_beam tube d pi length soft defined l =
    let t : IsSound tube pi = record { defined = defined; soft = soft } in
    law tube pi l (beam_reads l t) (numerators_shear tube d pi length) (stiffness_reads l t)
