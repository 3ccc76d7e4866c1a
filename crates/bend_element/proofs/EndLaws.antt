-- The members of a bend carry a load at its end, and give under it, as the arc does.
use Rattle.std.proofs.Common.{◌≡◌, ◌^◌, [], ◌∷◌, List, ℕ, refl, ap, sym, ◌∙◌, arith, true, ℤ, pos, ◌+ℤ◌, ◌*ℤ◌, ◌<ℤ◌}
use Rattle.std.proofs.lemmas.Int.{ints}
use Rattle.int_laws.proofs.Sums.{int_sums}
use Rattle.int_laws.proofs.Products.{mul_comm, zero-mul, mul_positive}
use Rattle.flex_interval.specs.Fraction.{Fraction, times, minus}
use Rattle.member_pairs.specs.Axes.{Axis, x_axis, y_axis, z_axis, Motion, translation, rotation, to_end}
use Rattle.member_pairs.specs.declared.tube.Tube.{Tube}
use Rattle.bend_element.specs.Arc.{unit, AreSame, IsDivisible}
use Rattle.bend_element.specs.Arcs.{ExactArc}
use Rattle.bend_element.specs.EndLoads.{Load, force_along, moment_about, chordwise, sidewise, crosswise, half_chord, of_modes, carried, over_modes, load_at_to, IsFrame, MembersGiveAsArc, MembersCarryLoad}
use Rattle.bend_element.specs.ExactBend.{Mode, plane_rotation, radial_force, chord_force, radius_moment, chord_moment, normal_force, flexibility, plane_centre, normal_centre, ExactFrame, side, shape_of}
use Rattle.bend_element.proofs.ArcLaw.{Common, parts_read, numbers_read, numbers, itself, joined, alone, square, to_fourth, unit_reads, each_gives, balanced, plane_law, normal_law, plane_centre_defined, normal_centre_defined, plus_defined, negated_defined, times_defined}
use Rattle.bend_element.proofs.ArcReadings.{Reads, reads_at, reads_same, reads_from_same, reads_negated, reads_times, reads_plus, reads_minus}
use Rattle.bend_element.proofs.ArcWork.{AreRead, at, nil_reads, numerators, load_numerators, load_work_reads, sum, with_excesses, by_balance, none, twice, vE, vH, vF, vK, vP, vQ, vD, vU}
use Rattle.bend_element.proofs.Polynomials.{Polynomial, variable, opposite, added, multiplied, value, of_list, terms, cancels, same_value}

plus_nothing : (a : ℤ) → a +ℤ pos 0 ≡ a
plus_nothing a = omega (arith, int_sums)

-- ---- what each mode carries

of_modes_read : (v : ℕ → ℤ) (d : ℤ) {a b c e f g : Fraction} (r : Mode → Polynomial) → Reads a (value v (r plane_rotation)) d → Reads b (value v (r radial_force)) d → Reads c (value v (r chord_force)) d → Reads e (value v (r radius_moment)) d →
    Reads f (value v (r chord_moment)) d → Reads g (value v (r normal_force)) d → (mode : Mode) → Reads (of_modes a b c e f g mode) (value v (r mode)) d
of_modes_read v d r a b c e f g plane_rotation = a
of_modes_read v d r a b c e f g radial_force = b
of_modes_read v d r a b c e f g chord_force = c
of_modes_read v d r a b c e f g radius_moment = e
of_modes_read v d r a b c e f g chord_moment = f
of_modes_read v d r a b c e f g normal_force = g

-- by 1, half the chord and the elastic centres
pub record Arms : Type 0 where
  pub one : Polynomial
  pub half : Polynomial
  pub plane : Polynomial
  pub normal : Polynomial

abbrev row : Arms → Load → Mode → Polynomial
row n (force_along chordwise) = of_modes n.plane none n.one none none none
row n (force_along sidewise) = of_modes n.half n.one none none none none
row n (force_along crosswise) = of_modes none none none (opposite n.half) (opposite n.normal) n.one
row n (moment_about chordwise) = of_modes none none none none n.one none
row n (moment_about sidewise) = of_modes none none none n.one none none
row n (moment_about crosswise) = of_modes n.one none none none none none

record ArmsRead (tube : Tube) (x : ExactArc) (long : Fraction) (n : Arms) (v : ℕ → ℤ) (d : ℤ) : Type 0 where
  positive : pos 0 <ℤ d
  one : Reads unit (value v n.one) d
  half : Reads long (value v n.half) d
  plane : Reads (plane_centre x) (value v n.plane) d
  normal : Reads (normal_centre tube x) (value v n.normal) d

carried_read : {tube : Tube} {x : ExactArc} {half : Fraction} {n : Arms} {v : ℕ → ℤ} {d : ℤ} → ArmsRead tube x half n v d → (p : Load) (mode : Mode) → Reads (carried tube x half p mode) (value v (row n p mode)) d
carried_read {tube} {x} {half} {n} {v} {d} h (force_along chordwise) = let z = nil_reads d h.positive in of_modes_read v d (row n (force_along chordwise)) h.plane z h.one z z z
carried_read {tube} {x} {half} {n} {v} {d} h (force_along sidewise) = let z = nil_reads d h.positive in of_modes_read v d (row n (force_along sidewise)) h.half h.one z z z z
carried_read {tube} {x} {half} {n} {v} {d} h (force_along crosswise) = let z = nil_reads d h.positive in of_modes_read v d (row n (force_along crosswise)) z z z (reads_negated h.half) (reads_negated h.normal) h.one
carried_read {tube} {x} {half} {n} {v} {d} h (moment_about chordwise) = let z = nil_reads d h.positive in of_modes_read v d (row n (moment_about chordwise)) z z z z h.one z
carried_read {tube} {x} {half} {n} {v} {d} h (moment_about sidewise) = let z = nil_reads d h.positive in of_modes_read v d (row n (moment_about sidewise)) z z z h.one z z
carried_read {tube} {x} {half} {n} {v} {d} h (moment_about crosswise) = let z = nil_reads d h.positive in of_modes_read v d (row n (moment_about crosswise)) h.one z z z z z

abbrev over_all : (Mode → Polynomial) → Polynomial
over_all f = added (added (added (f plane_rotation) (f radial_force)) (f chord_force)) (added (added (f radius_moment) (f chord_moment)) (f normal_force))

over_modes_read : (v : ℕ → ℤ) (q : ℤ) (f : Mode → Fraction) (g : Mode → Polynomial) → ((m : Mode) → Reads (f m) (value v (g m)) q) → Reads (over_modes f) (value v (over_all g)) q
over_modes_read v q f g h =
    reads_plus (reads_plus (reads_plus (h plane_rotation) (h radial_force)) (h chord_force)) (reads_plus (reads_plus (h radius_moment) (h chord_moment)) (h normal_force))

-- ---- the flexibility of the end

abbrev end_arms : Arms
end_arms = record { one = vE; half = vP; plane = added vH (opposite vQ); normal = added vF (opposite vQ) }

abbrev end_row : Load → Mode → Polynomial
end_row = row end_arms

abbrev by_members : Load → Load → Polynomial
by_members p q = over_all (λ m. multiplied (multiplied (sum (numerators m) (numerators m)) (end_row p m)) (end_row q m))

abbrev wide : Polynomial
wide = multiplied (multiplied (multiplied (multiplied to_fourth vD) vU) vD) vU

-- what two loads share of two modes
abbrev shared : Load → Load → Mode → Mode → Polynomial
shared p q m n = added (multiplied (end_row p m) (end_row q n)) (multiplied (end_row p n) (end_row q m))

abbrev plane_part : Load → Load → Polynomial
plane_part p q = multiplied to_fourth (multiplied (twice (multiplied vK vE)) (shared p q plane_rotation chord_force))

abbrev normal_part : Load → Load → Polynomial
normal_part p q = opposite (multiplied to_fourth (multiplied vE (shared p q chord_moment normal_force)))

abbrev unit_part : Load → Load → Polynomial
unit_part p q = multiplied (multiplied (sum (load_numerators p) (load_numerators q)) to_fourth) (added vE (multiplied vD vU))

add_up : (p q : Load) →
    cancels (terms (added (multiplied (by_members p q) to_fourth) (opposite (with_excesses (multiplied (sum (load_numerators p) (load_numerators q)) wide) (plane_part p q) (normal_part p q) (unit_part p q))))) ≡ true
add_up (force_along chordwise) (force_along chordwise) = refl
add_up (force_along chordwise) (force_along sidewise) = refl
add_up (force_along chordwise) (force_along crosswise) = refl
add_up (force_along chordwise) (moment_about chordwise) = refl
add_up (force_along chordwise) (moment_about sidewise) = refl
add_up (force_along chordwise) (moment_about crosswise) = refl
add_up (force_along sidewise) (force_along chordwise) = refl
add_up (force_along sidewise) (force_along sidewise) = refl
add_up (force_along sidewise) (force_along crosswise) = refl
add_up (force_along sidewise) (moment_about chordwise) = refl
add_up (force_along sidewise) (moment_about sidewise) = refl
add_up (force_along sidewise) (moment_about crosswise) = refl
add_up (force_along crosswise) (force_along chordwise) = refl
add_up (force_along crosswise) (force_along sidewise) = refl
add_up (force_along crosswise) (force_along crosswise) = refl
add_up (force_along crosswise) (moment_about chordwise) = refl
add_up (force_along crosswise) (moment_about sidewise) = refl
add_up (force_along crosswise) (moment_about crosswise) = refl
add_up (moment_about chordwise) (force_along chordwise) = refl
add_up (moment_about chordwise) (force_along sidewise) = refl
add_up (moment_about chordwise) (force_along crosswise) = refl
add_up (moment_about chordwise) (moment_about chordwise) = refl
add_up (moment_about chordwise) (moment_about sidewise) = refl
add_up (moment_about chordwise) (moment_about crosswise) = refl
add_up (moment_about sidewise) (force_along chordwise) = refl
add_up (moment_about sidewise) (force_along sidewise) = refl
add_up (moment_about sidewise) (force_along crosswise) = refl
add_up (moment_about sidewise) (moment_about chordwise) = refl
add_up (moment_about sidewise) (moment_about sidewise) = refl
add_up (moment_about sidewise) (moment_about crosswise) = refl
add_up (moment_about crosswise) (force_along chordwise) = refl
add_up (moment_about crosswise) (force_along sidewise) = refl
add_up (moment_about crosswise) (force_along crosswise) = refl
add_up (moment_about crosswise) (moment_about chordwise) = refl
add_up (moment_about crosswise) (moment_about sidewise) = refl
add_up (moment_about crosswise) (moment_about crosswise) = refl

pub members_give : MembersGiveAsArc
members_give tube x h p q =
    let common = parts_read h in
    let n = numbers tube x common in
    let d = common.d in
    let b : AreRead tube x n d = numbers_read tube x common in
    let arms : ArmsRead tube x (half_chord x) end_arms (at n d) d = record {
      positive = b.positive;
      one = b.e;
      half = b.p;
      plane = reads_from_same (plane_law h) (plane_centre_defined h) (reads_minus b.h b.q);
      normal = reads_from_same (normal_law h) (normal_centre_defined h) (reads_minus b.f b.q);
    } in
    let held = carried_read arms in
    let members = over_modes_read (at n d) (value (at n d) wide) (λ m. times (times (flexibility tube x m) (carried tube x (half_chord x) p m) 56) (carried tube x (half_chord x) q m) 56)
    (λ m. multiplied (multiplied (sum (numerators m) (numerators m)) (end_row p m)) (end_row q m)) (λ m. reads_times 56 (reads_times 56 (each_gives h b m) (held p m)) (held q m)) in
    let arc = load_work_reads b p q in
    reads_same
    (reads_at (value (at n d) (by_members p q)) (value (at n d) wide) arc members.positive
    (sym (by_balance (balanced h b) (multiplied (by_members p q) to_fourth) (multiplied (sum (load_numerators p) (load_numerators q)) wide) (plane_part p q) (normal_part p q) (unit_part p q) (add_up p q))))
    members

-- ---- the load that the members carry

-- of 1, half the chord, the elastic centres, the unit vectors' parts along an axis, the denominator and 2^56
abbrev oE : Polynomial
oE = variable 0

abbrev oHalf : Polynomial
oHalf = variable 1

abbrev oPlane : Polynomial
oPlane = variable 2

abbrev oNormal : Polynomial
oNormal = variable 3

abbrev oChordwise : Polynomial
oChordwise = variable 4

abbrev oCrosswise : Polynomial
oCrosswise = variable 5

abbrev oSidewise : Polynomial
oSidewise = variable 6

abbrev oD : Polynomial
oD = variable 7

abbrev oU : Polynomial
oU = variable 8

record Held (tube : Tube) (x : ExactArc) (f : ExactFrame) (i : Axis) (v : ℕ → ℤ) (d : ℤ) : Type 0 where
  positive : pos 0 <ℤ d
  one : v 0 ≡ d *ℤ pos (2 ^ 56)
  here : v 7 ≡ d
  up : v 8 ≡ pos (2 ^ 56)
  e : Reads unit (v 0) d
  half : Reads f.half (v 1) d
  plane : Reads (plane_centre x) (v 2) d
  centre : Reads (normal_centre tube x) (v 3) d
  chord : Reads (f.chord i) (v 4) d
  normal : Reads (f.normal i) (v 5) d
  side : Reads (side f i) (v 6) d

-- a reading by 1
by_one : {x : Fraction} {n d e : ℤ} → e ≡ d *ℤ pos (2 ^ 56) → Reads x n d → Reads x (n *ℤ e) (square d)
by_one {x} {n} {d} {e} one h =
    let up : pos 0 <ℤ pos (2 ^ 56) = omega (arith, ints) in
    reads_at (n *ℤ e) (square d) h (mul_positive (d *ℤ d) (pos (2 ^ 56)) (mul_positive d d h.positive h.positive) up)
    (same_value (of_list (n ∷ d ∷ pos (2 ^ 56) ∷ [])) (multiplied (variable 0) (multiplied (multiplied (variable 1) (variable 1)) (variable 2))) (multiplied (multiplied (variable 0) (multiplied (variable 1) (variable 2))) (variable 1)) refl
    ∙ ap (λ (z : ℤ). (n *ℤ z) *ℤ d) (sym one))

abbrev shape_row : Motion → Mode → Polynomial
shape_row translation = of_modes none (multiplied oSidewise oE) (multiplied oChordwise oE) none none (multiplied oCrosswise oE)
shape_row rotation = of_modes (multiplied oCrosswise oE) (opposite (multiplied oHalf oCrosswise)) (opposite (multiplied oPlane oCrosswise)) (multiplied oSidewise oE) (multiplied oChordwise oE) (added (multiplied oHalf oSidewise) (multiplied oNormal oChordwise))

shape_read : {tube : Tube} {x : ExactArc} {f : ExactFrame} {i : Axis} {v : ℕ → ℤ} {d : ℤ} → Held tube x f i v d → (m : Motion) (mode : Mode) → Reads (shape_of tube x f mode to_end m i) (value v (shape_row m mode)) (square d)
shape_read {tube} {x} {f} {i} {v} {d} h translation plane_rotation = nil_reads (square d) (by_one h.one h.e).positive
shape_read {tube} {x} {f} {i} {v} {d} h translation radial_force = by_one h.one h.side
shape_read {tube} {x} {f} {i} {v} {d} h translation chord_force = by_one h.one h.chord
shape_read {tube} {x} {f} {i} {v} {d} h translation radius_moment = nil_reads (square d) (by_one h.one h.e).positive
shape_read {tube} {x} {f} {i} {v} {d} h translation chord_moment = nil_reads (square d) (by_one h.one h.e).positive
shape_read {tube} {x} {f} {i} {v} {d} h translation normal_force = by_one h.one h.normal
shape_read {tube} {x} {f} {i} {v} {d} h rotation plane_rotation = by_one h.one h.normal
shape_read {tube} {x} {f} {i} {v} {d} h rotation radial_force = reads_negated (reads_times 56 h.half h.normal)
shape_read {tube} {x} {f} {i} {v} {d} h rotation chord_force = reads_negated (reads_times 56 h.plane h.normal)
shape_read {tube} {x} {f} {i} {v} {d} h rotation radius_moment = by_one h.one h.side
shape_read {tube} {x} {f} {i} {v} {d} h rotation chord_moment = by_one h.one h.chord
shape_read {tube} {x} {f} {i} {v} {d} h rotation normal_force = reads_plus (reads_times 56 h.half h.side) (reads_times 56 h.centre h.chord)

abbrev load_row : Load → Motion → Polynomial
load_row (force_along chordwise) translation = oChordwise
load_row (force_along sidewise) translation = oSidewise
load_row (force_along crosswise) translation = oCrosswise
load_row (force_along d) rotation = none
load_row (moment_about d) translation = none
load_row (moment_about chordwise) rotation = oChordwise
load_row (moment_about sidewise) rotation = oSidewise
load_row (moment_about crosswise) rotation = oCrosswise

load_read : {tube : Tube} {x : ExactArc} {f : ExactFrame} {i : Axis} {v : ℕ → ℤ} {d : ℤ} → Held tube x f i v d → (p : Load) (m : Motion) → Reads (load_at_to f p m i) (value v (load_row p m)) d
load_read {tube} {x} {f} {i} {v} {d} h (force_along chordwise) translation = h.chord
load_read {tube} {x} {f} {i} {v} {d} h (force_along chordwise) rotation = nil_reads d h.positive
load_read {tube} {x} {f} {i} {v} {d} h (force_along sidewise) translation = h.side
load_read {tube} {x} {f} {i} {v} {d} h (force_along sidewise) rotation = nil_reads d h.positive
load_read {tube} {x} {f} {i} {v} {d} h (force_along crosswise) translation = h.normal
load_read {tube} {x} {f} {i} {v} {d} h (force_along crosswise) rotation = nil_reads d h.positive
load_read {tube} {x} {f} {i} {v} {d} h (moment_about chordwise) translation = nil_reads d h.positive
load_read {tube} {x} {f} {i} {v} {d} h (moment_about chordwise) rotation = h.chord
load_read {tube} {x} {f} {i} {v} {d} h (moment_about sidewise) translation = nil_reads d h.positive
load_read {tube} {x} {f} {i} {v} {d} h (moment_about sidewise) rotation = h.side
load_read {tube} {x} {f} {i} {v} {d} h (moment_about crosswise) translation = nil_reads d h.positive
load_read {tube} {x} {f} {i} {v} {d} h (moment_about crosswise) rotation = h.normal

abbrev held_arms : Arms
held_arms = record { one = oE; half = oHalf; plane = oPlane; normal = oNormal }

abbrev held_row : Load → Mode → Polynomial
held_row = row held_arms

abbrev held_sum : Load → Motion → Polynomial
held_sum p m = over_all (λ mode. multiplied (held_row p mode) (shape_row m mode))

abbrev held_square : Polynomial
held_square = multiplied (multiplied oD oD) oU

abbrev held_cube : Polynomial
held_cube = multiplied (multiplied oD held_square) oU

abbrev held_excess : Polynomial
held_excess = added oE (opposite (multiplied oD oU))

abbrev held_multiple : Load → Motion → Polynomial
held_multiple p m = multiplied (multiplied (load_row p m) oD) (added oE (multiplied oD oU))

hold : (p : Load) (m : Motion) → cancels (terms (added (multiplied (held_sum p m) oD) (opposite (added (multiplied (load_row p m) held_cube) (multiplied (held_multiple p m) held_excess))))) ≡ true
hold (force_along chordwise) translation = refl
hold (force_along chordwise) rotation = refl
hold (force_along sidewise) translation = refl
hold (force_along sidewise) rotation = refl
hold (force_along crosswise) translation = refl
hold (force_along crosswise) rotation = refl
hold (moment_about chordwise) translation = refl
hold (moment_about chordwise) rotation = refl
hold (moment_about sidewise) translation = refl
hold (moment_about sidewise) rotation = refl
hold (moment_about crosswise) translation = refl
hold (moment_about crosswise) rotation = refl

no_excess : (v : ℕ → ℤ) (d u : ℤ) → v 0 ≡ d *ℤ u → v 7 ≡ d → v 8 ≡ u → value v held_excess ≡ pos 0
no_excess v d u one here up =
    let product : v 7 *ℤ v 8 ≡ d *ℤ u = ap (λ (z : ℤ). z *ℤ v 8) here ∙ ap (λ (z : ℤ). d *ℤ z) up in
    omega (arith, int_sums, one, product)

held_even : (v : ℕ → ℤ) (p : Load) (m : Motion) → value v held_excess ≡ pos 0 → value v (multiplied (load_row p m) held_cube) ≡ value v (multiplied (held_sum p m) oD)
held_even v p m none_over =
    let left : ℤ = value v (multiplied (load_row p m) held_cube) in
    let k : ℤ = value v (held_multiple p m) in
    let nothing : k *ℤ value v held_excess ≡ pos 0 = ap (λ (z : ℤ). k *ℤ z) none_over ∙ mul_comm k (pos 0) ∙ zero-mul k in
    let same : value v (multiplied (held_sum p m) oD) ≡ left +ℤ (k *ℤ value v held_excess) = same_value v (multiplied (held_sum p m) oD) (added (multiplied (load_row p m) held_cube) (multiplied (held_multiple p m) held_excess)) (hold p m) in
    sym (same ∙ ap (λ (z : ℤ). left +ℤ z) nothing ∙ plus_nothing left)

carry : {tube : Tube} {x : ExactArc} {f : ExactFrame} {i : Axis} {v : ℕ → ℤ} {d : ℤ} → Held tube x f i v d → (p : Load) (m : Motion) → AreSame (over_modes (λ mode. times (carried tube x f.half p mode) (shape_of tube x f mode to_end m i) 56)) (load_at_to f p m i)
carry {tube} {x} {f} {i} {v} {d} h p m =
    let arms : ArmsRead tube x f.half held_arms v d = record { positive = h.positive; one = h.e; half = h.half; plane = h.plane; normal = h.centre } in
    let held = carried_read arms in
    let cube : ℤ = (d *ℤ square d) *ℤ pos (2 ^ 56) in
    let members = over_modes_read v cube (λ mode. times (carried tube x f.half p mode) (shape_of tube x f mode to_end m i) 56) (λ mode. multiplied (held_row p mode) (shape_row m mode))
    (λ mode. reads_times 56 (held p mode) (shape_read h m mode)) in
    let wide : value v held_cube ≡ cube = ap (λ (z : ℤ). (z *ℤ ((z *ℤ z) *ℤ v 8)) *ℤ v 8) h.here ∙ ap (λ (z : ℤ). (d *ℤ ((d *ℤ d) *ℤ z)) *ℤ z) h.up in
    let even = held_even v p m (no_excess v d (pos (2 ^ 56)) h.one h.here h.up) in
    reads_same members
    (reads_at (value v (held_sum p m)) cube (load_read h p m) members.positive
    (ap (λ (z : ℤ). value v (load_row p m) *ℤ z) (sym wide) ∙ even ∙ ap (λ (z : ℤ). value v (held_sum p m) *ℤ z) h.here))

-- ---- one denominator for a place

side_defined : {f : ExactFrame} → IsFrame f → (i : Axis) → pos 0 <ℤ (side f i).den
unfolding minus
side_defined {f} h x_axis = plus_defined _ _ (times_defined _ _ (h.normal y_axis) (h.chord z_axis)) (negated_defined _ (times_defined _ _ (h.normal z_axis) (h.chord y_axis)))
side_defined {f} h y_axis = plus_defined _ _ (times_defined _ _ (h.normal z_axis) (h.chord x_axis)) (negated_defined _ (times_defined _ _ (h.normal x_axis) (h.chord z_axis)))
side_defined {f} h z_axis = plus_defined _ _ (times_defined _ _ (h.normal x_axis) (h.chord y_axis)) (negated_defined _ (times_defined _ _ (h.normal y_axis) (h.chord x_axis)))

abbrev held_parts : Tube → ExactArc → ExactFrame → Axis → List Fraction
held_parts tube x f i = f.half ∷ plane_centre x ∷ normal_centre tube x ∷ f.chord i ∷ f.normal i ∷ side f i ∷ []

place_read : {tube : Tube} {x : ExactArc} {f : ExactFrame} → IsDivisible tube x → IsFrame f → (i : Axis) → Common (held_parts tube x f i)
place_read {tube} {x} {f} h place i =
    joined (itself f.half place.half) (joined (itself (plane_centre x) (plane_centre_defined h)) (joined (itself (normal_centre tube x) (normal_centre_defined h))
    (joined (itself (f.chord i) (place.chord i)) (joined (itself (f.normal i) (place.normal i)) (joined (itself (side f i) (side_defined place i)) alone)))))

pub members_carry : MembersCarryLoad
members_carry tube x h f place p m i =
    let c = place_read h place i in
    let d = c.d in
    let v : ℕ → ℤ = of_list ((d *ℤ pos (2 ^ 56)) ∷ c.each.0.num ∷ c.each.1.0.num ∷ c.each.1.1.0.num ∷ c.each.1.1.1.0.num ∷ c.each.1.1.1.1.0.num ∷ c.each.1.1.1.1.1.0.num ∷ d ∷ pos (2 ^ 56) ∷ []) in
    let held : Held tube x f i v d = record {
      positive = c.positive;
      one = refl;
      here = refl;
      up = refl;
      e = unit_reads d c.positive;
      half = c.each.0.reads;
      plane = c.each.1.0.reads;
      centre = c.each.1.1.0.reads;
      chord = c.each.1.1.1.0.reads;
      normal = c.each.1.1.1.1.0.reads;
      side = c.each.1.1.1.1.1.0.reads;
    } in
    carry held p m
