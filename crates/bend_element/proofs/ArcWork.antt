-- The work of one pattern of load on the deformations of another, over one denominator.
use Rattle.std.proofs.Common.{◌≡◌, ◌≢◌, ◌^◌, [], ◌∷◌, ℕ, refl, ap, sym, ◌∙◌, arith, true, ℤ, pos, ◌+ℤ◌, ◌*ℤ◌, ◌<ℤ◌}
use Rattle.std.proofs.lemmas.Int.{ints}
use Rattle.int_laws.proofs.Sums.{int_sums}
use Rattle.int_laws.proofs.Products.{mul_comm, one-mul, zero-mul}
use Rattle.flex_interval.specs.Fraction.{Fraction, scaled}
use Rattle.member_pairs.specs.declared.tube.Tube.{Tube}
use Rattle.bend_element.specs.Arcs.{ExactArc}
use Rattle.bend_element.specs.ExactBend.{Mode, plane_rotation, radial_force, chord_force, radius_moment, chord_moment, normal_force, sine_square, cosine_square, twist, gyration_square}
use Rattle.bend_element.specs.Arc.{Course, Pattern, nil, unit, radius, plane_reach, normal_reach, pattern, product_integral, work}
use Rattle.bend_element.specs.EndLoads.{Load, force_along, moment_about, chordwise, sidewise, crosswise, half_chord, chord_distance, load_pattern}
use Rattle.bend_element.proofs.ArcReadings.{Reads, reads_whole, reads_at, reads_negated, reads_scaled, reads_times, reads_plus}
use Rattle.bend_element.proofs.Polynomials.{Polynomial, number, variable, opposite, added, multiplied, value, of_list, terms, cancels, same_value}

-- ---- the numbers of an arc

-- the numerators, over one denominator, of what the work of the patterns is made of: 1, R, the reaches h in the plane and f across
-- it; a, sin, and the integrals of the squares of the cosine and the sine; k, 1 + nu and I/A; and R sin and R cos
pub record Numbers : Type 0 where
  pub e : ℤ
  pub r : ℤ
  pub h : ℤ
  pub f : ℤ
  pub a : ℤ
  pub s : ℤ
  pub c : ℤ
  pub m : ℤ
  pub k : ℤ
  pub t : ℤ
  pub g : ℤ
  pub p : ℤ
  pub q : ℤ

pub record AreRead (tube : Tube) (x : ExactArc) (n : Numbers) (d : ℤ) : Type 0 where
  pub positive : pos 0 <ℤ d
  pub one : n.e ≡ d *ℤ pos (2 ^ 56)
  pub e : Reads unit n.e d
  pub r : Reads (radius x) n.r d
  pub h : Reads (plane_reach x) n.h d
  pub f : Reads (normal_reach tube x) n.f d
  pub a : Reads x.a n.a d
  pub s : Reads x.sin n.s d
  pub c : Reads (cosine_square x) n.c d
  pub m : Reads (sine_square x) n.m d
  pub k : Reads x.k n.k d
  pub t : Reads (twist tube) n.t d
  pub g : Reads (gyration_square tube) n.g d
  pub p : Reads (half_chord x) n.p d
  pub q : Reads (chord_distance x) n.q d

-- with the denominator and 2^56
abbrev pub at : Numbers → ℤ → ℕ → ℤ
at n d = of_list (n.e ∷ n.r ∷ n.h ∷ n.f ∷ n.a ∷ n.s ∷ n.c ∷ n.m ∷ n.k ∷ n.t ∷ n.g ∷ n.p ∷ n.q ∷ d ∷ pos (2 ^ 56) ∷ [])

-- they as variables
abbrev pub vE : Polynomial
vE = variable 0

abbrev pub vR : Polynomial
vR = variable 1

abbrev pub vH : Polynomial
vH = variable 2

abbrev pub vF : Polynomial
vF = variable 3

abbrev pub vA : Polynomial
vA = variable 4

abbrev pub vS : Polynomial
vS = variable 5

abbrev pub vC : Polynomial
vC = variable 6

abbrev pub vM : Polynomial
vM = variable 7

abbrev pub vK : Polynomial
vK = variable 8

abbrev pub vT : Polynomial
vT = variable 9

abbrev pub vG : Polynomial
vG = variable 10

abbrev pub vP : Polynomial
vP = variable 11

abbrev pub vQ : Polynomial
vQ = variable 12

abbrev pub vD : Polynomial
vD = variable 13

abbrev pub vU : Polynomial
vU = variable 14

abbrev pub none : Polynomial
none = number (pos 0)

abbrev pub twice : Polynomial → Polynomial
twice a = multiplied a (number (pos 2))

-- ---- the numerators of a course, and of a pattern

pub record Three : Type 0 where
  pub u : Polynomial
  pub v : Polynomial
  pub w : Polynomial

pub record Twelve : Type 0 where
  pub in_plane : Three
  pub across : Three
  pub torque : Three
  pub pull : Three

abbrev dot : Three → Three → Polynomial
dot p q = added (added (multiplied (multiplied p.u q.u) (twice vA)) (multiplied (added (multiplied p.u q.v) (multiplied p.v q.u)) (twice vS))) (added (multiplied (multiplied p.v q.v) vC) (multiplied (multiplied p.w q.w) vM))

abbrev pub sum : Twelve → Twelve → Polynomial
sum p q = added (added (multiplied vK (dot p.in_plane q.in_plane)) (multiplied vK (dot p.across q.across))) (added (multiplied vT (dot p.torque q.torque)) (multiplied vG (dot p.pull q.pull)))

abbrev pub cube : ℤ → ℤ
cube d = (((d *ℤ d) *ℤ pos (2 ^ 56)) *ℤ d) *ℤ pos (2 ^ 56)

abbrev pub fourth : ℤ → ℤ
fourth d = (d *ℤ cube d) *ℤ pos (2 ^ 56)

record CourseReads (n : Numbers) (p : Course) (t : Three) (d : ℤ) : Type 0 where
  mean : Reads p.mean (value (at n d) t.u) d
  cosine : Reads p.cosine (value (at n d) t.v) d
  sine : Reads p.sine (value (at n d) t.w) d

record PatternReads (n : Numbers) (p : Pattern) (t : Twelve) (d : ℤ) : Type 0 where
  in_plane : CourseReads n p.in_plane t.in_plane d
  across : CourseReads n p.across t.across d
  torque : CourseReads n p.torque t.torque d
  pull : CourseReads n p.pull t.pull d

pub doubled : {x : Fraction} {n d : ℤ} → Reads x n d → Reads (scaled x (pos 2) (pos 1)) (n *ℤ pos 2) d
doubled {x} {n} {d} h = reads_at (n *ℤ pos 2) d (reads_scaled (pos 2) (pos 1) (omega (arith, ints)) h) h.positive (ap (λ z. (n *ℤ pos 2) *ℤ z) (sym (mul_comm d (pos 1) ∙ one-mul d)))

pub nil_reads : (d : ℤ) → pos 0 <ℤ d → Reads nil (pos 0) d
nil_reads d h = reads_at (pos 0) d (reads_whole (pos 0)) h (zero-mul d ∙ sym (zero-mul (pos 1)))

dot_reads : {tube : Tube} {x : ExactArc} {n : Numbers} {d : ℤ} {p q : Course} {t r : Three} → AreRead tube x n d → CourseReads n p t d → CourseReads n q r d →
    Reads (product_integral x p q) (value (at n d) (dot t r)) (cube d)
unfolding product_integral
dot_reads b p q =
    reads_plus
    (reads_plus (reads_times 56 (reads_times 56 p.mean q.mean) (doubled b.a)) (reads_times 56 (reads_plus (reads_times 56 p.mean q.cosine) (reads_times 56 p.cosine q.mean)) (doubled b.s)))
    (reads_plus (reads_times 56 (reads_times 56 p.cosine q.cosine) b.c) (reads_times 56 (reads_times 56 p.sine q.sine) b.m))

sum_reads : {tube : Tube} {x : ExactArc} {n : Numbers} {d : ℤ} {p q : Pattern} {t r : Twelve} → AreRead tube x n d → PatternReads n p t d → PatternReads n q r d →
    Reads (work tube x p q) (value (at n d) (sum t r)) (fourth d)
unfolding work
sum_reads b p q =
    reads_plus
    (reads_plus (reads_times 56 b.k (dot_reads b p.in_plane q.in_plane)) (reads_times 56 b.k (dot_reads b p.across q.across)))
    (reads_plus (reads_times 56 b.t (dot_reads b p.torque q.torque)) (reads_times 56 b.g (dot_reads b p.pull q.pull)))

-- a course of these numerators
abbrev course : Polynomial → Polynomial → Polynomial → Three
course u v w = record { u = u; v = v; w = w }

abbrev still : Three
still = course none none none

abbrev in_plane_only : Three → Three → Twelve
in_plane_only bending pull = record { in_plane = bending; across = still; torque = still; pull = pull }

abbrev across_only : Three → Three → Twelve
across_only bending torque = record { in_plane = still; across = bending; torque = torque; pull = still }

abbrev pub numerators : Mode → Twelve
numerators plane_rotation = in_plane_only (course vE none none) still
numerators radial_force = in_plane_only (course none none (opposite vR)) (course none none (opposite vE))
numerators chord_force = in_plane_only (course (opposite vH) vR none) (course none vE none)
numerators radius_moment = across_only (course none vE none) (course none none (opposite vE))
numerators chord_moment = across_only (course none none vE) (course none vE none)
numerators normal_force = across_only (course none none vF) (course (opposite vR) vF none)

abbrev pub load_numerators : Load → Twelve
load_numerators (force_along chordwise) = in_plane_only (course (opposite vQ) vR none) (course none vE none)
load_numerators (force_along sidewise) = in_plane_only (course vP none (opposite vR)) (course none none (opposite vE))
load_numerators (force_along crosswise) = across_only (course none (opposite vP) vQ) (course (opposite vR) vQ vP)
load_numerators (moment_about chordwise) = across_only (course none none vE) (course none vE none)
load_numerators (moment_about sidewise) = across_only (course none vE none) (course none none (opposite vE))
load_numerators (moment_about crosswise) = in_plane_only (course vE none none) still

pattern_reads : {tube : Tube} {x : ExactArc} {n : Numbers} {d : ℤ} → AreRead tube x n d → (m : Mode) → PatternReads n (pattern tube x m) (numerators m) d
pattern_reads {tube} {x} {n} {d} b plane_rotation = let z = nil_reads d b.positive in record { in_plane = record { mean = b.e; cosine = z; sine = z }; across = record { mean = z; cosine = z; sine = z }; torque = record { mean = z; cosine = z; sine = z }; pull = record { mean = z; cosine = z; sine = z } }
pattern_reads {tube} {x} {n} {d} b radial_force = let z = nil_reads d b.positive in record { in_plane = record { mean = z; cosine = z; sine = reads_negated b.r }; across = record { mean = z; cosine = z; sine = z }; torque = record { mean = z; cosine = z; sine = z }; pull = record { mean = z; cosine = z; sine = reads_negated b.e } }
pattern_reads {tube} {x} {n} {d} b chord_force = let z = nil_reads d b.positive in record { in_plane = record { mean = reads_negated b.h; cosine = b.r; sine = z }; across = record { mean = z; cosine = z; sine = z }; torque = record { mean = z; cosine = z; sine = z }; pull = record { mean = z; cosine = b.e; sine = z } }
pattern_reads {tube} {x} {n} {d} b radius_moment = let z = nil_reads d b.positive in record { in_plane = record { mean = z; cosine = z; sine = z }; across = record { mean = z; cosine = b.e; sine = z }; torque = record { mean = z; cosine = z; sine = reads_negated b.e }; pull = record { mean = z; cosine = z; sine = z } }
pattern_reads {tube} {x} {n} {d} b chord_moment = let z = nil_reads d b.positive in record { in_plane = record { mean = z; cosine = z; sine = z }; across = record { mean = z; cosine = z; sine = b.e }; torque = record { mean = z; cosine = b.e; sine = z }; pull = record { mean = z; cosine = z; sine = z } }
pattern_reads {tube} {x} {n} {d} b normal_force = let z = nil_reads d b.positive in record { in_plane = record { mean = z; cosine = z; sine = z }; across = record { mean = z; cosine = z; sine = b.f }; torque = record { mean = reads_negated b.r; cosine = b.f; sine = z }; pull = record { mean = z; cosine = z; sine = z } }

load_reads : {tube : Tube} {x : ExactArc} {n : Numbers} {d : ℤ} → AreRead tube x n d → (p : Load) → PatternReads n (load_pattern x p) (load_numerators p) d
load_reads {tube} {x} {n} {d} b (force_along chordwise) = let z = nil_reads d b.positive in record { in_plane = record { mean = reads_negated b.q; cosine = b.r; sine = z }; across = record { mean = z; cosine = z; sine = z }; torque = record { mean = z; cosine = z; sine = z }; pull = record { mean = z; cosine = b.e; sine = z } }
load_reads {tube} {x} {n} {d} b (force_along sidewise) = let z = nil_reads d b.positive in record { in_plane = record { mean = b.p; cosine = z; sine = reads_negated b.r }; across = record { mean = z; cosine = z; sine = z }; torque = record { mean = z; cosine = z; sine = z }; pull = record { mean = z; cosine = z; sine = reads_negated b.e } }
load_reads {tube} {x} {n} {d} b (force_along crosswise) = let z = nil_reads d b.positive in record { in_plane = record { mean = z; cosine = z; sine = z }; across = record { mean = z; cosine = reads_negated b.p; sine = b.q }; torque = record { mean = reads_negated b.r; cosine = b.q; sine = b.p }; pull = record { mean = z; cosine = z; sine = z } }
load_reads {tube} {x} {n} {d} b (moment_about chordwise) = let z = nil_reads d b.positive in record { in_plane = record { mean = z; cosine = z; sine = z }; across = record { mean = z; cosine = z; sine = b.e }; torque = record { mean = z; cosine = b.e; sine = z }; pull = record { mean = z; cosine = z; sine = z } }
load_reads {tube} {x} {n} {d} b (moment_about sidewise) = let z = nil_reads d b.positive in record { in_plane = record { mean = z; cosine = z; sine = z }; across = record { mean = z; cosine = b.e; sine = z }; torque = record { mean = z; cosine = z; sine = reads_negated b.e }; pull = record { mean = z; cosine = z; sine = z } }
load_reads {tube} {x} {n} {d} b (moment_about crosswise) = let z = nil_reads d b.positive in record { in_plane = record { mean = b.e; cosine = z; sine = z }; across = record { mean = z; cosine = z; sine = z }; torque = record { mean = z; cosine = z; sine = z }; pull = record { mean = z; cosine = z; sine = z } }

pub work_reads : {tube : Tube} {x : ExactArc} {n : Numbers} {d : ℤ} → AreRead tube x n d → (i j : Mode) →
    Reads (work tube x (pattern tube x i) (pattern tube x j)) (value (at n d) (sum (numerators i) (numerators j))) (fourth d)
work_reads b i j = sum_reads b (pattern_reads b i) (pattern_reads b j)

pub load_work_reads : {tube : Tube} {x : ExactArc} {n : Numbers} {d : ℤ} → AreRead tube x n d → (i j : Load) →
    Reads (work tube x (load_pattern x i) (load_pattern x j)) (value (at n d) (sum (load_numerators i) (load_numerators j))) (fourth d)
load_work_reads b i j = sum_reads b (load_reads b i) (load_reads b j)

-- ---- the reaches balance

-- h a - r s, and f ((k m) + (t c)) - 2 r t s
abbrev pub plane_excess : Polynomial
plane_excess = added (multiplied vH vA) (opposite (multiplied vR vS))

abbrev pub softness : Polynomial
softness = added (multiplied vK vM) (multiplied vT vC)

abbrev pub normal_excess : Polynomial
normal_excess = added (multiplied vF softness) (opposite (multiplied vR (twice (multiplied vT vS))))

-- 1 less d 2^56
abbrev pub unit_excess : Polynomial
unit_excess = added vE (opposite (multiplied vD vU))

pub record Balance (n : Numbers) (d : ℤ) : Type 0 where
  pub plane : value (at n d) plane_excess ≡ pos 0
  pub normal : value (at n d) normal_excess ≡ pos 0
  pub one : value (at n d) unit_excess ≡ pos 0

abbrev pub with_excesses : Polynomial → Polynomial → Polynomial → Polynomial → Polynomial
with_excesses b x y z = added b (added (multiplied x plane_excess) (added (multiplied y normal_excess) (multiplied z unit_excess)))

four_nothings : (b : ℤ) → b +ℤ (pos 0 +ℤ (pos 0 +ℤ pos 0)) ≡ b
four_nothings b = omega (arith, int_sums)

nothing_times : (a z : ℤ) → z ≡ pos 0 → a *ℤ z ≡ pos 0
nothing_times a z h = ap (λ (y : ℤ). a *ℤ y) h ∙ mul_comm a (pos 0) ∙ zero-mul a

-- two polynomials that differ by multiples of what the balances make 0
pub by_balance : {n : Numbers} {d : ℤ} → Balance n d → (a b x y z : Polynomial) → cancels (terms (added a (opposite (with_excesses b x y z)))) ≡ true → value (at n d) a ≡ value (at n d) b
by_balance {n} {d} balance a b x y z h =
    let v = at n d in
    let first : value v x *ℤ value v plane_excess ≡ pos 0 = nothing_times (value v x) (value v plane_excess) balance.plane in
    let second : value v y *ℤ value v normal_excess ≡ pos 0 = nothing_times (value v y) (value v normal_excess) balance.normal in
    let third : value v z *ℤ value v unit_excess ≡ pos 0 = nothing_times (value v z) (value v unit_excess) balance.one in
    same_value v a (with_excesses b x y z) h
    ∙ ap (λ (u : ℤ). value v b +ℤ (u +ℤ ((value v y *ℤ value v normal_excess) +ℤ (value v z *ℤ value v unit_excess)))) first
    ∙ ap (λ (u : ℤ). value v b +ℤ (pos 0 +ℤ (u +ℤ (value v z *ℤ value v unit_excess)))) second
    ∙ ap (λ (u : ℤ). value v b +ℤ (pos 0 +ℤ (pos 0 +ℤ u))) third
    ∙ four_nothings (value v b)

-- the multiples of the balances in the work of one pattern on another
abbrev plane_multiple : Mode → Mode → Polynomial
plane_multiple plane_rotation chord_force = opposite (twice (multiplied vK vE))
plane_multiple chord_force plane_rotation = opposite (twice (multiplied vK vE))
plane_multiple _ _ = none

abbrev normal_multiple : Mode → Mode → Polynomial
normal_multiple chord_moment normal_force = vE
normal_multiple normal_force chord_moment = vE
normal_multiple _ _ = none

-- no two patterns work on each other, where the reaches balance
pub no_work : {n : Numbers} {d : ℤ} → Balance n d → (i j : Mode) → i ≢ j → value (at n d) (sum (numerators i) (numerators j)) ≡ pos 0
no_work b plane_rotation plane_rotation apart = absurd (apart refl)
no_work b plane_rotation radial_force apart = by_balance b (sum (numerators plane_rotation) (numerators radial_force)) none (plane_multiple plane_rotation radial_force) (normal_multiple plane_rotation radial_force) none refl
no_work b plane_rotation chord_force apart = by_balance b (sum (numerators plane_rotation) (numerators chord_force)) none (plane_multiple plane_rotation chord_force) (normal_multiple plane_rotation chord_force) none refl
no_work b plane_rotation radius_moment apart = by_balance b (sum (numerators plane_rotation) (numerators radius_moment)) none (plane_multiple plane_rotation radius_moment) (normal_multiple plane_rotation radius_moment) none refl
no_work b plane_rotation chord_moment apart = by_balance b (sum (numerators plane_rotation) (numerators chord_moment)) none (plane_multiple plane_rotation chord_moment) (normal_multiple plane_rotation chord_moment) none refl
no_work b plane_rotation normal_force apart = by_balance b (sum (numerators plane_rotation) (numerators normal_force)) none (plane_multiple plane_rotation normal_force) (normal_multiple plane_rotation normal_force) none refl
no_work b radial_force plane_rotation apart = by_balance b (sum (numerators radial_force) (numerators plane_rotation)) none (plane_multiple radial_force plane_rotation) (normal_multiple radial_force plane_rotation) none refl
no_work b radial_force radial_force apart = absurd (apart refl)
no_work b radial_force chord_force apart = by_balance b (sum (numerators radial_force) (numerators chord_force)) none (plane_multiple radial_force chord_force) (normal_multiple radial_force chord_force) none refl
no_work b radial_force radius_moment apart = by_balance b (sum (numerators radial_force) (numerators radius_moment)) none (plane_multiple radial_force radius_moment) (normal_multiple radial_force radius_moment) none refl
no_work b radial_force chord_moment apart = by_balance b (sum (numerators radial_force) (numerators chord_moment)) none (plane_multiple radial_force chord_moment) (normal_multiple radial_force chord_moment) none refl
no_work b radial_force normal_force apart = by_balance b (sum (numerators radial_force) (numerators normal_force)) none (plane_multiple radial_force normal_force) (normal_multiple radial_force normal_force) none refl
no_work b chord_force plane_rotation apart = by_balance b (sum (numerators chord_force) (numerators plane_rotation)) none (plane_multiple chord_force plane_rotation) (normal_multiple chord_force plane_rotation) none refl
no_work b chord_force radial_force apart = by_balance b (sum (numerators chord_force) (numerators radial_force)) none (plane_multiple chord_force radial_force) (normal_multiple chord_force radial_force) none refl
no_work b chord_force chord_force apart = absurd (apart refl)
no_work b chord_force radius_moment apart = by_balance b (sum (numerators chord_force) (numerators radius_moment)) none (plane_multiple chord_force radius_moment) (normal_multiple chord_force radius_moment) none refl
no_work b chord_force chord_moment apart = by_balance b (sum (numerators chord_force) (numerators chord_moment)) none (plane_multiple chord_force chord_moment) (normal_multiple chord_force chord_moment) none refl
no_work b chord_force normal_force apart = by_balance b (sum (numerators chord_force) (numerators normal_force)) none (plane_multiple chord_force normal_force) (normal_multiple chord_force normal_force) none refl
no_work b radius_moment plane_rotation apart = by_balance b (sum (numerators radius_moment) (numerators plane_rotation)) none (plane_multiple radius_moment plane_rotation) (normal_multiple radius_moment plane_rotation) none refl
no_work b radius_moment radial_force apart = by_balance b (sum (numerators radius_moment) (numerators radial_force)) none (plane_multiple radius_moment radial_force) (normal_multiple radius_moment radial_force) none refl
no_work b radius_moment chord_force apart = by_balance b (sum (numerators radius_moment) (numerators chord_force)) none (plane_multiple radius_moment chord_force) (normal_multiple radius_moment chord_force) none refl
no_work b radius_moment radius_moment apart = absurd (apart refl)
no_work b radius_moment chord_moment apart = by_balance b (sum (numerators radius_moment) (numerators chord_moment)) none (plane_multiple radius_moment chord_moment) (normal_multiple radius_moment chord_moment) none refl
no_work b radius_moment normal_force apart = by_balance b (sum (numerators radius_moment) (numerators normal_force)) none (plane_multiple radius_moment normal_force) (normal_multiple radius_moment normal_force) none refl
no_work b chord_moment plane_rotation apart = by_balance b (sum (numerators chord_moment) (numerators plane_rotation)) none (plane_multiple chord_moment plane_rotation) (normal_multiple chord_moment plane_rotation) none refl
no_work b chord_moment radial_force apart = by_balance b (sum (numerators chord_moment) (numerators radial_force)) none (plane_multiple chord_moment radial_force) (normal_multiple chord_moment radial_force) none refl
no_work b chord_moment chord_force apart = by_balance b (sum (numerators chord_moment) (numerators chord_force)) none (plane_multiple chord_moment chord_force) (normal_multiple chord_moment chord_force) none refl
no_work b chord_moment radius_moment apart = by_balance b (sum (numerators chord_moment) (numerators radius_moment)) none (plane_multiple chord_moment radius_moment) (normal_multiple chord_moment radius_moment) none refl
no_work b chord_moment chord_moment apart = absurd (apart refl)
no_work b chord_moment normal_force apart = by_balance b (sum (numerators chord_moment) (numerators normal_force)) none (plane_multiple chord_moment normal_force) (normal_multiple chord_moment normal_force) none refl
no_work b normal_force plane_rotation apart = by_balance b (sum (numerators normal_force) (numerators plane_rotation)) none (plane_multiple normal_force plane_rotation) (normal_multiple normal_force plane_rotation) none refl
no_work b normal_force radial_force apart = by_balance b (sum (numerators normal_force) (numerators radial_force)) none (plane_multiple normal_force radial_force) (normal_multiple normal_force radial_force) none refl
no_work b normal_force chord_force apart = by_balance b (sum (numerators normal_force) (numerators chord_force)) none (plane_multiple normal_force chord_force) (normal_multiple normal_force chord_force) none refl
no_work b normal_force radius_moment apart = by_balance b (sum (numerators normal_force) (numerators radius_moment)) none (plane_multiple normal_force radius_moment) (normal_multiple normal_force radius_moment) none refl
no_work b normal_force chord_moment apart = by_balance b (sum (numerators normal_force) (numerators chord_moment)) none (plane_multiple normal_force chord_moment) (normal_multiple normal_force chord_moment) none refl
no_work b normal_force normal_force apart = absurd (apart refl)
