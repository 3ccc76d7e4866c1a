-- A structure at rest: it has a realisation, and each of its realisations is in equilibrium.
use Rattle.std.proofs.Common.{◌≡◌, ℕ, refl, ap, subst, sym, ◌∙◌, arith, ◌^◌, ℤ, pos, ◌*ℤ◌, ◌≤ℤ◌, ◌<ℤ◌}
use Rattle.std.proofs.lemmas.Int.{ints, clamps}
use Rattle.int_laws.proofs.Sums.{int_sums}
use Rattle.int_laws.proofs.Products.{mul_comm, one-mul, zero-mul, mul_nonnegative}
use Rattle.int_laws.proofs.SumLaws.{sum_below-zero}
use Rattle.flex_interval.specs.Ends.{Ends}
use Rattle.flex_interval.specs.Fraction.{Within}
use Rattle.member_set.specs.declared.members.Law.{Law}
use Rattle.member_set.specs.declared.members.Law.TheVariants.{Linear, Oneway}
use Rattle.member_set.specs.Members.{start_of, member_of, law_of, load_of, shape_at}
use Rattle.member_set.specs.Realisation.{fraction, ExactLaw, linear, oneway, ExactMember, IsSlack, IsLawWithin, IsOffsetWithin, lower_law, lower_offset, LowerEndsAreRealisation, RestIsEquilibrium, stretch, exact_reach, exact_force, force_in, exact_load}
use Rattle.member_set.proofs.Rows.{nothing_is_zero}

lower_within : (e : Ends) → e.lo ≤ℤ e.hi → Within e (fraction e.lo (pos 1))
lower_within e ordered =
    record {
      defined = omega (arith, ints);
      at_least = omega (arith, int_sums, mul_comm e.lo (pos 1), one-mul e.lo);
      at_most = omega (arith, int_sums, mul_comm e.hi (pos 1), one-mul e.hi);
    }

lower_law_within : (law : Law) → (start_of law).lo ≤ℤ (start_of law).hi → IsLawWithin (pos 1) law (lower_law law)
lower_law_within (Linear offset) ordered = tt
lower_law_within (Oneway gap) ordered = lower_within gap ordered

lower_offset_within : (law : Law) → (start_of law).lo ≤ℤ (start_of law).hi → IsOffsetWithin (pos 1) law (lower_offset law)
lower_offset_within (Linear offset) ordered = lower_within offset ordered
lower_offset_within (Oneway gap) ordered = tt

pub lower_ends_are_realisation : LowerEndsAreRealisation
lower_ends_are_realisation s hold =
    record {
      stiffness = record {
        positive = omega (arith, ints);
        all_rows = refl;
        all_members = refl;
        member_within = λ k inside.
            record {
              stiffness_within = lower_within (member_of s.structure k).kappa (hold.stiffnesses k inside);
              shape_within = λ row. lower_within (shape_at (member_of s.structure k) row) (hold.shapes k row inside);
              law_within = lower_law_within (law_of s.laws k) (hold.starts k inside);
            };
      };
      numbers = record {
        offset_within = λ k inside. lower_offset_within (law_of s.laws k) (hold.starts k inside);
        load_within = λ row inside. lower_within (load_of s.loads row) (hold.loads_hold row inside);
      };
    }

times_zero : (a : ℤ) → a *ℤ pos 0 ≡ pos 0
times_zero a = mul_comm a (pos 0) ∙ zero-mul a

-- no stretch at rest
no_stretch : (q d : ℤ) (law : Law) (exact : ExactLaw) → pos 0 <ℤ q → IsSlack law → IsOffsetWithin q law d → IsLawWithin q law exact → stretch q exact d (pos 0) ≡ pos 0
no_stretch q d (Linear offset) linear positive slack within kind =
    let own = subst (λ (e : Ends). Within e (fraction d q)) slack within in
    let none : (pos (2 ^ 56) *ℤ q) *ℤ d ≡ pos 0 = ap (λ (z : ℤ). (pos (2 ^ 56) *ℤ q) *ℤ z) (nothing_is_zero d q own) ∙ times_zero (pos (2 ^ 56) *ℤ q) in
    omega (arith, int_sums, none)
no_stretch q d (Linear offset) (oneway g) positive slack within kind = elim kind [ ]
no_stretch q d (Oneway gap) linear positive slack within kind = elim kind [ ]
no_stretch q d (Oneway gap) (oneway g) positive slack within kind =
    let up = mul_nonnegative gap.lo q slack (omega (arith, int_sums)) in
    let g_up : pos 0 ≤ℤ g = omega (arith, int_sums, up, kind.at_least) in
    let room = mul_nonnegative (pos (2 ^ 56) *ℤ q) g (mul_nonnegative (pos (2 ^ 56)) q (omega (arith, int_sums)) (omega (arith, int_sums))) g_up in
    omega (arith, int_sums, clamps, room)

no_force : (q d : ℤ) (rows : ℕ) (law : Law) (m : ExactMember) → pos 0 <ℤ q → IsSlack law → IsOffsetWithin q law d → IsLawWithin q law m.law →
    exact_force q m d (exact_reach rows m (λ _. pos 0)) ≡ pos 0
no_force q d rows law m positive slack within kind =
    let reach = sum_below-zero rows (λ row. m.shape row *ℤ pos 0) (λ row _. times_zero (m.shape row)) in
    ap (λ (z : ℤ). m.stiffness *ℤ stretch q m.law d z) reach ∙ ap (λ (z : ℤ). m.stiffness *ℤ z) (no_stretch q d law m.law positive slack within kind) ∙ times_zero m.stiffness

pub rest_is_equilibrium : RestIsEquilibrium
rest_is_equilibrium s r rest real row inside =
    let q = r.stiffness.denominator in
    let load = nothing_is_zero (r.numbers.load row) q
    (subst (λ (e : Ends). Within e (fraction (r.numbers.load row) q)) (rest.no_load row (rw (← real.stiffness.all_rows) inside)) (real.numbers.load_within row inside)) in
    let unloaded : exact_load r row ≡ pos 0 = ap (λ (z : ℤ). (pos (2 ^ 148) *ℤ ((q *ℤ q) *ℤ q)) *ℤ z) load ∙ times_zero (pos (2 ^ 148) *ℤ ((q *ℤ q) *ℤ q)) in
    let free = sum_below-zero r.stiffness.members (λ k. (r.stiffness.member k).shape row *ℤ force_in r (λ _. pos 0) k)
    (λ k below.
    let slack = rest.slack k (rw (← real.stiffness.all_members) below) in
    let kind = (real.stiffness.member_within k below).law_within in
    let offset = real.numbers.offset_within k below in
    ap (λ (z : ℤ). (r.stiffness.member k).shape row *ℤ z)
    (no_force q (r.numbers.offset k) r.stiffness.rows (law_of s.laws k) (r.stiffness.member k) real.stiffness.positive slack offset kind)
    ∙ times_zero ((r.stiffness.member k).shape row)) in
    free ∙ sym unloaded
