-- Why bounds hold: the residuals and forces at the displacements hold the exact ones, and every equilibrium is near.
use Rattle.std.proofs.Common.{◌≡◌, ℕ, ◌^◌, ◌<◌, sym, ◌∙◌, subst, refl, arith, Bool, true, false, List, length, Result, Ok, Err, ℤ, pos, ◌≤ℤ◌, ◌<ℤ◌}
use Rattle.std.proofs.lemmas.Bool.{false≢true, false_from_ne_true}
use Rattle.std.proofs.lemmas.Int.{ints}
use Rattle.std.proofs.lemmas.List.FromFn.{length-map-range_with_len, get_or-map-range_with_len}
use Rattle.std.specs.Prelude.{IsOk, is_err, int_le, ◌||◌, slice_index_or, if◌then◌else◌}
use Rattle.lists.specs.Listed.{listed}
use Rattle.lists.specs.Search.{any_below}
use Rattle.lists.proofs.SearchLemmas.{any_below-here}
use Rattle.flex_interval.specs.declared.fault.Wide.{Wide}
use Rattle.int_laws.proofs.Sums.{int_sums}
use Rattle.int_laws.specs.Root.{root_up_of}
use Rattle.flex_interval.specs.Ends.{Ends}
use Rattle.flex_interval.specs.Fraction.{Within}
use Rattle.int_laws.specs.Matrices.{Vector, squared_norm}
use Rattle.member_set.specs.Members.{nothing, member_of, row_count, System, IsBuilt, AreStiff}
use Rattle.member_set.specs.Realisation.{Realisation, IsRealisation, IsEquilibrium, fraction, force_fraction, force_in, displaced}
use Rattle.member_set.specs.Interval.{Outcome, found, forces_of, residual_of}
use Rattle.member_set.specs.Inclusion.{ForcesHold, ResidualsHold}
use Rattle.bound_laws.specs.Nearness.{StiffnessMatrixExists, EquilibriaAreNear, NearIsEnclosed, RootIsLength, RoundedRadiiAreEnough, NoNegativeStiffness, IsResidualLength, AreForcesWithin, AreResidualsWithin, greater_size, displacement_radius_of, force_radius_of}
use Rattle.certificate.specs.declared.bounds.Enclosure.{Enclosure}
use Rattle.certificate.specs.Bounds.{IsDefiniteStiffness, residual_at, residual_length, force_radius, HasBounds, AreBounds, bounds_fail, enclosure_of, bounds_around, EnclosesEquilibrium, BoundsHold}
use Rattle.certificate.proofs.BoundsLemmas.{ordered}

-- an outcome that is there is that of the interval found
pub found_back : (o : Outcome) → IsOk o → o ≡ Ok (found o)
found_back (Ok e) there = refl
found_back (Err fault) there = absurd (cc)

bounds_enclose : ForcesHold → ResidualsHold → StiffnessMatrixExists → EquilibriaAreNear → NearIsEnclosed → RootIsLength → RoundedRadiiAreEnough →
    (s : System) (u : List ℤ) (lambda : ℤ) (e : Enclosure) (r : Realisation) (exact : Vector) →
    IsBuilt s.structure → AreStiff s.structure → pos 1 ≤ℤ lambda → AreBounds s u lambda e →
    IsRealisation s r → IsDefiniteStiffness r.stiffness lambda → IsEquilibrium r exact → EnclosesEquilibrium e r exact
bounds_enclose forces residuals matrix_exists equilibria_near near_enclosed root_is_length radii_enough s u lambda e r exact built stiff one bounds real definite balanced =
    let rows = real.stiffness.all_rows in
    let own = λ (k : ℕ) (inside : k < r.stiffness.members). subst (λ (n : ℕ). k < n) real.stiffness.all_members inside in
    let up : NoNegativeStiffness s.structure = λ k inside. omega (arith, int_sums, (stiff k inside).at_least) in
    let within : AreForcesWithin r u (λ k. found (forces_of s.structure s.laws u k)) =
    λ k inside. forces s r u k _ built real inside (found_back (forces_of s.structure s.laws u k) (bounds.exist.forces k (own k inside))) in
    let left : AreResidualsWithin r u (residual_at s u) =
    λ row inside.
    let row_inside = subst (λ (n : ℕ). row < n) rows inside in
    residuals s r (forces_of s.structure s.laws u) (displaced r.stiffness.denominator u) row _ built real row_inside
    (λ k f below is. forces s r u k f built real below is) (found_back (residual_of s u row) (bounds.exist.residuals row row_inside)) in
    let length_of = root_is_length r u (residual_at s u) left in
    let same : root_up_of (squared_norm r.stiffness.rows (λ row. greater_size (residual_at s u row))) ≡ residual_length s u = rw rows in
    let size_up = subst (λ (z : ℤ). pos 0 ≤ℤ z) same length_of.0 in
    let long = subst (λ (z : ℤ). IsResidualLength r u z) same length_of.1 in
    let matrix = matrix_exists s.structure s.laws r.stiffness real.stiffness in
    let near = equilibria_near s r matrix.0 lambda u exact up real matrix.1 (definite matrix.0 matrix.1) one balanced in
    let radii = radii_enough s.structure lambda (residual_length s u) one size_up
    (λ k inside.
    let order = ordered (member_of s.structure k).kappa (r.stiffness.member k).stiffness r.stiffness.denominator
    (real.stiffness.member_within k (subst (λ (n : ℕ). k < n) (sym real.stiffness.all_members) inside)).stiffness_within in
    omega (arith, int_sums, order, (stiff k inside).at_least)) in
    let enclosed = near_enclosed s r lambda u exact (λ k. found (forces_of s.structure s.laws u k)) (residual_length s u) (displacement_radius_of lambda (residual_length s u))
    (λ k. force_radius_of lambda (residual_length s u) (member_of s.structure k).kappa.hi) up real one near size_up long radii within in
    record {
      displacement = λ row inside.
          subst (λ (z : Ends). Within z (fraction (exact row) r.stiffness.denominator))
          (sym (bounds.displacement row (subst (λ (n : ℕ). row < n) rows inside))) (enclosed.displacement row inside);
      force = λ k inside.
          subst (λ (z : Ends). Within z (force_fraction r.stiffness.denominator (force_in r exact k)))
          (sym (bounds.force k (own k inside))) (enclosed.force k inside);
    }

-- ---- the bounds as a function

both_false : (a b : Bool) → (a || b) ≡ false → (a ≡ false) × (b ≡ false)
both_false true b is = absurd (false≢true (sym is))
both_false false b is = (refl, is)

-- where a test holds nowhere below n, it doesn't at k
pub not_at : (n : ℕ) (test : ℕ → Bool) (k : ℕ) → any_below n test ≡ false → k < n → test k ≡ false
not_at n test k none inside = false_from_ne_true (test k) (λ here. false≢true (sym none ∙ any_below-here n test k inside here))

pub there : (o : Outcome) → is_err o ≡ false → IsOk o
there (Ok e) is = refl
there (Err fault) is = absurd (false≢true (sym is))

below : (limit z : ℤ) → int_le limit z ≡ false → z <ℤ limit
below limit z is = grind (arith, ints)

-- where no test of the bounds is met, they exist
exist : (s : System) (u : List ℤ) (lambda : ℤ) → bounds_fail s u lambda ≡ false → HasBounds s u lambda
exist s u lambda none =
    let from_residuals = both_false _ _ none in
    let from_forces = both_false _ _ from_residuals.1 in
    let from_length = both_false _ _ from_forces.1 in
    let from_radius = both_false _ _ from_length.1 in
    record {
      residuals = λ row inside. there _ (not_at _ (λ i. is_err (residual_of s u i)) row from_residuals.0 inside);
      forces = λ k inside. there _ (not_at _ (λ i. is_err (forces_of s.structure s.laws u i)) k from_forces.0 inside);
      short = below _ _ from_length.0;
      near = below _ _ from_radius.0;
      steady = λ k inside. below _ _ (not_at _ (λ i. int_le (pos (2 ^ 60)) (force_radius s u lambda i)) k from_radius.1 inside);
    }

abbrev pub by_tests : Bool → Enclosure → Result Enclosure Wide
by_tests fails own = if fails then Err (record {}) else Ok own

by_test : (fails : Bool) (own e : Enclosure) → by_tests fails own ≡ Ok e → (fails ≡ false) × (own ≡ e)
by_test true own e is = absurd (cc)
by_test false own e is = (refl, cc)

pub listed_at : {X : Type 0} (none : X) (n : ℕ) (f : ℕ → X) (k : ℕ) → k < n → slice_index_or (listed n f) k none ≡ f k
listed_at none n f k inside = get_or-map-range_with_len f 0 n k k none inside (omega arith)

own_bounds : (s : System) (u : List ℤ) (lambda : ℤ) → HasBounds s u lambda → AreBounds s u lambda (enclosure_of s u lambda)
own_bounds s u lambda has =
    record {
      exist = has;
      one_displacement_each = length-map-range_with_len _ 0 (row_count s.structure);
      displacement = λ row inside. listed_at nothing (row_count s.structure) _ row inside;
      one_force_each = length-map-range_with_len _ 0 (length s.structure.members);
      force = λ k inside. listed_at nothing (length s.structure.members) _ k inside;
      no_states = refl;
    }

-- what the bounds say that the function gives
pub given_bounds : (s : System) (u : List ℤ) (lambda : ℤ) (e : Enclosure) → bounds_around s u lambda ≡ Ok e → AreBounds s u lambda e
given_bounds s u lambda e given =
    let is = by_test (bounds_fail s u lambda) (enclosure_of s u lambda) e given in
    subst (AreBounds s u lambda) is.1 (own_bounds s u lambda (exist s u lambda is.0))

pub bounds_hold : ForcesHold → ResidualsHold → StiffnessMatrixExists → EquilibriaAreNear → NearIsEnclosed → RootIsLength → RoundedRadiiAreEnough → BoundsHold
bounds_hold forces residuals matrix_exists equilibria_near near_enclosed root_is_length radii_enough s u lambda e r exact built stiff one given real definite balanced =
    bounds_enclose forces residuals matrix_exists equilibria_near near_enclosed root_is_length radii_enough s u lambda e r exact built stiff one
    (given_bounds s u lambda e given) real definite balanced
