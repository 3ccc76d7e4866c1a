-- The members that have states: their numbers rise, and they are those with one-way laws.
use Rattle.std.proofs.Common.{◌≡◌, ℕ, zero, suc, ◌+◌, ◌-◌, ◌<◌, ◌≤◌, inl, inr, List, length, refl, sym, ap, ◌∙◌, subst, arith, ℤ, Option, Some, None, Ok}
use Rattle.std.specs.Prelude.{Contains, replicate}
use Rattle.std.proofs.lemmas.Bool.{cases_lt}
use Rattle.std.proofs.lemmas.List.{take_all}
use Rattle.member_set.specs.declared.members.Member.{Member}
use Rattle.member_set.specs.Members.{IsOneway, law_of}
use Rattle.model_types.specs.Lists.{Lists}
use Rattle.model_types.specs.MemberCounts.{restraint_member_count, restraints_member_count}
use Rattle.model_types.specs.declared.records.Restraint.{Restraint}
use Rattle.model_types.specs.declared.records.RestraintKind.{RestraintKind}
use Rattle.restraint_law.specs.States.{one_way_gap, law_past, states_past, state_count_of, state_numbers}
use Rattle.structure.specs.Elements.{element_member_count}
use Rattle.structure.specs.Laws.{StructuresHaveStates}
use Rattle.structure.specs.Restraints.{restraint_at, first_of_restraint, unilateral_of}
use Rattle.structure.specs.Structure.{model_members}
use Rattle.structure.proofs.CountLaw.{models_have_their_members}
use Rattle.structure.proofs.RestraintLaw.{first_more}
use Rattle.structure.proofs.Runs.{IsRun, joined, joined-has, joined-from, joined-run, replicate-run, run-within}

-- ---- the numbers of a restraint

at_most_one : (gap : Option ℤ) → states_past gap ≤ 1
at_most_one (Some gap) = omega arith
at_most_one None = omega arith

-- the number of one of its members, as often as it has states
abbrev own_numbers : ℕ → RestraintKind → ℕ → List ℕ
own_numbers first kind part = replicate (state_count_of kind part) (first + part)

kind-run : (first : ℕ) (kind : RestraintKind) → IsRun first (first + restraint_member_count kind) (state_numbers first kind)
kind-run first kind =
    let count = restraint_member_count kind in
    let whole = joined-run (own_numbers first kind) (λ part. first + part) count
    (λ part below. (
      omega arith,
      run-within (first + part) (first + part) (suc (first + part)) (first + suc part) (own_numbers first kind part) (omega arith) (omega arith)
          (replicate-run (state_count_of kind part) (first + part) (at_most_one (one_way_gap kind))),
    )) in
    run-within first (first + 0) (first + count) (first + count) (state_numbers first kind) (omega arith) (omega arith) whole.1

-- a member has a state where its law is one-way
state-of_oneway : (gap : Option ℤ) (k : ℕ) → IsOneway (law_past gap) → Contains (replicate (states_past gap) k) k
state-of_oneway (Some gap) k one = (0, omega arith, refl)
state-of_oneway None k one = elim one [ ]

oneway-from_state : (gap : Option ℤ) (k n : ℕ) → Contains (replicate (states_past gap) k) n → (k ≡ n) × IsOneway (law_past gap)
oneway-from_state (Some gap) k n (zero, inside, is) = (is, tt)
oneway-from_state (Some gap) k n (suc i, inside, is) = absurd (omega (arith, inside))
oneway-from_state None k n has = absurd (omega (arith, has.1))

-- ---- those of a model

abbrev pub numbers_at : Lists → ℕ → List ℕ
numbers_at m n = state_numbers (first_of_restraint m n) (restraint_at m n).kind

next-first : (m : Lists) (n : ℕ) → n < length m.restraints →
    first_of_restraint m n + restraint_member_count (restraint_at m n).kind ≡ first_of_restraint m (suc n)
next-first m n inside = first_more m n inside ∙ ap (first_of_restraint m) (let same : n + 1 ≡ suc n = omega arith in same)

restraints-run : (m : Lists) (count : ℕ) → count ≤ length m.restraints →
    (first_of_restraint m 0 ≤ first_of_restraint m count) × IsRun (first_of_restraint m 0) (first_of_restraint m count) (joined (numbers_at m) count)
restraints-run m count few =
    joined-run (numbers_at m) (first_of_restraint m) count
    (λ n below.
    let next = next-first m n (omega (arith, few, below)) in
    let past = first_of_restraint m n + restraint_member_count (restraint_at m n).kind in (
      omega (arith, next),
      run-within (first_of_restraint m n) (first_of_restraint m n) past (first_of_restraint m (suc n)) (numbers_at m n) (omega arith) (omega (arith, next))
          (kind-run (first_of_restraint m n) (restraint_at m n).kind),
    ))

-- behind the last restraint there are no members
past_all : (m : Lists) (members : List Member) → model_members m ≡ Ok members → length members ≡ first_of_restraint m (length m.restraints)
past_all m members is =
    subst (λ (rs : List Restraint). length members ≡ element_member_count m + restraints_member_count rs)
    (sym (take_all (length m.restraints) m.restraints (omega arith))) (models_have_their_members m members is)

pub numbers_run : (m : Lists) (members : List Member) → model_members m ≡ Ok members → IsRun 0 (length members) (unilateral_of m)
numbers_run m members is =
    run-within 0 (first_of_restraint m 0) (first_of_restraint m (length m.restraints)) (length members) (unilateral_of m) (omega arith) (omega (arith, past_all m members is))
    (restraints-run m (length m.restraints) (omega arith)).1

-- ---- the law

-- a member behind those of the elements is one of a restraint
restraint-of : (m : Lists) (count k : ℕ) → count ≤ length m.restraints → element_member_count m ≤ k → k < first_of_restraint m count →
    (n : ℕ) × (part : ℕ) × (n < count) × (part < restraint_member_count (restraint_at m n).kind) × (first_of_restraint m n + part ≡ k)
restraint-of m zero k few past below = absurd (omega (arith, below))
restraint-of m (suc count) k few past below =
    elim (cases_lt k (first_of_restraint m count)) [
      | inl before ↦
          let one = restraint-of m count k (omega (arith, few)) past before in
          (one.0, one.1, omega (arith, one.2), one.3, one.4)
      | inr here ↦
          let next = next-first m count (omega (arith, few)) in
          (count, k - first_of_restraint m count, omega arith, omega (arith, here, below, next), omega (arith, here))
    ]

pub structures_have_states : StructuresHaveStates
structures_have_states m b laws structure suit k inside = (
  λ has.
      let n = joined-from (numbers_at m) (length m.restraints) k (subst (λ (xs : List ℕ). Contains xs k) structure.unilateral has) in
      let kind = (restraint_at m n.0).kind in
      let part = joined-from (own_numbers (first_of_restraint m n.0) kind) (restraint_member_count kind) k n.2 in
      let own = oneway-from_state (one_way_gap kind) (first_of_restraint m n.0 + part.0) k part.2 in
      subst (λ (i : ℕ). IsOneway (law_of laws i)) own.0 ((suit.restraints n.0 part.0 n.1 part.1).1 own.1),
  λ one. elim (cases_lt k (element_member_count m)) [
    | inl below ↦ absurd (suit.elements k below one)
    | inr past ↦
        let here = restraint-of m (length m.restraints) k (omega arith) past (omega (arith, inside, past_all m b.members structure.members)) in
        let n = here.0 in
        let part = here.1 in
        let kind = (restraint_at m here.0).kind in
        let own = (suit.restraints here.0 here.1 here.2 here.3).0 (subst (λ (i : ℕ). IsOneway (law_of laws i)) (sym here.4) one) in
        let state = subst (λ (i : ℕ). Contains (own_numbers (first_of_restraint m here.0) kind here.1) i) here.4 (state-of_oneway (one_way_gap kind) (first_of_restraint m here.0 + here.1) own) in
        subst (λ (xs : List ℕ). Contains xs k) (sym structure.unilateral)
        (joined-has (numbers_at m) (length m.restraints) here.0 k here.2
        (joined-has (own_numbers (first_of_restraint m here.0) kind) (restraint_member_count kind) here.1 k here.3 state))
  ],
)
