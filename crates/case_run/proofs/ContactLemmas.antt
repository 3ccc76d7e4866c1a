-- The contacts of a model: one for each state, each of one of its restraints.
use Rattle.std.proofs.Common.{◌≡◌, ℕ, zero, suc, ◌+◌, ◌<◌, inl, inr, List, [], ◌∷◌, ◌++◌, length, length-append, replicate, refl, sym, ap, ◌∙◌, subst, arith}
use Rattle.std.specs.Prelude.{Contains}
use Rattle.std.specs.List.{flat_map, range_with_len}
use Rattle.std.proofs.lemmas.List.{length-replicate}
use Rattle.std.proofs.lemmas.List.Elements.{Contains-append_cases}
use Rattle.model_types.specs.Lists.{Lists}
use Rattle.model_types.specs.MemberCounts.{restraint_member_count}
use Rattle.restraint_law.specs.States.{state_count_of, state_numbers}
use Rattle.structure.specs.Restraints.{restraint_at, first_of_restraint, unilateral_of}
use Rattle.case_run.specs.declared.contacts.Contact.{Contact}
use Rattle.case_run.specs.Contacts.{contact, kind_contacts, contacts_of}
use Rattle.case_run.proofs.Listing.{flat_map_range_more}

-- the lists of one more number
joined_more : {X : Type 0} (f : ℕ → List X) (n : ℕ) → flat_map f (range_with_len 0 (suc n)) ≡ flat_map f (range_with_len 0 n) ++ f n
joined_more f n = ap (λ (k : ℕ). flat_map f (range_with_len 0 k)) (let same : suc n ≡ n + 1 = omega arith in same) ∙ sym (flat_map_range_more f [] n)

-- lists that are as long one by one are as long together
same_length : {X Y : Type 0} (f : ℕ → List X) (g : ℕ → List Y) (n : ℕ) → ((k : ℕ) → length (f k) ≡ length (g k)) → length (flat_map f (range_with_len 0 n)) ≡ length (flat_map g (range_with_len 0 n))
same_length f g zero each = refl
same_length {X} {Y} f g (suc n) each =
    omega (
      arith,
      ap (λ (xs : List X). length xs) (joined_more f n),
      ap (λ (ys : List Y). length ys) (joined_more g n),
      length-append (flat_map f (range_with_len 0 n)) (f n),
      length-append (flat_map g (range_with_len 0 n)) (g n),
      same_length f g n each,
      each n,
    )

pub one_contact_each : (m : Lists) → length (contacts_of m) ≡ length (unilateral_of m)
one_contact_each m =
    same_length (λ n. kind_contacts n (restraint_at m n).kind) (λ n. state_numbers (first_of_restraint m n) (restraint_at m n).kind) (length m.restraints)
    (λ n.
    let kind = (restraint_at m n).kind in
    same_length (λ part. replicate (state_count_of kind part) (contact n kind part)) (λ part. replicate (state_count_of kind part) (first_of_restraint m n + part)) (restraint_member_count kind)
    (λ part. length-replicate (state_count_of kind part) (contact n kind part) ∙ sym (length-replicate (state_count_of kind part) (first_of_restraint m n + part))))

-- what holds of all that the lists contain
each_joined : {X : Type 0} (P : X → Type 0) (f : ℕ → List X) (n : ℕ) → ((k : ℕ) → k < n → (x : X) → Contains (f k) x → P x) → (x : X) → Contains (flat_map f (range_with_len 0 n)) x → P x
each_joined P f zero each x has = absurd (omega (arith, has.1))
each_joined {X} P f (suc n) each x has =
    elim (Contains-append_cases (flat_map f (range_with_len 0 n)) (f n) x (subst (λ (xs : List X). Contains xs x) (joined_more f n) has)) [
      | inl before ↦ each_joined P f n (λ k below. each k (omega (arith, below))) x before
      | inr last ↦ each n (omega arith) x last
    ]

repeated_is : {X : Type 0} (n : ℕ) (x y : X) → Contains (replicate n x) y → x ≡ y
repeated_is zero x y has = absurd (omega (arith, has.1))
repeated_is (suc n) x y has = elim (Contains-append_cases (x ∷ []) (replicate n x) y has) [ inl here ↦ only x y here | inr later ↦ repeated_is n x y later ]
  where
    only : {X : Type 0} (x y : X) → Contains (x ∷ []) y → x ≡ y
    only x y (zero, inside, is) = is
    only x y (suc i, inside, is) = absurd (omega (arith, inside))

pub joined_inside : (m : Lists) (count : ℕ) (c : Contact) → Contains (flat_map (λ n. kind_contacts n (restraint_at m n).kind) (range_with_len 0 count)) c → c.restraint.0 < count
joined_inside m count =
    each_joined (λ (c : Contact). c.restraint.0 < count) (λ n. kind_contacts n (restraint_at m n).kind) count
    (λ n below.
    let kind = (restraint_at m n).kind in
    each_joined (λ (c : Contact). c.restraint.0 < count) (λ part. replicate (state_count_of kind part) (contact n kind part)) (restraint_member_count kind)
    (λ part _ c has. subst (λ (d : Contact). d.restraint.0 < count) (repeated_is (state_count_of kind part) (contact n kind part) c has) below))
