-- Search among the numbers below a bound.
use Rattle.std.proofs.Common.{◌≡◌, ℕ, zero, suc, ◌<◌, ◌≤◌, ◌⊎◌, inl, inr, refl, sym, ◌∙◌, ap, subst, arith, Bool, true, false, cond, Option, Some, None, MatchOption, ℤ, ◌≤ℤ◌}
use Rattle.std.specs.Prelude.{◌||◌, if◌then◌else◌, int_lt}
use Rattle.std.specs.Option.{option_or}
use Rattle.std.specs.Int.{int_min}
use Rattle.std.proofs.lemmas.Bool.{cases_lt, cases_Bool, false≢true}
use Rattle.std.proofs.lemmas.Int.{ints, int_min_is}
use Rattle.lists.specs.Search.{any_below, first_below, least_below, IsFirst}

-- ---- the first
first-least : (n : ℕ) (P : ℕ → Type 0) (k l : ℕ) → IsFirst n P k → IsFirst n P l → l ≤ k
first-least n P k l one other = elim (cases_lt k l) [ inl lt ↦ absurd (other.before k lt one.here) | inr le ↦ le ]

-- there is one first
pub first-unique : (n : ℕ) (P : ℕ → Type 0) (k l : ℕ) → IsFirst n P k → IsFirst n P l → k ≡ l
first-unique n P k l one other = omega (arith, first-least n P k l one other, first-least n P l k other one)

-- what a search answers: no number, or the first
abbrev pub Finds : ℕ → (ℕ → Bool) → Option ℕ → Type 0
Finds n test found = MatchOption found ((k : ℕ) → k < n → test k ≡ true → ⊥) (λ k. IsFirst n (λ j. test j ≡ true) k)

finds-more : (n : ℕ) (test : ℕ → Bool) (found : Option ℕ) (here : Bool) → test n ≡ here → Finds n test found → Finds (suc n) test (option_or found (if here then Some n else None))
finds-more n test None true is none = record { in_range = omega arith; here = is; before = none }
finds-more n test None false is none = λ k below yes.
    elim (cases_lt k n) [
      | inl lt ↦ none k lt yes
      | inr ge ↦ (let same : k ≡ n = omega arith in false≢true (sym is ∙ sym (ap test same) ∙ yes))
    ]
finds-more n test (Some k) here is first = record { in_range = omega (arith, first.in_range); here = first.here; before = first.before }

pub first_below-finds : (n : ℕ) (test : ℕ → Bool) → Finds n test (first_below n test)
first_below-finds zero test = λ k below yes. absurd (omega arith)
first_below-finds (suc n) test = finds-more n test (first_below n test) (test n) refl (first_below-finds n test)

-- ---- whether a test holds anywhere
or_right : (a b : Bool) → b ≡ true → (a || b) ≡ true
or_right true b e = refl
or_right false b e = e

-- where it holds somewhere, any_below says so
pub any_below-here : (n : ℕ) (test : ℕ → Bool) (k : ℕ) → k < n → test k ≡ true → any_below n test ≡ true
any_below-here zero test k below holds = absurd (omega arith)
any_below-here (suc n) test k below holds =
    elim (cases_lt k n) [
      | inl before ↦ ap (λ b. b || test n) (any_below-here n test k before holds)
      | inr from ↦ (let last : k ≡ n = omega arith in or_right (any_below n test) (test n) (sym (ap test last) ∙ holds))
    ]

some_more : (n : ℕ) (test : ℕ → Bool) (before : Bool) → (before ≡ true → (k : ℕ) × (k < n) × (test k ≡ true)) → (before || test n) ≡ true → (k : ℕ) × (k < suc n) × (test k ≡ true)
some_more n test true found holds = let some = found refl in (some.0, omega (arith, some.1), some.2)
some_more n test false found holds = (n, omega arith, holds)

-- and where any_below says so, it holds somewhere
pub any_below-some : (n : ℕ) (test : ℕ → Bool) → any_below n test ≡ true → (k : ℕ) × (k < n) × (test k ≡ true)
any_below-some zero test holds = absurd (false≢true holds)
any_below-some (suc n) test holds = some_more n test (any_below n test) (any_below-some n test) holds

-- ---- the least
least_le : (x y z : ℤ) → (x ≤ℤ z) ⊎ (y ≤ℤ z) → int_min x y ≤ℤ z
least_le x y z (inl low) = omega (arith, ints, int_min_is x y)
least_le x y z (inr low) = omega (arith, ints, int_min_is x y)

least_one : (x y : ℤ) (less : Bool) → (cond less y x ≡ x) ⊎ (cond less y x ≡ y)
least_one x y true = inr refl
least_one x y false = inl refl

-- it is at most each
pub least_below-le : (n : ℕ) (f : ℕ → ℤ) (k : ℕ) → k < n → least_below n f ≤ℤ f k
least_below-le zero f k below = absurd (omega arith)
least_below-le (suc n) f k below =
    elim (cases_lt k n) [
      | inl before ↦ least_le (least_below n f) (f n) (f k) (inl (least_below-le n f k before))
      | inr from ↦ (let last : f n ≡ f k = ap f (omega arith) in least_le (least_below n f) (f n) (f k) (inr (omega (arith, ints, last))))
    ]

-- and one of them
pub least_below-one : (n : ℕ) (f : ℕ → ℤ) → (k : ℕ) × (k ≤ n) × (least_below (suc n) f ≡ f k)
least_below-one zero f = (0, omega arith, elim (least_one (f 0) (f 0) (int_lt (f 0) (f 0))) [ inl e ↦ e | inr e ↦ e ])
least_below-one (suc n) f =
    let before = least_below-one n f in
    elim (least_one (least_below (suc n) f) (f (suc n)) (int_lt (f (suc n)) (least_below (suc n) f))) [
      | inl same ↦ (before.0, omega (arith, before.1), same ∙ before.2)
      | inr last ↦ (suc n, omega arith, last)
    ]
