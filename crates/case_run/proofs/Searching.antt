-- What searches answer, and lists made place by place.
use Rattle.std.specs.Prelude.{int_lt, int_le, nat_lt, nat_le}
use Rattle.std.specs.Int.{int_min}
use Rattle.std.proofs.Common.{◌≡◌, ℕ, zero, suc, ◌<◌, ◌≤◌, inl, inr, refl, sym, ◌∙◌, ap, subst, arith, Bool, true, false, Option, Some, None, List, length, get_or, ext_get_or, ℤ, ◌≤ℤ◌, ◌<ℤ◌}
use Rattle.std.proofs.lemmas.Bool.{cases_lt, false≢true, or_from, or_left, or_right}
use Rattle.std.proofs.lemmas.Bool.Decides.{nat_tests}
use Rattle.std.proofs.lemmas.Int.{ints, clamps}
use Rattle.std.proofs.lemmas.List.FromFn.{length-map-range_with_len, get_or-map-range_with_len}
use Rattle.lists.specs.Listed.{listed}
use Rattle.lists.specs.Search.{any_below, first_below, least_below, greatest_to}
use Rattle.lists.proofs.SearchLemmas.{Finds, first_below-finds}

-- ---- tests of numbers
pub int_lt-yes : (a b : ℤ) → a <ℤ b → int_lt a b ≡ true
int_lt-yes a b lt = grind (arith, ints)

pub int_lt-no : (a b : ℤ) → b ≤ℤ a → int_lt a b ≡ false
int_lt-no a b le = grind (arith, ints)

pub int_le-yes : (a b : ℤ) → a ≤ℤ b → int_le a b ≡ true
int_le-yes a b le = grind (arith, ints)

pub int_le-no : (a b : ℤ) → b <ℤ a → int_le a b ≡ false
int_le-no a b lt = grind (arith, ints)

pub nat_le-yes : (a b : ℕ) → a ≤ b → nat_le a b ≡ true
nat_le-yes a b le = grind (arith, nat_tests)

pub nat_le-no : (a b : ℕ) → b < a → nat_le a b ≡ false
nat_le-no a b lt = grind (arith, nat_tests)

pub nat_lt-yes : (a b : ℕ) → a < b → nat_lt a b ≡ true
nat_lt-yes a b lt = grind (arith, nat_tests)

pub nat_lt-no : (a b : ℕ) → b ≤ a → nat_lt a b ≡ false
nat_lt-no a b le = grind (arith, nat_tests)

-- ---- whether any
pub any_none : (n : ℕ) (test : ℕ → Bool) → ((k : ℕ) → k < n → test k ≡ false) → any_below n test ≡ false
any_none zero test none = refl
any_none (suc n) test none = or_from (any_below n test) (test n) (any_none n test (λ k below. none k (omega arith))) (none n (omega arith))

pub any_at : (n : ℕ) (test : ℕ → Bool) (k : ℕ) → k < n → test k ≡ true → any_below n test ≡ true
any_at zero test k below here = absurd (omega arith)
any_at (suc n) test k below here =
    elim (cases_lt k n) [
      | inl lt ↦ or_left (any_below n test) (test n) (any_at n test k lt here)
      | inr ge ↦ (let same : k ≡ n = omega arith in or_right (any_below n test) (test n) (subst (λ (m : ℕ). test m ≡ true) same here))
    ]

-- ---- the first
none_found : (n : ℕ) (test : ℕ → Bool) (found : Option ℕ) → Finds n test found → ((k : ℕ) → k < n → test k ≡ false) → found ≡ None
none_found n test None finds none = refl
none_found n test (Some k) finds none = absurd (false≢true (sym (none k finds.in_range) ∙ finds.here))

pub first_none : (n : ℕ) (test : ℕ → Bool) → ((k : ℕ) → k < n → test k ≡ false) → first_below n test ≡ None
first_none n test none = none_found n test (first_below n test) (first_below-finds n test) none

at_found : (n : ℕ) (test : ℕ → Bool) (k : ℕ) (found : Option ℕ) → Finds n test found → k < n → test k ≡ true → ((j : ℕ) → j < k → test j ≡ false) → found ≡ Some k
at_found n test k None finds below here before = absurd (finds k below here)
at_found n test k (Some l) finds below here before =
    elim (cases_lt l k) [
      | inl lt ↦ absurd (false≢true (sym (before l lt) ∙ finds.here))
      | inr ge ↦ elim (cases_lt k l) [
        | inl lt ↦ absurd (finds.before k lt here)
        | inr le ↦ (let same : l ≡ k = omega arith in ap (λ (m : ℕ). Some m) same)
      ]
    ]

pub first_at : (n : ℕ) (test : ℕ → Bool) (k : ℕ) → k < n → test k ≡ true → ((j : ℕ) → j < k → test j ≡ false) → first_below n test ≡ Some k
first_at n test k below here before = at_found n test k (first_below n test) (first_below-finds n test) below here before

-- ---- the least
least-le : (n : ℕ) (f : ℕ → ℤ) (i : ℕ) → i < n → least_below n f ≤ℤ f i
least-le zero f i below = absurd (omega arith)
least-le (suc n) f i below =
    elim (cases_lt i n) [
      | inl lt ↦ (let before = least-le n f i lt in omega (arith, ints, clamps, before))
      | inr ge ↦ (let same : n ≡ i = omega arith in subst (λ (m : ℕ). int_min (least_below n f) (f n) ≤ℤ f m) same (omega (arith, ints, clamps)))
    ]

le-least : (n : ℕ) (f : ℕ → ℤ) (l : ℤ) → l ≤ℤ f 0 → ((i : ℕ) → i < n → l ≤ℤ f i) → l ≤ℤ least_below n f
le-least zero f l first each = first
le-least (suc n) f l first each =
    let before = le-least n f l first (λ i below. each i (omega arith)) in
    let here = each n (omega arith) in
    omega (arith, ints, clamps, before, here)

pub least-is : (n : ℕ) (f : ℕ → ℤ) (l : ℤ) (k : ℕ) → ((i : ℕ) → i < n → l ≤ℤ f i) → k < n → f k ≡ l → least_below n f ≡ l
least-is n f l k each below reached =
    let up = le-least n f l (each 0 (omega arith)) each in
    let down = least-le n f k below in
    omega (arith, ints, up, down, reached)

-- ---- the greatest
pub greatest-is : (n : ℕ) (test : ℕ → Bool) (k : ℕ) → k ≤ n → test k ≡ true → ((j : ℕ) → k < j → j ≤ n → test j ≡ false) → greatest_to n test ≡ k
greatest-is zero test k below here after = omega arith
greatest-is (suc n) test k below here after =
    elim (cases_lt k (suc n)) [
      | inl lt ↦ rw (after (suc n) lt (omega arith)) (greatest-is n test k (omega arith) here (λ j past le. after j past (omega arith)))
      | inr ge ↦ (let same : k ≡ suc n = omega arith in rw (sym same, here) refl)
    ]

-- ---- a list made place by place
pub listed-is : {X : Type 0} (d : X) (xs : List X) (n : ℕ) (f : ℕ → X) → length xs ≡ n → ((k : ℕ) → k < n → get_or xs k d ≡ f k) → xs ≡ listed n f
listed-is d xs n f size each =
    ext_get_or d xs (listed n f) (size ∙ sym (length-map-range_with_len f 0 n))
    (λ k below. each k (omega (arith, size)) ∙ sym (get_or-map-range_with_len f 0 n k k d (omega (arith, size)) (omega arith)))

pub listed_same : {X : Type 0} (n : ℕ) (f g : ℕ → X) → ((k : ℕ) → k < n → f k ≡ g k) → listed n f ≡ listed n g
listed_same zero f g same = refl
listed_same {X} (suc n) f g same =
    listed-is (f 0) (listed (suc n) f) (suc n) g (length-map-range_with_len f 0 (suc n))
    (λ k below. get_or-map-range_with_len f 0 (suc n) k k (f 0) below (omega arith) ∙ same k below)
