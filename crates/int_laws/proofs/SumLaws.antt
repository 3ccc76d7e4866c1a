-- Laws of sums over the indices below n.
use Rattle.std.specs.Prelude.{if◌then◌else◌}
use Rattle.std.proofs.Common.{nat_eq, ◌≡◌, ℕ, zero, suc, ◌+◌, ◌-◌, ◌*◌, ◌<◌, ◌≤◌, ◌≢◌, ◌⊎◌, inl, inr, refl, sym, ◌∙◌, ap, subst, add-zero, add-suc, suc-mul, arith, ℤ, pos, ◌+ℤ◌, ◌-ℤ◌, ◌*ℤ◌, neg_ℤ, ◌≤ℤ◌, ◌<ℤ◌}
use Rattle.std.proofs.lemmas.Bool.Decides.{nat_tests}
use Rattle.std.proofs.lemmas.Bool.{cases_eq, cases_lt}
use Rattle.int_laws.specs.Sums.{sum_below}
use Rattle.int_laws.proofs.Sums.{int_sums}
use Rattle.int_laws.proofs.Products.{add-mul, mul-add, zero-mul, mul_comm}

-- sums of the same terms are the same
pub sum_below-same : (n : ℕ) (f g : ℕ → ℤ) → ((i : ℕ) → i < n → f i ≡ g i) → sum_below n f ≡ sum_below n g
sum_below-same zero f g same = refl
sum_below-same (suc n) f g same =
    let before = sum_below-same n f g (λ i h. same i (omega arith)) in
    omega (arith, int_sums, before, same n (omega arith))

pub sum_below-le : (n : ℕ) (f g : ℕ → ℤ) → ((i : ℕ) → i < n → f i ≤ℤ g i) → sum_below n f ≤ℤ sum_below n g
sum_below-le zero f g below = omega (arith, int_sums)
sum_below-le (suc n) f g below =
    let before = sum_below-le n f g (λ i h. below i (omega arith)) in
    omega (arith, int_sums, before, below n (omega arith))

pub sum_below-zero : (n : ℕ) (f : ℕ → ℤ) → ((i : ℕ) → i < n → f i ≡ pos 0) → sum_below n f ≡ pos 0
sum_below-zero zero f nothing = refl
sum_below-zero (suc n) f nothing =
    let before = sum_below-zero n f (λ i h. nothing i (omega arith)) in
    omega (arith, int_sums, before, nothing n (omega arith))

pub sum_below-nonnegative : (n : ℕ) (f : ℕ → ℤ) → ((i : ℕ) → i < n → pos 0 ≤ℤ f i) → pos 0 ≤ℤ sum_below n f
sum_below-nonnegative zero f up = omega (arith, int_sums)
sum_below-nonnegative (suc n) f up =
    let before = sum_below-nonnegative n f (λ i h. up i (omega arith)) in
    omega (arith, int_sums, before, up n (omega arith))

-- where all terms but that at k are 0
pub sum_below-one : (n k : ℕ) (f : ℕ → ℤ) → k < n → ((i : ℕ) → i < n → i ≢ k → f i ≡ pos 0) → sum_below n f ≡ f k
sum_below-one zero k f inside others = absurd (omega arith)
sum_below-one (suc n) k f inside others =
    elim (cases_eq n k) [
      | inl e ↦
          let before = sum_below-zero n f (λ i h. others i (omega arith) (omega arith)) in
          let there = ap f e in
          omega (arith, int_sums, before, there)
      | inr ne ↦
          let before = sum_below-one n k f (omega arith) (λ i h. others i (omega arith)) in
          omega (arith, int_sums, before, others n (omega arith) ne)
    ]

pub sum_below-add : (n : ℕ) (f g : ℕ → ℤ) → sum_below n (λ i. f i +ℤ g i) ≡ sum_below n f +ℤ sum_below n g
sum_below-add zero f g = refl
sum_below-add (suc n) f g = omega (arith, int_sums, sum_below-add n f g)

pub sum_below-sub : (n : ℕ) (f g : ℕ → ℤ) → sum_below n (λ i. f i -ℤ g i) ≡ sum_below n f -ℤ sum_below n g
sum_below-sub zero f g = refl
sum_below-sub (suc n) f g = omega (arith, int_sums, sum_below-sub n f g)

pub sum_below-neg : (n : ℕ) (f : ℕ → ℤ) → sum_below n (λ i. neg_ℤ (f i)) ≡ neg_ℤ (sum_below n f)
sum_below-neg zero f = refl
sum_below-neg (suc n) f = omega (arith, int_sums, sum_below-neg n f)

-- a common factor
pub sum_below-mul : (n : ℕ) (c : ℤ) (f : ℕ → ℤ) → sum_below n (λ i. c *ℤ f i) ≡ c *ℤ sum_below n f
sum_below-mul zero c f = omega (arith, int_sums, mul_comm c (pos 0), zero-mul c)
sum_below-mul (suc n) c f = omega (arith, int_sums, sum_below-mul n c f, mul-add c (sum_below n f) (f n))

pub sum_below-mul_right : (n : ℕ) (c : ℤ) (f : ℕ → ℤ) → sum_below n (λ i. f i *ℤ c) ≡ sum_below n f *ℤ c
sum_below-mul_right zero c f = omega (arith, int_sums, zero-mul c)
sum_below-mul_right (suc n) c f = omega (arith, int_sums, sum_below-mul_right n c f, add-mul (sum_below n f) (f n) c)

-- rows first or columns first
pub sum_below-swap : (m n : ℕ) (f : ℕ → ℕ → ℤ) → sum_below m (λ i. sum_below n (λ j. f i j)) ≡ sum_below n (λ j. sum_below m (λ i. f i j))
sum_below-swap zero n f = sym (sum_below-zero n (λ _. pos 0) (λ _ _. refl))
sum_below-swap (suc m) n f =
    omega (arith, int_sums, sum_below-swap m n f, sum_below-add n (λ j. sum_below m (λ i. f i j)) (f m))

-- the product of two sums is the sum of all products
pub sum_below-product : (m n : ℕ) (f g : ℕ → ℤ) → sum_below m (λ i. sum_below n (λ j. f i *ℤ g j)) ≡ sum_below m f *ℤ sum_below n g
sum_below-product m n f g =
    sum_below-same m (λ i. sum_below n (λ j. f i *ℤ g j)) (λ i. f i *ℤ sum_below n g) (λ i _. sum_below-mul n (f i) g)
    ∙ sum_below-mul_right m (sum_below n g) f

-- two sums whose terms differ only at k
pub sum_below-changed : (n k : ℕ) (f g : ℕ → ℤ) → k < n → ((i : ℕ) → i < n → i ≢ k → g i ≡ f i) →
    sum_below n g +ℤ f k ≡ sum_below n f +ℤ g k
sum_below-changed n k f g inside others =
    let change = sum_below-one n k (λ i. g i -ℤ f i) inside (λ i h apart. let same = others i h apart in omega (arith, int_sums, same)) in
    omega (arith, int_sums, change, sum_below-sub n g f)

-- f j where the place of s is j, else 0
abbrev picked : (ℕ → ℕ) → (ℕ → ℤ) → ℕ → ℕ → ℤ
picked place f s j = if nat_eq (place s) j then f j else pos 0

picked-here : (place : ℕ → ℕ) (f : ℕ → ℤ) (s j : ℕ) → place s ≡ j → picked place f s j ≡ f j
picked-here place f s j e = grind (arith, nat_tests)

picked-elsewhere : (place : ℕ → ℕ) (f : ℕ → ℤ) (s j : ℕ) → place s ≢ j → picked place f s j ≡ pos 0
picked-elsewhere place f s j apart = grind (arith, nat_tests)

picked-nothing : (place : ℕ → ℕ) (f : ℕ → ℤ) (s j : ℕ) → f j ≡ pos 0 → picked place f s j ≡ pos 0
picked-nothing place f s j none = grind (arith, nat_tests)

-- a sum over different indices among which is each whose term counts
pub sum_below-reindexed : (m n : ℕ) (place : ℕ → ℕ) (f : ℕ → ℤ) →
    ((s : ℕ) → s < m → place s < n) →
    ((s t : ℕ) → s < m → t < m → place s ≡ place t → s ≡ t) →
    ((j : ℕ) → j < n → (f j ≡ pos 0) ⊎ ((s : ℕ) × (s < m) × (place s ≡ j))) →
    sum_below m (λ s. f (place s)) ≡ sum_below n f
sum_below-reindexed m n place f inside apart found =
    let rows = sum_below-same m (λ s. sum_below n (λ j. picked place f s j)) (λ s. f (place s))
    (λ s h. sum_below-one n (place s) (λ j. picked place f s j) (inside s h)
    (λ j _ other. picked-elsewhere place f s j (λ e. other (sym e)))
    ∙ picked-here place f s (place s) refl) in
    let columns = sum_below-same n (λ j. sum_below m (λ s. picked place f s j)) f
    (λ j h. elim (found j h) [
      | inl none ↦ sum_below-zero m (λ s. picked place f s j) (λ s _. picked-nothing place f s j none) ∙ sym none
      | inr at ↦ sum_below-one m at.0 (λ s. picked place f s j) at.1
          (λ s k other. picked-elsewhere place f s j (λ e. other (apart s at.0 k at.1 (e ∙ sym at.2))))
          ∙ picked-here place f at.0 j at.2
    ]) in
    sym rows ∙ sum_below-swap m n (λ s j. picked place f s j) ∙ columns

-- n terms of at most 1
pub sum_below-le_count : (n : ℕ) (f : ℕ → ℤ) → ((i : ℕ) → i < n → f i ≤ℤ pos 1) → sum_below n f ≤ℤ pos n
sum_below-le_count zero f one = omega (arith, int_sums)
sum_below-le_count (suc n) f one =
    let before = sum_below-le_count n f (λ i h. one i (omega arith)) in
    omega (arith, int_sums, before, one n (omega arith))

-- n terms of at most 1, of which one is 0
pub sum_below-lt_count : (n k : ℕ) (f : ℕ → ℤ) → k < n → ((i : ℕ) → i < n → f i ≤ℤ pos 1) → f k ≡ pos 0 → sum_below n f <ℤ pos n
sum_below-lt_count zero k f inside one none = absurd (omega arith)
sum_below-lt_count (suc n) k f inside one none =
    elim (cases_eq k n) [
      | inl e ↦
          let before = sum_below-le_count n f (λ i h. one i (omega arith)) in
          let there = ap f e in
          omega (arith, int_sums, before, there, none)
      | inr ne ↦
          let before = sum_below-lt_count n k f (omega arith) (λ i h. one i (omega arith)) none in
          omega (arith, int_sums, before, one n (omega arith))
    ]

-- more terms that are never negative
pub sum_below-le_more : (m n : ℕ) (f : ℕ → ℤ) → m ≤ n → ((i : ℕ) → i < n → pos 0 ≤ℤ f i) → sum_below m f ≤ℤ sum_below n f
sum_below-le_more m zero f h up = let e : m ≡ 0 = omega arith in let same = ap (λ (k : ℕ). sum_below k f) e in omega (arith, int_sums, same)
sum_below-le_more m (suc n) f h up =
    elim (cases_eq m (suc n)) [
      | inl e ↦ let same = ap (λ (k : ℕ). sum_below k f) e in omega (arith, int_sums, same)
      | inr ne ↦
          let before = sum_below-le_more m n f (omega arith) (λ i k. up i (omega arith)) in
          omega (arith, int_sums, before, up n (omega arith))
    ]

-- ---- parts of a sum
-- each of its terms is at most the sum
pub sum_below-term : (n : ℕ) (f : ℕ → ℤ) → ((k : ℕ) → k < n → pos 0 ≤ℤ f k) → (m : ℕ) → m < n → f m ≤ℤ sum_below n f
sum_below-term zero f h m lt = absurd (omega arith)
sum_below-term (suc n) f h m lt =
    let rest = sum_below-nonnegative n f (λ k kl. h k (omega arith)) in
    let last = h n (omega arith) in
    elim (cases_lt m n) [
      | inl below ↦ (let before = sum_below-term n f (λ k kl. h k (omega arith)) m below in omega (arith, int_sums))
      | inr above ↦
          (let P : ℕ → Type 0 = λ x. f x ≤ℤ (sum_below n f +ℤ f n) in
          let same : n ≡ m = omega arith in
          subst P same (omega (arith, int_sums)))
    ]

-- a sum in two parts
pub sum_below-split : (m n : ℕ) (f : ℕ → ℤ) → sum_below (m + n) f ≡ sum_below m f +ℤ sum_below n (λ k. f (m + k))
sum_below-split m zero f = rw (add-zero m) (omega (arith, int_sums))
sum_below-split m (suc n) f =
    let rest = sum_below-split m n f in
    rw (add-suc m n) (omega (arith, int_sums))

-- terms of 0 at the end
pub sum_below-cut : (m n : ℕ) (f : ℕ → ℤ) → m ≤ n → ((k : ℕ) → m ≤ k → k < n → f k ≡ pos 0) → sum_below n f ≡ sum_below m f
sum_below-cut m n f le h =
    let rest = sum_below-split m (n - m) f in
    let none = sum_below-zero (n - m) (λ k. f (m + k)) (λ k lt. h (m + k) (omega arith) (omega arith)) in
    let P : ℕ → Type 0 = λ x. sum_below x f ≡ sum_below m f in
    let whole : m + (n - m) ≡ n = omega arith in
    subst P whole (omega (arith, int_sums))

-- six terms at a time
pub sum_below-by_six : (n : ℕ) (f : ℕ → ℤ) → sum_below (6 * n) f ≡ sum_below n (λ m. sum_below 6 (λ c. f (6 * m + c)))
sum_below-by_six zero f = refl
sum_below-by_six (suc n) f =
    let rest = sum_below-by_six n f in
    let P : ℕ → Type 0 = λ x. sum_below x f ≡ sum_below n (λ m. sum_below 6 (λ c. f (6 * m + c))) +ℤ sum_below 6 (λ c. f (6 * n + c)) in
    let whole : 6 * n + 6 ≡ 6 * suc n = omega arith in
    subst P whole (sum_below-split (6 * n) 6 f ∙ ap (λ z. z +ℤ sum_below 6 (λ c. f (6 * n + c))) rest)

-- terms of at most b
pub sum_below-at_most : (n b : ℕ) (f : ℕ → ℤ) → ((k : ℕ) → k < n → f k ≤ℤ pos b) → sum_below n f ≤ℤ pos (n * b)
sum_below-at_most zero b f h = omega (arith, int_sums)
sum_below-at_most (suc n) b f h =
    let rest = sum_below-at_most n b f (λ k lt. h k (omega arith)) in
    let last = h n (omega arith) in
    omega (arith, int_sums, suc-mul n b)
