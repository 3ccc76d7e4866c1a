-- Quadratic forms: linear in the matrix, and three matrices whose form is known.
use Rattle.std.proofs.Common.{◌≡◌, ℕ, zero, suc, ◌<◌, ◌≢◌, sym, ◌∙◌, ap, arith, ℤ, pos, negsuc, ◌+ℤ◌, ◌-ℤ◌, ◌*ℤ◌, neg_ℤ, ◌≤ℤ◌}
use Rattle.std.proofs.lemmas.Int.{ints}
use Rattle.std.proofs.lemmas.Bool.Decides.{nat_tests}
use Rattle.int_laws.specs.Sums.{sum_below}
use Rattle.int_laws.proofs.Sums.{int_sums}
use Rattle.int_laws.proofs.Products.{add-mul, mul-add, neg-mul, mul-neg, zero-mul, mul_comm, mul_assoc, mul_swap, square_nonnegative, mul_nonnegative}
use Rattle.int_laws.proofs.SumLaws.{sum_below-same, sum_below-le, sum_below-zero, sum_below-one, sum_below-add, sum_below-mul, sum_below-neg, sum_below-mul_right, sum_below-swap, sum_below-product}
use Rattle.int_laws.specs.Matrices.{Vector, Entries, absolute, scalar_matrix, gram, quadratic_form, squared_norm, IsSymmetric}

-- a double sum of the same terms
pub double-same : (n : ℕ) (f g : Entries) → ((i j : ℕ) → i < n → j < n → f i j ≡ g i j) →
    sum_below n (λ i. sum_below n (λ j. f i j)) ≡ sum_below n (λ i. sum_below n (λ j. g i j))
double-same n f g same =
    sum_below-same n (λ i. sum_below n (λ j. f i j)) (λ i. sum_below n (λ j. g i j))
    (λ i p. sum_below-same n (f i) (g i) (λ j q. same i j p q))

pub double-le : (n : ℕ) (f g : Entries) → ((i j : ℕ) → i < n → j < n → f i j ≤ℤ g i j) →
    sum_below n (λ i. sum_below n (λ j. f i j)) ≤ℤ sum_below n (λ i. sum_below n (λ j. g i j))
double-le n f g below =
    sum_below-le n (λ i. sum_below n (λ j. f i j)) (λ i. sum_below n (λ j. g i j))
    (λ i p. sum_below-le n (f i) (g i) (λ j q. below i j p q))

pub double-add : (n : ℕ) (f g : Entries) →
    sum_below n (λ i. sum_below n (λ j. f i j +ℤ g i j))
    ≡ sum_below n (λ i. sum_below n (λ j. f i j)) +ℤ sum_below n (λ i. sum_below n (λ j. g i j))
double-add n f g =
    sum_below-same n (λ i. sum_below n (λ j. f i j +ℤ g i j)) (λ i. sum_below n (f i) +ℤ sum_below n (g i))
    (λ i _. sum_below-add n (f i) (g i))
    ∙ sum_below-add n (λ i. sum_below n (f i)) (λ i. sum_below n (g i))

pub double-mul : (n : ℕ) (c : ℤ) (f : Entries) →
    sum_below n (λ i. sum_below n (λ j. c *ℤ f i j)) ≡ c *ℤ sum_below n (λ i. sum_below n (λ j. f i j))
double-mul n c f =
    sum_below-same n (λ i. sum_below n (λ j. c *ℤ f i j)) (λ i. c *ℤ sum_below n (f i)) (λ i _. sum_below-mul n c (f i))
    ∙ sum_below-mul n c (λ i. sum_below n (f i))

double-neg : (n : ℕ) (f : Entries) →
    sum_below n (λ i. sum_below n (λ j. neg_ℤ (f i j))) ≡ neg_ℤ (sum_below n (λ i. sum_below n (λ j. f i j)))
double-neg n f =
    sum_below-same n (λ i. sum_below n (λ j. neg_ℤ (f i j))) (λ i. neg_ℤ (sum_below n (f i))) (λ i _. sum_below-neg n (f i))
    ∙ sum_below-neg n (λ i. sum_below n (f i))

-- ---- the form is linear in the matrix
pub form-same : (n : ℕ) (m m' : Entries) (x : Vector) → ((i j : ℕ) → i < n → j < n → m i j ≡ m' i j) →
    quadratic_form n m x ≡ quadratic_form n m' x
form-same n m m' x same =
    double-same n (λ i j. m i j *ℤ (x i *ℤ x j)) (λ i j. m' i j *ℤ (x i *ℤ x j))
    (λ i j p q. ap (λ (z : ℤ). z *ℤ (x i *ℤ x j)) (same i j p q))

pub form-add : (n : ℕ) (m m' : Entries) (x : Vector) →
    quadratic_form n (λ i j. m i j +ℤ m' i j) x ≡ quadratic_form n m x +ℤ quadratic_form n m' x
form-add n m m' x =
    double-same n (λ i j. (m i j +ℤ m' i j) *ℤ (x i *ℤ x j)) (λ i j. (m i j *ℤ (x i *ℤ x j)) +ℤ (m' i j *ℤ (x i *ℤ x j)))
    (λ i j _ _. add-mul (m i j) (m' i j) (x i *ℤ x j))
    ∙ double-add n (λ i j. m i j *ℤ (x i *ℤ x j)) (λ i j. m' i j *ℤ (x i *ℤ x j))

pub form-mul : (n : ℕ) (c : ℤ) (m : Entries) (x : Vector) →
    quadratic_form n (λ i j. c *ℤ m i j) x ≡ c *ℤ quadratic_form n m x
form-mul n c m x =
    double-same n (λ i j. (c *ℤ m i j) *ℤ (x i *ℤ x j)) (λ i j. c *ℤ (m i j *ℤ (x i *ℤ x j)))
    (λ i j _ _. mul_assoc c (m i j) (x i *ℤ x j))
    ∙ double-mul n c (λ i j. m i j *ℤ (x i *ℤ x j))

-- ---- x^T (c I) x = c |x|^2
scalar-diagonal : (c : ℤ) (i : ℕ) → scalar_matrix c i i ≡ c
scalar-diagonal c i = grind (arith, nat_tests)

pub scalar-outside : (c : ℤ) (i j : ℕ) → j ≢ i → scalar_matrix c i j ≡ pos 0
scalar-outside c i j apart = grind (arith, nat_tests)

pub form-scalar : (n : ℕ) (c : ℤ) (x : Vector) → quadratic_form n (scalar_matrix c) x ≡ c *ℤ squared_norm n x
form-scalar n c x =
    sum_below-same n (λ i. sum_below n (λ j. scalar_matrix c i j *ℤ (x i *ℤ x j))) (λ i. c *ℤ (x i *ℤ x i))
    (λ i p.
    sum_below-one n i (λ j. scalar_matrix c i j *ℤ (x i *ℤ x j)) p
    (λ j q apart. ap (λ (z : ℤ). z *ℤ (x i *ℤ x j)) (scalar-outside c i j apart) ∙ zero-mul (x i *ℤ x j))
    ∙ ap (λ (z : ℤ). z *ℤ (x i *ℤ x i)) (scalar-diagonal c i))
    ∙ sum_below-mul n c (λ i. x i *ℤ x i)

pub scalar-symmetric : (c : ℤ) (i j : ℕ) → scalar_matrix c i j ≡ scalar_matrix c j i
scalar-symmetric c i j = grind (arith, nat_tests)

-- ---- x^T G G^T x = |G^T x|^2 is never negative
regroup : (a b x y : ℤ) → (a *ℤ b) *ℤ (x *ℤ y) ≡ (a *ℤ x) *ℤ (b *ℤ y)
regroup a b x y =
    mul_assoc a b (x *ℤ y) ∙ ap (λ (z : ℤ). a *ℤ z) (mul_swap b x y) ∙ sym (mul_assoc a x (b *ℤ y))

pub form-column : (n : ℕ) (g x : Vector) →
    quadratic_form n (λ i j. g i *ℤ g j) x ≡ sum_below n (λ i. g i *ℤ x i) *ℤ sum_below n (λ i. g i *ℤ x i)
form-column n g x =
    double-same n (λ i j. (g i *ℤ g j) *ℤ (x i *ℤ x j)) (λ i j. (g i *ℤ x i) *ℤ (g j *ℤ x j))
    (λ i j _ _. regroup (g i) (g j) (x i) (x j))
    ∙ sum_below-product n n (λ i. g i *ℤ x i) (λ j. g j *ℤ x j)

pub form-none : (n : ℕ) (x : Vector) → quadratic_form n (λ _ _. pos 0) x ≡ pos 0
form-none n x =
    sum_below-zero n (λ i. sum_below n (λ j. pos 0 *ℤ (x i *ℤ x j)))
    (λ i _. sum_below-zero n (λ j. pos 0 *ℤ (x i *ℤ x j)) (λ j _. zero-mul (x i *ℤ x j)))

pub form-gram : (n w : ℕ) (g : Entries) (x : Vector) → pos 0 ≤ℤ quadratic_form n (gram w g) x
form-gram n zero g x = let none = form-none n x in omega (arith, int_sums, none)
form-gram n (suc w) g x =
    let parts = form-add n (gram w g) (λ i j. g i w *ℤ g j w) x in
    omega (arith, int_sums, parts, form-gram n w g x, form-column n (λ i. g i w) x, square_nonnegative (sum_below n (λ i. g i w *ℤ x i)))

pub gram-symmetric : (w : ℕ) (g : Entries) (i j : ℕ) → gram w g i j ≡ gram w g j i
gram-symmetric w g i j =
    sum_below-same w (λ k. g i k *ℤ g j k) (λ k. g j k *ℤ g i k) (λ k _. mul_comm (g i k) (g j k))

-- ---- a symmetric form loses at most each |x_i|^2 times the row's sum of sizes
-- 2 e x y ≥ -(|e| x^2 + |e| y^2)
pair_bound : (e x y : ℤ) → neg_ℤ ((absolute e *ℤ (x *ℤ x)) +ℤ (absolute e *ℤ (y *ℤ y))) ≤ℤ ((e *ℤ (x *ℤ y)) +ℤ (e *ℤ (x *ℤ y)))
pair_bound (pos e) x y =
    let square = mul_nonnegative (pos e) ((x +ℤ y) *ℤ (x +ℤ y)) (omega (arith, ints)) (square_nonnegative (x +ℤ y)) in
    let opened : (x +ℤ y) *ℤ (x +ℤ y) ≡ ((x *ℤ x) +ℤ (y *ℤ y)) +ℤ ((x *ℤ y) +ℤ (x *ℤ y)) =
    simp (add-mul, mul-add) (omega (arith, int_sums, mul_comm y x)) in
    let out = ap (λ (z : ℤ). pos e *ℤ z) opened in
    omega (arith, int_sums, square, out, mul-add (pos e) ((x *ℤ x) +ℤ (y *ℤ y)) ((x *ℤ y) +ℤ (x *ℤ y)), mul-add (pos e) (x *ℤ x) (y *ℤ y), mul-add (pos e) (x *ℤ y) (x *ℤ y))
pair_bound (negsuc e) x y =
    let size : ℤ = pos (suc e) in
    let square = mul_nonnegative (pos (suc e)) ((x -ℤ y) *ℤ (x -ℤ y)) (omega (arith, ints)) (square_nonnegative (x -ℤ y)) in
    let opened : (x -ℤ y) *ℤ (x -ℤ y) ≡ ((x *ℤ x) +ℤ (y *ℤ y)) -ℤ ((x *ℤ y) +ℤ (x *ℤ y)) =
    simp (add-mul, mul-add, neg-mul, mul-neg) (omega (arith, int_sums, mul_comm y x)) in
    let out = ap (λ (z : ℤ). pos (suc e) *ℤ z) opened in
    let split = mul-add (pos (suc e)) ((x *ℤ x) +ℤ (y *ℤ y)) (neg_ℤ ((x *ℤ y) +ℤ (x *ℤ y))) in
    omega (arith, int_sums, square, out, split, mul-neg (pos (suc e)) ((x *ℤ y) +ℤ (x *ℤ y)), neg-mul (pos (suc e)) (x *ℤ y), mul-add (pos (suc e)) (x *ℤ x) (y *ℤ y), mul-add (pos (suc e)) (x *ℤ y) (x *ℤ y))

-- sum over i of x_i^2 times the sum over j of |e_ij|
abbrev pub row_weighted : ℕ → Entries → Vector → ℤ
row_weighted n e x = sum_below n (λ i. sum_below n (λ j. absolute (e i j)) *ℤ (x i *ℤ x i))

pub form-symmetric : (n : ℕ) (e : Entries) (x : Vector) → IsSymmetric n e → neg_ℤ (row_weighted n e x) ≤ℤ quadratic_form n e x
form-symmetric n e x symmetric =
    let own : Entries = λ i j. absolute (e i j) *ℤ (x i *ℤ x i) in
    let other : Entries = λ i j. absolute (e i j) *ℤ (x j *ℤ x j) in
    let term : Entries = λ i j. e i j *ℤ (x i *ℤ x j) in
    let rows = sum_below-same n (λ i. sum_below n (own i)) (λ i. sum_below n (λ j. absolute (e i j)) *ℤ (x i *ℤ x i))
    (λ i _. sum_below-mul_right n (x i *ℤ x i) (λ j. absolute (e i j))) in
    let columns = double-same n other (λ i j. own j i)
    (λ i j p q. ap (λ (z : ℤ). absolute z *ℤ (x j *ℤ x j)) (symmetric i j p q))
    ∙ sum_below-swap n n (λ i j. own j i) in
    let pairs = double-le n (λ i j. neg_ℤ (own i j +ℤ other i j)) (λ i j. term i j +ℤ term i j)
    (λ i j _ _. pair_bound (e i j) (x i) (x j)) in
    let lost = double-neg n (λ i j. own i j +ℤ other i j) in
    let sides = double-add n own other in
    let twice = double-add n term term in
    omega (arith, int_sums, rows, columns, pairs, lost, sides, twice)
