-- Why a matrix that passes the test is definite.
use Rattle.std.proofs.Common.{◌≡◌, ℕ, zero, suc, ◌<◌, refl, ◌∙◌, ap, arith, ℤ, pos, negsuc, ◌+ℤ◌, ◌-ℤ◌, ◌*ℤ◌, ◌≤ℤ◌, ◌<ℤ◌, ◌*◌, ◌/◌, ◌≤◌}
use Rattle.std.specs.Int.{int_div_euclid}
use Rattle.std.proofs.lemmas.Int.{ints, by_lt_z}
use Rattle.int_laws.specs.Sums.{sum_below}
use Rattle.int_laws.proofs.Sums.{int_sums}
use Rattle.int_laws.proofs.Products.{mul-add, sub-mul, mul-sub, mul_comm, mul_assoc, mul_swap, square_nonnegative, mul_nonnegative, le_mul, le_of_mul}
use Rattle.int_laws.proofs.SumLaws.{sum_below-same, sum_below-le, sum_below-add, sum_below-sub, sum_below-mul}
use Rattle.int_laws.specs.Matrices.{Vector, Entries, absolute, scalar_matrix, gram, quadratic_form, squared_norm, IsSymmetric}
use Rattle.bound_laws.specs.Definiteness.{CholeskyTest, residual, row_margin, NoRowFails, IsDefinitenessMargin, SymmetricFractions, IsWithinRadii, EachIsDefiniteWith, PassedTestIsProof}
use Rattle.int_laws.proofs.FormLaws.{form-same, form-add, form-mul, form-scalar, scalar-symmetric, form-gram, gram-symmetric, row_weighted, form-symmetric}

-- what the shift and the square leave of a matrix of fractions: scale K - q scale mu I - q G G^T
abbrev rest : (t : CholeskyTest) → SymmetricFractions t.size → Entries
rest t k i j =
    (t.scale *ℤ k.numerator i j)
    -ℤ ((k.denominator *ℤ (t.scale *ℤ scalar_matrix t.shift i j)) +ℤ (k.denominator *ℤ gram t.width t.factor i j))

rest-symmetric : (t : CholeskyTest) (k : SymmetricFractions t.size) → IsSymmetric t.size (rest t k)
rest-symmetric t k i j p q =
    let entry = ap (λ (z : ℤ). t.scale *ℤ z) (k.symmetric i j p q) in
    let shifted = ap (λ (z : ℤ). k.denominator *ℤ (t.scale *ℤ z)) (scalar-symmetric t.shift i j) in
    let square = ap (λ (z : ℤ). k.denominator *ℤ z) (gram-symmetric t.width t.factor i j) in
    omega (arith, int_sums, entry, shifted, square)

-- scale x^T K x in its three parts
parts : (t : CholeskyTest) (k : SymmetricFractions t.size) (x : Vector) →
    t.scale *ℤ quadratic_form t.size k.numerator x
    ≡ ((k.denominator *ℤ (t.scale *ℤ (t.shift *ℤ squared_norm t.size x)))
    +ℤ (k.denominator *ℤ quadratic_form t.size (gram t.width t.factor) x))
    +ℤ quadratic_form t.size (rest t k) x
parts t k x =
    let shifted : Entries = λ i j. k.denominator *ℤ (t.scale *ℤ scalar_matrix t.shift i j) in
    let square : Entries = λ i j. k.denominator *ℤ gram t.width t.factor i j in
    let split = form-same t.size (λ i j. t.scale *ℤ k.numerator i j) (λ i j. (shifted i j +ℤ square i j) +ℤ rest t k i j) x
    (λ i j _ _. omega (arith, int_sums)) in
    let sums = form-add t.size (λ i j. shifted i j +ℤ square i j) (rest t k) x in
    let first = form-add t.size shifted square x in
    let whole = form-mul t.size t.scale k.numerator x in
    let shift_part = form-mul t.size k.denominator (λ i j. t.scale *ℤ scalar_matrix t.shift i j) x in
    let inner = form-mul t.size t.scale (scalar_matrix t.shift) x in
    let diagonal = form-scalar t.size t.shift x in
    let inner_at = ap (λ (z : ℤ). k.denominator *ℤ z) (inner ∙ ap (λ (z : ℤ). t.scale *ℤ z) diagonal) in
    let square_part = form-mul t.size k.denominator (gram t.width t.factor) x in
    omega (arith, int_sums, split, sums, first, whole, shift_part, inner_at, square_part)

-- the size of a sum
absolute-add : (a b : ℤ) → absolute (a +ℤ b) ≤ℤ (absolute a +ℤ absolute b)
absolute-add a b = omega (arith, int_sums)

absolute-mul : (c a : ℤ) → pos 0 ≤ℤ c → absolute (c *ℤ a) ≡ c *ℤ absolute a
absolute-mul (pos c) (pos a) h = omega (arith, ints)
absolute-mul (pos c) (negsuc a) h = omega (arith, ints)
absolute-mul (negsuc c) a h = absurd (omega (arith, int_sums))

rest-split : (s q k m d g : ℤ) →
    (s *ℤ k) -ℤ ((q *ℤ (s *ℤ d)) +ℤ (q *ℤ g)) ≡ (q *ℤ ((s *ℤ (m -ℤ d)) -ℤ g)) +ℤ (s *ℤ (k -ℤ (q *ℤ m)))
rest-split s q k m d g =
    let inner = ap (λ (z : ℤ). q *ℤ (z -ℤ g)) (mul-sub s m d) in
    omega (arith, int_sums, inner, mul-sub q ((s *ℤ m) -ℤ (s *ℤ d)) g, mul-sub q (s *ℤ m) (s *ℤ d), mul-sub s k (q *ℤ m), mul_swap s q m)

-- each entry of the rest is at most the residual's and the radius's share
rest-bounded : (t : CholeskyTest) (k : SymmetricFractions t.size) → pos 0 <ℤ t.scale → IsWithinRadii t k →
    (i j : ℕ) → i < t.size → j < t.size →
    absolute (rest t k i j) ≤ℤ (k.denominator *ℤ (absolute (residual t i j) +ℤ (t.scale *ℤ t.radius i j)))
rest-bounded t k unit near i j p q =
    let apart : ℤ = k.numerator i j -ℤ (k.denominator *ℤ t.middle i j) in
    let opened : rest t k i j ≡ (k.denominator *ℤ residual t i j) +ℤ (t.scale *ℤ apart) =
    rest-split t.scale k.denominator (k.numerator i j) (t.middle i j) (scalar_matrix t.shift i j) (gram t.width t.factor i j) in
    let sum = absolute-add (k.denominator *ℤ residual t i j) (t.scale *ℤ apart) in
    let first = absolute-mul k.denominator (residual t i j) (omega (arith, int_sums)) in
    let second = absolute-mul t.scale apart (omega (arith, int_sums)) in
    let radius = le_mul t.scale (omega (arith, int_sums)) (near i j p q) in
    let whole = ap (λ (z : ℤ). absolute z) opened in
    omega (arith, int_sums, whole, sum, first, second, radius, mul_comm t.scale (absolute apart), mul_comm (k.denominator *ℤ t.radius i j) t.scale, mul_swap t.scale k.denominator (t.radius i j), mul-add k.denominator (absolute (residual t i j)) (t.scale *ℤ t.radius i j))

-- what row i can lose to the residual and to the radii
abbrev loss : CholeskyTest → Vector
loss t i = sum_below t.size (λ j. absolute (residual t i j)) +ℤ (t.scale *ℤ sum_below t.size (λ j. t.radius i j))

row-bounded : (t : CholeskyTest) (k : SymmetricFractions t.size) → pos 0 <ℤ t.scale → IsWithinRadii t k →
    (i : ℕ) → i < t.size → sum_below t.size (λ j. absolute (rest t k i j)) ≤ℤ (k.denominator *ℤ loss t i)
row-bounded t k unit near i p =
    let entries = sum_below-le t.size (λ j. absolute (rest t k i j)) (λ j. k.denominator *ℤ (absolute (residual t i j) +ℤ (t.scale *ℤ t.radius i j)))
    (λ j q. rest-bounded t k unit near i j p q) in
    let common = sum_below-mul t.size k.denominator (λ j. absolute (residual t i j) +ℤ (t.scale *ℤ t.radius i j)) in
    let both = sum_below-add t.size (λ j. absolute (residual t i j)) (λ j. t.scale *ℤ t.radius i j)
    ∙ ap (λ (z : ℤ). sum_below t.size (λ j. absolute (residual t i j)) +ℤ z) (sum_below-mul t.size t.scale (λ j. t.radius i j)) in
    let inside = ap (λ (z : ℤ). k.denominator *ℤ z) both in
    omega (arith, int_sums, entries, common, inside)

rows-bounded : (t : CholeskyTest) (k : SymmetricFractions t.size) (x : Vector) → pos 0 <ℤ t.scale → IsWithinRadii t k →
    row_weighted t.size (rest t k) x ≤ℤ (k.denominator *ℤ sum_below t.size (λ i. loss t i *ℤ (x i *ℤ x i)))
rows-bounded t k x unit near =
    let rows = sum_below-le t.size (λ i. sum_below t.size (λ j. absolute (rest t k i j)) *ℤ (x i *ℤ x i)) (λ i. (k.denominator *ℤ loss t i) *ℤ (x i *ℤ x i))
    (λ i p. le_mul (x i *ℤ x i) (square_nonnegative (x i)) (row-bounded t k unit near i p)) in
    let factors = sum_below-same t.size (λ i. (k.denominator *ℤ loss t i) *ℤ (x i *ℤ x i)) (λ i. k.denominator *ℤ (loss t i *ℤ (x i *ℤ x i)))
    (λ i _. mul_assoc k.denominator (loss t i) (x i *ℤ x i)) in
    let common = sum_below-mul t.size k.denominator (λ i. loss t i *ℤ (x i *ℤ x i)) in
    omega (arith, int_sums, rows, factors, common)

margin-loss : (t : CholeskyTest) (i : ℕ) → row_margin t i ≡ (t.scale *ℤ t.shift) -ℤ loss t i
margin-loss t i = omega (arith, int_sums)

margins-sum : (t : CholeskyTest) (x : Vector) →
    sum_below t.size (λ i. row_margin t i *ℤ (x i *ℤ x i))
    ≡ (t.scale *ℤ (t.shift *ℤ squared_norm t.size x)) -ℤ sum_below t.size (λ i. loss t i *ℤ (x i *ℤ x i))
margins-sum t x =
    let opened = sum_below-same t.size (λ i. row_margin t i *ℤ (x i *ℤ x i)) (λ i. ((t.scale *ℤ t.shift) *ℤ (x i *ℤ x i)) -ℤ (loss t i *ℤ (x i *ℤ x i)))
    (λ i _. ap (λ (z : ℤ). z *ℤ (x i *ℤ x i)) (margin-loss t i) ∙ sub-mul (t.scale *ℤ t.shift) (loss t i) (x i *ℤ x i)) in
    let split = sum_below-sub t.size (λ i. (t.scale *ℤ t.shift) *ℤ (x i *ℤ x i)) (λ i. loss t i *ℤ (x i *ℤ x i)) in
    let common = sum_below-mul t.size (t.scale *ℤ t.shift) (λ i. x i *ℤ x i) in
    omega (arith, int_sums, opened, split, common, mul_assoc t.scale t.shift (squared_norm t.size x))

-- scale x^T K x is at least the denominator times the sum of margin_i x_i^2
weighted : (t : CholeskyTest) (k : SymmetricFractions t.size) (x : Vector) → pos 0 <ℤ t.scale → IsWithinRadii t k →
    (k.denominator *ℤ sum_below t.size (λ i. row_margin t i *ℤ (x i *ℤ x i))) ≤ℤ (t.scale *ℤ quadratic_form t.size k.numerator x)
weighted t k x unit near =
    let form = parts t k x in
    let square = mul_nonnegative k.denominator (quadratic_form t.size (gram t.width t.factor) x) (omega (arith, int_sums)) (form-gram t.size t.width t.factor x) in
    let lost = form-symmetric t.size (rest t k) x (rest-symmetric t k) in
    let rows = rows-bounded t k x unit near in
    let margins = ap (λ (z : ℤ). k.denominator *ℤ z) (margins-sum t x) in
    let apart = mul-sub k.denominator (t.scale *ℤ (t.shift *ℤ squared_norm t.size x)) (sum_below t.size (λ i. loss t i *ℤ (x i *ℤ x i))) in
    omega (arith, int_sums, form, square, lost, rows, margins, apart)

floor_bound : (s d : ℤ) → pos 0 <ℤ d → (d *ℤ int_div_euclid s d) ≤ℤ s
floor_bound s (pos zero) h = absurd (omega (arith, int_sums))
floor_bound (pos s) (pos (suc d)) h = omega (arith, ints)
floor_bound (negsuc s) (pos (suc d)) h = omega (arith, ints)
floor_bound s (negsuc d) h = absurd (omega (arith, int_sums))

quotient_positive : (s d q : ℕ) → s / suc d ≡ q → suc d ≤ s → 1 ≤ q
quotient_positive s d zero e more = let product = ap (λ (n : ℕ). suc d * n) e in absurd (omega (arith, product))
quotient_positive s d (suc q) e more = omega arith

not_less : (a b : ℤ) → ¬ (a <ℤ b) → b ≤ℤ a
not_less a b h = by_lt_z a b (λ less. absurd (h less)) (λ more. more)

floor_positive : (s d : ℤ) → pos 0 <ℤ d → d ≤ℤ s → pos 1 ≤ℤ int_div_euclid s d
floor_positive s (pos zero) h more = absurd (omega (arith, int_sums))
floor_positive (pos s) (pos (suc d)) h more = let one = quotient_positive s d _ refl (omega (arith, int_sums)) in omega (arith, int_sums, one)
floor_positive (negsuc s) (pos (suc d)) h more = absurd (omega (arith, int_sums))
floor_positive s (negsuc d) h more = absurd (omega (arith, int_sums))

margin_positive : (t : CholeskyTest) (lambda : ℤ) → pos 0 <ℤ t.scale → NoRowFails t → IsDefinitenessMargin t lambda → pos 1 ≤ℤ lambda
margin_positive t lambda unit passes margin =
    let enough : t.scale ≤ℤ row_margin t margin.reached.0 = not_less (row_margin t margin.reached.0) t.scale (passes margin.reached.0 margin.reached.1) in
    let one = floor_positive (row_margin t margin.reached.0) t.scale unit enough in
    omega (arith, int_sums, one, margin.reached.2)

margin_holds : (t : CholeskyTest) (lambda : ℤ) → pos 0 <ℤ t.scale → IsDefinitenessMargin t lambda → EachIsDefiniteWith t lambda
margin_holds t lambda unit margin k near x =
    let scaled : ℤ = t.scale *ℤ lambda in
    let row : (i : ℕ) → i < t.size → (t.scale *ℤ lambda) ≤ℤ row_margin t i =
    λ i p.
    let times = le_mul t.scale (omega (arith, int_sums)) (margin.least i p) in
    let floor = floor_bound (row_margin t i) t.scale unit in
    omega (arith, int_sums, times, floor, mul_comm t.scale lambda, mul_comm t.scale (int_div_euclid (row_margin t i) t.scale)) in
    let rows = sum_below-le t.size (λ i. (t.scale *ℤ lambda) *ℤ (x i *ℤ x i)) (λ i. row_margin t i *ℤ (x i *ℤ x i))
    (λ i p. le_mul (x i *ℤ x i) (square_nonnegative (x i)) (row i p)) in
    let common = sum_below-mul t.size (t.scale *ℤ lambda) (λ i. x i *ℤ x i) in
    let norm : ℤ = squared_norm t.size x in
    let sum : ℤ = sum_below t.size (λ i. row_margin t i *ℤ (x i *ℤ x i)) in
    let below : ((t.scale *ℤ lambda) *ℤ squared_norm t.size x) ≤ℤ sum_below t.size (λ i. row_margin t i *ℤ (x i *ℤ x i)) = omega (arith, int_sums, rows, common) in
    let fractions = le_mul k.denominator (omega (arith, int_sums)) below in
    let whole = weighted t k x unit near in
    le_of_mul t.scale (k.denominator *ℤ (lambda *ℤ squared_norm t.size x)) (quadratic_form t.size k.numerator x) unit
    (omega (
      arith,
      int_sums,
      fractions,
      whole,
      mul_comm k.denominator (sum_below t.size (λ i. row_margin t i *ℤ (x i *ℤ x i))),
      mul_comm t.scale (quadratic_form t.size k.numerator x),
      mul_comm (k.denominator *ℤ (lambda *ℤ squared_norm t.size x)) t.scale,
      mul_swap t.scale k.denominator (lambda *ℤ squared_norm t.size x),
      ap (λ (z : ℤ). k.denominator *ℤ z) (mul_assoc t.scale lambda (squared_norm t.size x)),
      mul_comm k.denominator ((t.scale *ℤ lambda) *ℤ squared_norm t.size x),
    ))

pub passed_test : PassedTestIsProof
passed_test t lambda unit passes margin =
    (margin_positive t lambda unit passes margin, λ k near x. margin_holds t lambda unit margin k near x)
