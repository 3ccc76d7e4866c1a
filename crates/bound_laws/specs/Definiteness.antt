-- The verified Cholesky test of an interval matrix, as in S. M. Rump, "Verification of positive definiteness"
-- (BIT Numerical Mathematics 46, 2006): shift the middle matrix down the diagonal, take an approximate factor G of
-- what is left, and compare the residual and the radii, row by row, with the shift. There the residual is bounded
-- by a model of the rounding errors of a factorisation that ran to its end; here everything is a whole number, the
-- residual is computed as it is, and nothing is asked of G: an arbitrary G can make the test fail, and no more.
use Rattle.std.specs.Prelude.{ℕ, ℤ, pos, ◌-ℤ◌, ◌*ℤ◌, ◌≤ℤ◌, ◌<ℤ◌, ◌≡◌, ◌<◌}
use Rattle.std.specs.Int.{int_div_euclid}
use Rattle.int_laws.specs.Sums.{sum_below}
use Rattle.int_laws.specs.Matrices.{Vector, Entries, absolute, scalar_matrix, gram, quadratic_form, squared_norm, IsSymmetric}

-- what the test is of; all matrices have `size` rows, and the factor `width` columns
pub record CholeskyTest : Type 0 where
  -- the interval matrix: the middle and the radius of each entry
  pub size : ℕ
  pub middle : Entries
  pub radius : Entries
  -- G G^T is to be about `scale` times the middle matrix less `shift` on its diagonal
  pub width : ℕ
  pub factor : Entries
  pub shift : ℤ
  pub scale : ℤ

-- scale (Km - mu I) - G G^T
abbrev pub residual : CholeskyTest → Entries
residual t i j = (t.scale *ℤ (t.middle i j -ℤ scalar_matrix t.shift i j)) -ℤ gram t.width t.factor i j

-- by how much `scale` times the shift exceeds all that row i can lose to the residual and to the radii
abbrev pub row_margin : CholeskyTest → ℕ → ℤ
row_margin t i =
    ((t.scale *ℤ t.shift) -ℤ sum_below t.size (λ j. absolute (residual t i j)))
    -ℤ (t.scale *ℤ sum_below t.size (λ j. t.radius i j))

-- row i doesn't leave a margin of 1
abbrev pub RowFails : CholeskyTest → ℕ → Type 0
RowFails t i = row_margin t i <ℤ t.scale

abbrev pub NoRowFails : CholeskyTest → Type 0
NoRowFails t = (i : ℕ) → i < t.size → ¬ RowFails t i

-- lambda is the least over the rows of the whole part of row_margin / scale
pub record IsDefinitenessMargin (t : CholeskyTest) (lambda : ℤ) : Type 0 where
  pub least : (i : ℕ) → i < t.size → lambda ≤ℤ int_div_euclid (row_margin t i) t.scale
  pub reached : (i : ℕ) × (i < t.size) × (int_div_euclid (row_margin t i) t.scale ≡ lambda)

-- a symmetric matrix of fractions, `numerator i j / denominator`
pub record SymmetricFractions (size : ℕ) : Type 0 where
  pub numerator : Entries
  pub denominator : ℤ
  pub positive : pos 0 <ℤ denominator
  pub symmetric : IsSymmetric size numerator

-- each entry of K is within its radius of its middle: |K_ij - Km_ij| ≤ Rd_ij, times the denominator
abbrev pub IsWithinRadii : (t : CholeskyTest) → SymmetricFractions t.size → Type 0
IsWithinRadii t k = (i j : ℕ) → i < t.size → j < t.size →
    absolute (k.numerator i j -ℤ (k.denominator *ℤ t.middle i j)) ≤ℤ (k.denominator *ℤ t.radius i j)

-- x^T K x ≥ lambda |x|^2 for each x of whole numbers, times the denominator
abbrev pub IsDefiniteWith : (size : ℕ) → ℤ → SymmetricFractions size → Type 0
IsDefiniteWith size lambda k = (x : Vector) →
    (k.denominator *ℤ (lambda *ℤ squared_norm size x)) ≤ℤ quadratic_form size k.numerator x

-- each symmetric matrix within the radii is positive definite, its least eigenvalue lambda or more
abbrev pub EachIsDefiniteWith : CholeskyTest → ℤ → Type 0
EachIsDefiniteWith t lambda = (k : SymmetricFractions t.size) → IsWithinRadii t k → IsDefiniteWith t.size lambda k

-- the law of the test: where no row fails, the margin is a positive lower bound of all eigenvalues
abbrev pub PassedTestIsProof : Type 0
PassedTestIsProof = (t : CholeskyTest) (lambda : ℤ) → pos 0 <ℤ t.scale → NoRowFails t → IsDefinitenessMargin t lambda →
    (pos 1 ≤ℤ lambda) × EachIsDefiniteWith t lambda
