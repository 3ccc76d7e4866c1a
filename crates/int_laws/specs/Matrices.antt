-- Matrices and vectors of whole numbers of any size, as functions of their indices: the rows and columns of a
-- matrix of size n are the indices below n, and what stands elsewhere is never read.
use Rattle.std.specs.Prelude.{ℕ, ℤ, pos, ◌*ℤ◌, ◌≡◌, ◌<◌, nat_eq, if◌then◌else◌, unsigned_abs}
use Rattle.int_laws.specs.Sums.{sum_below}

abbrev pub Vector : Type 0
Vector = ℕ → ℤ

-- the entry in row i and column j of m is `m i j`
abbrev pub Entries : Type 0
Entries = ℕ → ℕ → ℤ

-- |z|
abbrev pub absolute : ℤ → ℤ
absolute z = pos (unsigned_abs z)

-- c I
abbrev pub scalar_matrix : ℤ → Entries
scalar_matrix c i j = if nat_eq i j then c else pos 0

-- (G G^T)_ij, of a G with so many columns
abbrev pub gram : ℕ → Entries → Entries
gram width g i j = sum_below width (λ k. g i k *ℤ g j k)

-- x^T M x
abbrev pub quadratic_form : ℕ → Entries → Vector → ℤ
quadratic_form n m x = sum_below n (λ i. sum_below n (λ j. m i j *ℤ (x i *ℤ x j)))

-- |x|^2
abbrev pub squared_norm : ℕ → Vector → ℤ
squared_norm n x = sum_below n (λ i. x i *ℤ x i)

-- M is its own transpose
abbrev pub IsSymmetric : ℕ → Entries → Type 0
IsSymmetric n m = (i j : ℕ) → i < n → j < n → m i j ≡ m j i
