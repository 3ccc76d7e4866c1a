-- What the checker answers.
use Rattle.std.specs.Prelude.{ℕ, ◌*◌, ◌^◌, ◌<◌, ℤ, pos, ◌*ℤ◌, ◌≤ℤ◌, ◌⊎◌, length, Bool, ◌||◌, int_le, int_lt, Result, List}
use Rattle.std.specs.Int.{int_div_euclid}
use Rattle.lists.specs.Results.{unless}
use Rattle.lists.specs.Search.{any_below, first_below, least_below}
use Rattle.int_laws.specs.Sums.{sum_below}
use Rattle.sym_blocks.specs.Matrix.{Matrix as Blocks, node_count, entry as block_entry}
use Rattle.lists.specs.Rows.{position_of}
use Rattle.factor_data.specs.Columns.{factor_entry, ColumnLists}
use Rattle.certificate.specs.declared.check.Verdict.{Verdict}
use Rattle.certificate.specs.declared.check.Verdict.TheVariants.{Yes, No}
use Rattle.int_laws.specs.Matrices.{Entries, absolute}
use Rattle.bound_laws.specs.Definiteness.{CholeskyTest, row_margin, RowFails, IsDefinitenessMargin, EachIsDefiniteWith}

-- the test of a middle matrix and radii by a factor: its rows are those of the matrices, and its products have the scale 2^52
abbrev pub test_of : Blocks → Blocks → ColumnLists → ℤ → CholeskyTest
test_of middle radii factor shift =
    record {
      size = 6 * node_count middle;
      middle = block_entry middle;
      radius = block_entry radii;
      width = 6 * length factor.order;
      factor = λ i k. factor_entry factor (position_of factor.order i) k;
      shift = shift;
      scale = pos (2 ^ 52);
    }

-- the test of middles and radii by a factor that stands in an order of the nodes
abbrev pub test_by : Entries → Entries → List ℕ → Entries → ℤ → CholeskyTest
test_by middle radius order factor shift =
    record {
      size = 6 * length order;
      middle = middle;
      radius = radius;
      width = 6 * length order;
      factor = λ i k. factor (position_of order i) k;
      shift = shift;
      scale = pos (2 ^ 52);
    }

-- the sum over the columns of |g_ik g_jk|
abbrev pub product_sizes : CholeskyTest → Entries
product_sizes t i j = sum_below t.width (λ k. absolute (t.factor i k *ℤ t.factor j k))

-- row i is refused: its products with some row are too large to be summed, or it fails
abbrev pub RowIsRefused : CholeskyTest → ℕ → Type 0
RowIsRefused t i = ((j : ℕ) × (j < t.size) × (pos (2 ^ 126) ≤ℤ product_sizes t i j)) ⊎ RowFails t i

-- whether row i is refused
abbrev pub row_refused : CholeskyTest → ℕ → Bool
row_refused t i = any_below t.size (λ j. int_le (pos (2 ^ 126)) (product_sizes t i j)) || int_lt (row_margin t i) t.scale

-- the definiteness margin: the least over the rows of the whole part of row_margin / scale; or the first row that is refused
abbrev pub margin_by : CholeskyTest → Result ℤ ℕ
margin_by t = unless (first_below t.size (row_refused t)) (least_below t.size (λ i. int_div_euclid (row_margin t i) t.scale))

-- Yes: no row is refused, and lambda is the margin. No: the row is the first that is refused
abbrev pub IsVerdict : CholeskyTest → Verdict → Type 0
IsVerdict t (Yes lambda) = ((i : ℕ) → i < t.size → ¬ RowIsRefused t i) × IsDefinitenessMargin t lambda
IsVerdict t (No row) = (row < t.size) × RowIsRefused t row × ((i : ℕ) → i < row → ¬ RowIsRefused t i)

-- a Yes is a proof: lambda is positive, and every symmetric matrix within the radii is definite with it
abbrev pub Proves : CholeskyTest → Verdict → Type 0
Proves t (Yes lambda) = (pos 1 ≤ℤ lambda) × EachIsDefiniteWith t lambda
Proves t (No row) = Unit {0}
