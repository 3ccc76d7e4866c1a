-- The products of a row with all rows, entry by entry.
use Rattle.std.proofs.Common.{◌≡◌, ℕ, suc, ◌+◌, ◌*◌, ◌<◌, ◌≤◌, ◌∙◌, ap, subst, arith, add-one, ℤ, pos, ◌*ℤ◌, ◌≤ℤ◌, List, length, get_or}
use Rattle.int_laws.proofs.Sums.{int_sums}
use Rattle.int_laws.proofs.Products.{mul_nonnegative}
use Rattle.int_laws.proofs.SumLaws.{sum_below-nonnegative, sum_below-le_more}
use Rattle.factor_data.specs.Columns.{column_rows, column_values, column_entry, ColumnLists}
use Rattle.certificate.specs.declared.row_lists.RowEntry.{RowEntry}
use Rattle.flex_num.specs.declared.guarded.GuardedSum.{GuardedSum}
use Rattle.int_laws.specs.Matrices.{absolute}
use Rattle.certificate.specs.RowSums.{column_size, AddsColumn, IsSumBeyond}
use Rattle.flex_num.specs.Guarded.{value_at, size_at}
use Rattle.certificate.specs.RowLists.{no_entry, row_part, SumsRow, IsRowBeyond}
use Rattle.certificate.proofs.ColumnLemmas.{term_up}

-- the sums with one entry more, whose column was added
pub record AddsEntry (f : ColumnLists) (row : List RowEntry) (t : ℕ) (mid new : List GuardedSum) : Type 0 where
  pub value : (j : ℕ) → j < length mid → value_at mid j ≡ row_part (λ z. z) t row (λ k. column_entry (column_rows f k) (column_values f k) j) →
      value_at new j ≡ row_part (λ z. z) (t + 1) row (λ k. column_entry (column_rows f k) (column_values f k) j)
  pub size : (j : ℕ) → j < length mid → pos (size_at mid j) ≡ row_part absolute t row (λ k. column_size (column_rows f k) (column_values f k) j) →
      pos (size_at new j) ≡ row_part absolute (t + 1) row (λ k. column_size (column_rows f k) (column_values f k) j)

pub adds-entry : (f : ColumnLists) (row : List RowEntry) (t : ℕ) (mid new : List GuardedSum) (rows : List ℕ) (values : List ℤ) (factor : ℤ) →
    AddsColumn mid new rows values factor → rows ≡ column_rows f (get_or row t no_entry).column → values ≡ column_values f (get_or row t no_entry).column →
    factor ≡ (get_or row t no_entry).value → AddsEntry f row t mid new
adds-entry f row t mid new rows values factor adds is_rows is_values is_factor =
    let P : List ℕ → Type 0 = λ rs. AddsColumn mid new rs values factor in
    let Q : List ℤ → Type 0 = λ vs. AddsColumn mid new (column_rows f (get_or row t no_entry).column) vs factor in
    let R : ℤ → Type 0 = λ z. AddsColumn mid new (column_rows f (get_or row t no_entry).column) (column_values f (get_or row t no_entry).column) z in
    let added = subst R is_factor (subst Q is_values (subst P is_rows adds)) in
    record {
      value = λ j inside before. rw (add-one t) (omega (arith, int_sums, before, added.value j inside));
      size = λ j inside before. rw (add-one t) (omega (arith, int_sums, before, added.size j inside));
    }

size-up : (rows : List ℕ) (values : List ℤ) (j : ℕ) → pos 0 ≤ℤ column_size rows values j
size-up rows values j =
    sum_below-nonnegative (length rows) _ (λ v _. term_up rows values j v)

-- the sizes reach the limit with this entry
pub row-beyond : (f : ColumnLists) (row : List RowEntry) (t : ℕ) (mid : List GuardedSum) (rows : List ℕ) (values : List ℤ) (factor : ℤ) →
    IsSumBeyond mid rows values factor → rows ≡ column_rows f (get_or row t no_entry).column → values ≡ column_values f (get_or row t no_entry).column →
    factor ≡ (get_or row t no_entry).value → t < length row → length mid ≡ 6 * length f.order →
    ((j : ℕ) → j < length mid → pos (size_at mid j) ≡ row_part absolute t row (λ k. column_size (column_rows f k) (column_values f k) j)) → IsRowBeyond f row
row-beyond f row t mid rows values factor beyond is_rows is_values is_factor more positions before =
    let P : List ℕ → Type 0 = λ rs. IsSumBeyond mid rs values factor in
    let Q : List ℤ → Type 0 = λ vs. IsSumBeyond mid (column_rows f (get_or row t no_entry).column) vs factor in
    let R : ℤ → Type 0 = λ z. IsSumBeyond mid (column_rows f (get_or row t no_entry).column) (column_values f (get_or row t no_entry).column) z in
    let over = subst R is_factor (subst Q is_values (subst P is_rows beyond)) in
    let sizes = λ (k : ℕ). column_size (column_rows f k) (column_values f k) over.at in
    let whole = sum_below-le_more (suc t) (length row) (λ s. absolute (get_or row s no_entry).value *ℤ sizes (get_or row s no_entry).column) (omega arith)
    (λ s _. mul_nonnegative (absolute (get_or row s no_entry).value) (sizes (get_or row s no_entry).column) (omega (arith, int_sums)) (size-up (column_rows f (get_or row s no_entry).column) (column_values f (get_or row s no_entry).column) over.at)) in
    record {
      at = over.at;
      inside = omega (arith, over.inside, positions);
      reached = omega (arith, int_sums, whole, over.reached, before over.at over.inside);
    }

-- the whole row
pub sums-row : (f : ColumnLists) (row : List RowEntry) (t : ℕ) (sums : List GuardedSum) → t ≤ length row → length row ≤ t →
    ((j : ℕ) → j < length sums → value_at sums j ≡ row_part (λ z. z) t row (λ k. column_entry (column_rows f k) (column_values f k) j)) →
    ((j : ℕ) → j < length sums → pos (size_at sums j) ≡ row_part absolute t row (λ k. column_size (column_rows f k) (column_values f k) j)) →
    SumsRow f row sums
sums-row f row t sums below end value size =
    let whole : t ≡ length row = omega arith in
    record {
      value = λ j inside. value j inside ∙ ap (λ (n : ℕ). row_part (λ z. z) n row (λ k. column_entry (column_rows f k) (column_values f k) j)) whole;
      size = λ j inside. size j inside ∙ ap (λ (n : ℕ). row_part absolute n row (λ k. column_size (column_rows f k) (column_values f k) j)) whole;
    }
