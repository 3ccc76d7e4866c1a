-- The entries of a factor by rows, as its columns are read.
use Rattle.std.proofs.Common.{◌≡◌, ℕ, suc, ◌+◌, ◌<◌, inl, inr, sym, ◌∙◌, ap, arith, ℤ, pos, ◌+ℤ◌, ◌*ℤ◌, List, [], ◌∷◌, ◌++◌, length, get_or, set, length-append, get_or-set_same, get_or-set_other, slice_index, slice_index_or}
use Rattle.std.proofs.Math.Seq.{get_or-append_seam}
use Rattle.std.proofs.lemmas.List.{get_or_append_left}
use Rattle.std.proofs.lemmas.Bool.{cases_eq}
use Rattle.int_laws.specs.Sums.{sum_below}
use Rattle.int_laws.proofs.Sums.{int_sums}
use Rattle.int_laws.proofs.Products.{add-mul}
use Rattle.int_laws.proofs.SumLaws.{sum_below-same}
use Rattle.certificate.specs.declared.row_lists.RowEntry.{RowEntry}
use Rattle.int_laws.specs.Matrices.{Vector}
use Rattle.factor_data.specs.Columns.{column_part}
use Rattle.certificate.specs.RowLists.{no_entry, row_product}
use Rattle.lists.specs.Lists.{list_of}
use Rattle.certificate.proofs.ColumnLemmas.{part-here, part-elsewhere}

row_product-push : (weight : ℤ → ℤ) (list : List RowEntry) (e : RowEntry) (x : Vector) →
    row_product weight (list ++ e ∷ []) x ≡ row_product weight list x +ℤ (weight e.value *ℤ x e.column)
row_product-push weight list e x =
    let term = λ (r : RowEntry). weight r.value *ℤ x r.column in
    let longer : length (list ++ e ∷ []) ≡ suc (length list) = omega (arith, length-append list (e ∷ [])) in
    let size = ap (λ (n : ℕ). sum_below n (λ s. term (get_or (list ++ e ∷ []) s no_entry))) longer in
    let before = sum_below-same (length list) (λ s. term (get_or (list ++ e ∷ []) s no_entry)) (λ s. term (get_or list s no_entry))
    (λ s h. ap term (get_or_append_left list (e ∷ []) no_entry s h)) in
    let last = ap term (get_or-append_seam list e [] no_entry) in
    omega (arith, int_sums, size, before, last)

-- one place of a column more
pub lists-step : (weight : ℤ → ℤ) (old mid : List (List RowEntry)) (list : List RowEntry) (e : RowEntry) (column : ℕ) (rows : List ℕ) (values : List ℤ) (u at : ℕ) →
    at < length mid → list ≡ list_of mid at ++ e ∷ [] → e.column ≡ column → e.value ≡ slice_index_or values u (pos 0) → slice_index rows u ≡ at →
    (i : ℕ) (x : Vector) →
    row_product weight (list_of mid i) x ≡ row_product weight (list_of old i) x +ℤ (column_part weight u rows values i *ℤ x column) →
    row_product weight (list_of (set mid at list) i) x ≡ row_product weight (list_of old i) x +ℤ (column_part weight (u + 1) rows values i *ℤ x column)
lists-step weight old mid list e column rows values u at inside pushed is_column is_value is_row i x before =
    elim (cases_eq i at) [
      | inl same ↦
          let grown = ap (λ (z : ℤ). z *ℤ x column) (part-here weight u rows values i (is_row ∙ sym same)) in
          let read = ap (λ (r : List RowEntry). row_product weight r x) (get_or-set_same mid at list [] inside ∙ pushed) in
          let at_i = ap (λ (k : ℕ). row_product weight (list_of (set mid at list) k) x) same in
          let mid_i = ap (λ (k : ℕ). row_product weight (list_of mid k) x) same in
          let last = ap (λ (k : ℕ). weight e.value *ℤ x k) is_column ∙ ap (λ (z : ℤ). weight z *ℤ x column) is_value in
          omega (
            arith,
            int_sums,
            grown,
            read,
            at_i,
            mid_i,
            last,
            before,
            row_product-push weight (list_of mid at) e x,
            add-mul (column_part weight u rows values i) (weight (slice_index_or values u (pos 0))) (x column),
          )
      | inr ne ↦
          let kept = ap (λ (z : ℤ). z *ℤ x column) (part-elsewhere weight u rows values i (λ z. ne (sym z ∙ is_row))) in
          let read = ap (λ (r : List RowEntry). row_product weight r x) (get_or-set_other mid at i list [] ne) in
          omega (arith, int_sums, kept, read, before)
    ]
