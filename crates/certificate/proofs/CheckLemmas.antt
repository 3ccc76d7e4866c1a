-- From the sums of the code to the test.
use Rattle.std.proofs.Common.{slice_index_or, ◌≡◌, ℕ, ◌+◌, ◌*◌, ◌/◌, ◌^◌, ◌<◌, ◌≤◌, ◌⊎◌, inl, inr, sym, ◌∙◌, ap, subst, arith, ℤ, pos, ◌-ℤ◌, ◌*ℤ◌, ◌≤ℤ◌, ◌<ℤ◌, List, length, get_or, min}
use Rattle.std.proofs.lemmas.Int.{ints}
use Rattle.std.proofs.lemmas.List.{get_or_default}
use Rattle.std.specs.Prelude.{MatchOption, Option, Some, None}
use Rattle.std.specs.Int.{int_div_euclid}
use borrow.Author.Count.{below_more}
use Rattle.std.proofs.lemmas.Bool.{cases_eq, cases_lt}
use Rattle.certificate.specs.declared.check.Verdict.{Verdict}
use Rattle.certificate.specs.declared.check.Verdict.TheVariants.{Yes, No}
use Rattle.int_laws.specs.Sums.{sum_below}
use Rattle.int_laws.proofs.Sums.{int_sums}
use Rattle.int_laws.proofs.SumLaws.{sum_below-same, sum_below-nonnegative}
use Rattle.sym_blocks.specs.Matrix.{Matrix as Blocks, node_count, entry as block_entry}
use Rattle.lists.specs.Rows.{position_of, freedom_at}
use Rattle.factor_data.specs.Columns.{column_rows, column_values, column_entry, factor_entry, IsFactor, ColumnLists}
use Rattle.lists.proofs.RowLemmas.{position-below, row-below, position-of_row}
use Rattle.lists.proofs.PlaceLemmas.{spread-rising}
use Rattle.lists.proofs.UniqueLemmas.{decide_contains}
use Rattle.lists.proofs.PatternLemmas.{sum-listed, sum-unlisted}
use Rattle.certificate.specs.declared.row_lists.RowEntry.{RowEntry}
use Rattle.flex_num.specs.declared.guarded.GuardedSum.{GuardedSum}
use Rattle.int_laws.specs.Matrices.{absolute, scalar_matrix}
use Rattle.bound_laws.specs.Definiteness.{CholeskyTest, residual, row_margin, RowFails, PassedTestIsProof}
use Rattle.lists.specs.Order.{places_of}
use Rattle.certificate.specs.RowSums.{column_size}
use Rattle.flex_num.specs.Guarded.{zero_sum}
use Rattle.certificate.specs.RowLists.{row_product, ListsRow, SumsRow, IsRowBeyond}
use Rattle.lists.specs.Lists.{list_of}
use Rattle.certificate.specs.Space.{CheckLists, AreListsOf}
use Rattle.certificate.specs.RowResidual.{missed, HasResidual, IsRowLost}
use Rattle.certificate.specs.Checker.{test_of, product_sizes, RowIsRefused, IsVerdict, Proves}
use Rattle.certificate.proofs.ColumnLemmas.{absolute-mul}
use Rattle.certificate.proofs.PlaceLemmas.{position-read}

-- the size of a column's entry
column-size : (f : ColumnLists) (k i : ℕ) → IsFactor f → column_size (column_rows f k) (column_values f k) i ≡ absolute (factor_entry f i k)
column-size f k i kept =
    let rows = column_rows f k in
    let spread = spread-rising (column_rows f k) _ (kept.rising k) (λ j h. kept.in_range j k h) in
    elim (decide_contains (column_rows f k) i) [
      | inl found ↦
          let at = get_or_default (column_rows f k) found.0 0 i found.1 ∙ found.2 in
          sum-listed (column_rows f k) (λ u. absolute (slice_index_or (column_values f k) u (pos 0))) _ found.0 i spread found.1 at
          ∙ sym (ap absolute (sum-listed (column_rows f k) (λ u. slice_index_or (column_values f k) u (pos 0)) _ found.0 i spread found.1 at))
      | inr none ↦
          sum-unlisted (column_rows f k) (λ u. absolute (slice_index_or (column_values f k) u (pos 0))) i none
          ∙ sym (ap absolute (sum-unlisted (column_rows f k) (λ u. slice_index_or (column_values f k) u (pos 0)) i none))
    ]

-- the products of the row at position p with that at position j, in value and in size
products : (f : ColumnLists) (list : List RowEntry) (p j : ℕ) → ListsRow f p list →
    row_product (λ z. z) list (λ k. column_entry (column_rows f k) (column_values f k) j) ≡ sum_below (6 * length f.order) (λ k. factor_entry f p k *ℤ factor_entry f j k)
products f list p j lists = lists.value (λ k. column_entry (column_rows f k) (column_values f k) j)

sizes : (f : ColumnLists) (list : List RowEntry) (p j : ℕ) → IsFactor f → ListsRow f p list →
    row_product absolute list (λ k. column_size (column_rows f k) (column_values f k) j) ≡ sum_below (6 * length f.order) (λ k. absolute (factor_entry f p k *ℤ factor_entry f j k))
sizes f list p j kept lists =
    lists.size (λ k. column_size (column_rows f k) (column_values f k) j)
    ∙ sum_below-same (6 * length f.order) (λ k. column_size (column_rows f k) (column_values f k) p *ℤ column_size (column_rows f k) (column_values f k) j)
    (λ k. absolute (factor_entry f p k *ℤ factor_entry f j k))
    (λ k _. ap (λ (z : ℤ). z *ℤ column_size (column_rows f k) (column_values f k) j) (column-size f k p kept)
    ∙ ap (λ (z : ℤ). absolute (factor_entry f p k) *ℤ z) (column-size f k j kept)
    ∙ sym (absolute-mul (factor_entry f p k) (factor_entry f j k)))

-- what the sums miss is the residual
missed-residual : (middle radii : Blocks) (f : ColumnLists) (shift : ℤ) (places : List ℕ) (list : List RowEntry) (sums : List GuardedSum) (row c : ℕ) → IsFactor f →
    length f.order ≡ node_count middle → places ≡ places_of f.order → ListsRow f (position_of f.order row) list → length sums ≡ 6 * length f.order → SumsRow f list sums →
    c < 6 * node_count middle → missed middle shift places sums row c ≡ residual (test_of middle radii f shift) row c
missed-residual middle radii f shift places list sums row c kept same placed lists positions summed inside =
    let at = position-read f.order places c placed (omega (arith, same)) in
    let below : freedom_at places c < length sums = omega (arith, at, positions, position-below f.order c kept.order (omega (arith, same))) in
    let value = summed.value (freedom_at places c) below ∙ products f list (position_of f.order row) (freedom_at places c) lists in
    let there = ap (λ (j : ℕ). sum_below (6 * length f.order) (λ k. factor_entry f (position_of f.order row) k *ℤ factor_entry f j k)) at in
    ap (λ (z : ℤ). (pos (2 ^ 52) *ℤ (block_entry middle row c -ℤ scalar_matrix shift row c)) -ℤ z) (value ∙ there)

residual-total : (middle radii : Blocks) (f : ColumnLists) (shift : ℤ) (places : List ℕ) (list : List RowEntry) (row : ℕ) (r : ℤ) → IsFactor f →
    length f.order ≡ node_count middle → places ≡ places_of f.order → ListsRow f (position_of f.order row) list → HasResidual f list middle shift places row r →
    r ≡ sum_below (6 * node_count middle) (λ j. absolute (residual (test_of middle radii f shift) row j))
residual-total middle radii f shift places list row r kept same placed lists has =
    sym has.total
    ∙ sum_below-same (6 * node_count middle) (λ j. absolute (missed middle shift places has.sums row j)) (λ j. absolute (residual (test_of middle radii f shift) row j))
    (λ c inside. ap absolute (missed-residual middle radii f shift places list has.sums row c kept same placed lists has.positions has.summed inside))

-- a row that can't be summed is refused
beyond-refused : (middle radii : Blocks) (f : ColumnLists) (shift : ℤ) (list : List RowEntry) (row : ℕ) → IsFactor f → length f.order ≡ node_count middle →
    ListsRow f (position_of f.order row) list → IsRowBeyond f list → RowIsRefused (test_of middle radii f shift) row
beyond-refused middle radii f shift list row kept same lists beyond =
    let c = freedom_at f.order beyond.at in
    let at = position-of_row f.order beyond.at kept.order beyond.inside in
    let there = ap (λ (j : ℕ). sum_below (6 * length f.order) (λ k. absolute (factor_entry f (position_of f.order row) k *ℤ factor_entry f j k))) at in
    inl (
      freedom_at f.order beyond.at,
      omega (arith, row-below f.order beyond.at kept.order beyond.inside, same),
      omega (arith, int_sums, beyond.reached, sizes f list (position_of f.order row) beyond.at kept lists, there),
    )

-- and one that is summed is not too large
summed-small : (middle radii : Blocks) (f : ColumnLists) (shift : ℤ) (list : List RowEntry) (sums : List GuardedSum) (row j : ℕ) → IsFactor f → length f.order ≡ node_count middle →
    ListsRow f (position_of f.order row) list → length sums ≡ 6 * length f.order → SumsRow f list sums → j < 6 * node_count middle →
    product_sizes (test_of middle radii f shift) row j <ℤ pos (2 ^ 126)
summed-small middle radii f shift list sums row j kept same lists positions summed inside =
    let at = position_of f.order j in
    let below : position_of f.order j < length sums = omega (arith, positions, position-below f.order j kept.order (omega (arith, same))) in
    let size = summed.size (position_of f.order j) below ∙ sizes f list (position_of f.order row) (position_of f.order j) kept lists in
    omega (arith, int_sums, size, (get_or sums (position_of f.order j) zero_sum).narrow)

radius-up : (radii : Blocks) (n row : ℕ) → ((i j : ℕ) → pos 0 ≤ℤ block_entry radii i j) → pos 0 ≤ℤ sum_below n (λ j. block_entry radii row j)
radius-up radii n row up = sum_below-nonnegative n (λ j. block_entry radii row j) (λ j _. up row j)

-- a row that misses the limit fails
lost-fails : (middle radii : Blocks) (f : ColumnLists) (shift row : ℕ) (r : ℤ) → ((i j : ℕ) → pos 0 ≤ℤ block_entry radii i j) → shift ≤ 2 ^ 44 →
    r ≡ sum_below (6 * node_count middle) (λ j. absolute (residual (test_of middle radii f (pos shift)) row j)) → pos (2 ^ 126) ≤ℤ r → RowFails (test_of middle radii f (pos shift)) row
lost-fails middle radii f shift row r up small sum lost =
    let radius = radius-up radii (6 * node_count middle) row up in
    omega (arith, ints, sum, lost, small, radius)

-- ---- the answers of the code
pub lost-refused : (middle radii : Blocks) (f : ColumnLists) (shift : ℕ) (places : List ℕ) (list : List RowEntry) (row : ℕ) → IsFactor f →
    length f.order ≡ node_count middle → places ≡ places_of f.order → ListsRow f (position_of f.order row) list → ((i j : ℕ) → pos 0 ≤ℤ block_entry radii i j) → shift ≤ 2 ^ 44 →
    IsRowLost f list middle (pos shift) places row → RowIsRefused (test_of middle radii f (pos shift)) row
lost-refused middle radii f shift places list row kept same placed lists up small (inl beyond) =
    beyond-refused middle radii f (pos shift) list row kept same lists beyond
lost-refused middle radii f shift places list row kept same placed lists up small (inr (r, has, lost)) =
    inr (lost-fails middle radii f shift row r up small (residual-total middle radii f (pos shift) places list row r kept same placed lists has) lost)

margin-is : (middle radii : Blocks) (f : ColumnLists) (shift : ℕ) (places : List ℕ) (list : List RowEntry) (row r radius : ℕ) → IsFactor f →
    length f.order ≡ node_count middle → places ≡ places_of f.order → ListsRow f (position_of f.order row) list → HasResidual f list middle (pos shift) places row (pos r) →
    pos radius ≡ sum_below (6 * node_count middle) (λ j. block_entry radii row j) →
    ((pos (2 ^ 52) *ℤ pos shift) -ℤ pos r) -ℤ (pos (2 ^ 52) *ℤ pos radius) ≡ row_margin (test_of middle radii f (pos shift)) row
margin-is middle radii f shift places list row r radius kept same placed lists has is_radius =
    ap (λ (z : ℤ). ((pos (2 ^ 52) *ℤ pos shift) -ℤ z) -ℤ (pos (2 ^ 52) *ℤ pos radius)) (residual-total middle radii f (pos shift) places list row (pos r) kept same placed lists has)
    ∙ ap (λ (z : ℤ). ((pos (2 ^ 52) *ℤ pos shift) -ℤ sum_below (6 * node_count middle) (λ j. absolute (residual (test_of middle radii f (pos shift)) row j))) -ℤ (pos (2 ^ 52) *ℤ z)) is_radius

not_refused : (middle radii : Blocks) (f : ColumnLists) (shift : ℕ) (list : List RowEntry) (row m : ℕ) → IsFactor f → length f.order ≡ node_count middle →
    ListsRow f (position_of f.order row) list → (sums : List GuardedSum) → length sums ≡ 6 * length f.order → SumsRow f list sums →
    pos m ≡ row_margin (test_of middle radii f (pos shift)) row → 2 ^ 52 ≤ m → RowIsRefused (test_of middle radii f (pos shift)) row → ⊥
not_refused middle radii f shift list row m kept same lists sums positions summed margin enough (inl (j, inside, large)) =
    let small = summed-small middle radii f (pos shift) list sums row j kept same lists positions summed inside in
    omega (arith, int_sums, small, large)
not_refused middle radii f shift list row m kept same lists sums positions summed margin enough (inr fails) =
    let P : ℤ → Type 0 = λ z. z <ℤ pos (2 ^ 52) in
    let less = subst P (sym margin) fails in
    omega (arith, int_sums, less, enough)

-- what the margin of a row says of it
abbrev pub JudgesRow : CholeskyTest → ℕ → Option ℕ → Type 0
JudgesRow t row answer = MatchOption answer (RowIsRefused t row) (λ m. ((RowIsRefused t row → ⊥) × (pos m ≡ row_margin t row)) × (2 ^ 52 ≤ m))

pub margin-judges : (middle radii : Blocks) (f : ColumnLists) (shift : ℕ) (places : List ℕ) (list : List RowEntry) (row r radius : ℕ) (answer : Option ℕ) → IsFactor f →
    length f.order ≡ node_count middle → places ≡ places_of f.order → ListsRow f (position_of f.order row) list → HasResidual f list middle (pos shift) places row (pos r) →
    pos radius ≡ sum_below (6 * node_count middle) (λ j. block_entry radii row j) →
    MatchOption answer ((((pos (2 ^ 52) *ℤ pos shift) -ℤ pos r) -ℤ (pos (2 ^ 52) *ℤ pos radius)) <ℤ pos (2 ^ 52))
    (λ m. (pos m ≡ ((pos (2 ^ 52) *ℤ pos shift) -ℤ pos r) -ℤ (pos (2 ^ 52) *ℤ pos radius)) × (2 ^ 52 ≤ m)) →
    JudgesRow (test_of middle radii f (pos shift)) row answer
margin-judges middle radii f shift places list row r radius None kept same placed lists has is_radius fails =
    let margin = margin-is middle radii f shift places list row r radius kept same placed lists has is_radius in
    let P : ℤ → Type 0 = λ z. z <ℤ pos (2 ^ 52) in
    inr (subst P margin fails)
margin-judges middle radii f shift places list row r radius (Some m) kept same placed lists has is_radius (is, enough) =
    let margin = is ∙ margin-is middle radii f shift places list row r radius kept same placed lists has is_radius in
    ((not_refused middle radii f shift list row m kept same lists has.sums has.positions has.summed margin enough, margin), enough)

-- the entries of a row are those listed at its position
pub row-listed : (f : ColumnLists) (lists : CheckLists) (row position : ℕ) (entries : List RowEntry) → IsFactor f → AreListsOf f lists → row < 6 * length f.order →
    position ≡ freedom_at (places_of lists.order) row → entries ≡ list_of lists.rows position → ListsRow f (position_of f.order row) entries
row-listed f lists row position entries kept listed inside is_position is_entries =
    let at = is_position ∙ position-read f.order (places_of lists.order) row (ap places_of listed.order_is) inside in
    let P : List RowEntry → Type 0 = λ xs. ListsRow f (position_of f.order row) xs in
    let there = ap (list_of lists.rows) at in
    subst P (sym (is_entries ∙ there)) (listed.rows (position_of f.order row) (position-below f.order row kept.order inside))

pub position-inside : (f : ColumnLists) (lists : CheckLists) (row position : ℕ) → IsFactor f → AreListsOf f lists → row < 6 * length f.order →
    position ≡ freedom_at (places_of lists.order) row → position < length lists.rows
position-inside f lists row position kept listed inside is_position =
    omega (arith, is_position, position-read f.order (places_of lists.order) row (ap places_of listed.order_is) inside, position-below f.order row kept.order inside, listed.length_same)

-- ---- all rows
-- the first n rows pass, and lambda is the least of their whole margins
pub record PassBelow (t : CholeskyTest) (n lambda : ℕ) : Type 0 where
  pub passed : (i : ℕ) → i < n → RowIsRefused t i → ⊥
  pub least : (i : ℕ) → i < n → pos lambda ≤ℤ int_div_euclid (row_margin t i) t.scale
  pub reached : ((n ≡ 0) × (2 ^ 127 ≤ lambda)) ⊎ ((lambda < 2 ^ 127) × ((i : ℕ) × (i < n) × (int_div_euclid (row_margin t i) t.scale ≡ pos lambda)))

pub pass-more : (t : CholeskyTest) (n lambda m : ℕ) → t.scale ≡ pos (2 ^ 52) → PassBelow t n lambda → (RowIsRefused t n → ⊥) → pos m ≡ row_margin t n → m < 2 ^ 128 →
    PassBelow t (n + 1) (min lambda (m / 2 ^ 52))
pass-more t n lambda m scale before passes margin small =
    let floor : int_div_euclid (row_margin t n) t.scale ≡ pos (m / 2 ^ 52) = ap (λ (z : ℤ). int_div_euclid z t.scale) (sym margin) ∙ ap (int_div_euclid (pos m)) scale in
    record {
      passed = below_more _ n before.passed passes;
      least = λ i h. elim (cases_eq i n) [
        | inl e ↦ let same = ap (λ (k : ℕ). int_div_euclid (row_margin t k) t.scale) e in omega (arith, ints, same, floor)
        | inr ne ↦ let less = before.least i (omega arith) in omega (arith, ints, less)
      ];
      reached = elim (cases_lt lambda (m / 2 ^ 52)) [
        | inl lt ↦
            let same : min lambda (m / 2 ^ 52) ≡ lambda = omega arith in
            elim before.reached [
              | inl none ↦ absurd (omega (arith, none.1))
              | inr kept ↦ inr (omega (arith, kept.0), (kept.1.0, omega (arith, kept.1.1), kept.1.2 ∙ ap pos (sym same)))
            ]
        | inr ge ↦
            let same : min lambda (m / 2 ^ 52) ≡ m / 2 ^ 52 = omega arith in
            inr (omega arith, (n, omega arith, floor ∙ ap pos (sym same)))
      ];
    }

pub pass-all : (t : CholeskyTest) (lambda : ℕ) → 0 < t.size → PassBelow t t.size lambda → (lambda < 2 ^ 127) × IsVerdict t (Yes (pos lambda))
pass-all t lambda some passes =
    elim passes.reached [
      | inl none ↦ absurd (omega (arith, none.0))
      | inr kept ↦ (kept.0, (passes.passed, record { least = passes.least; reached = kept.1 }))
    ]

-- a verdict is a proof, by the law of the test
pub verdict-proves : PassedTestIsProof → (t : CholeskyTest) (verdict : Verdict) → pos 0 <ℤ t.scale → IsVerdict t verdict → Proves t verdict
verdict-proves passed_test t (Yes lambda) unit (passed, margin) = passed_test t lambda unit (λ i h fails. passed i h (inr fails)) margin
verdict-proves passed_test t (No row) unit is = tt
