-- The square of a front that is worked on.
use Rattle.std.proofs.Common.{◌≡◌, ℕ, zero, suc, ◌+◌, ◌-◌, ◌*◌, ◌^◌, ◌<◌, ◌≤◌, ◌⊎◌, inl, inr, List, [], ◌∷◌, length, get_or, cond, nat_lt, ◌∙◌, ap, ap₂, sym, refl, arith, subst, ℤ, pos, ◌+ℤ◌, ◌-ℤ◌, ◌*ℤ◌, ◌<ℤ◌}
use Rattle.std.specs.Int.RustNames.{unsigned_abs}
use Rattle.lists.specs.Rows.{freedom_at}
use Rattle.cholesky_laws.specs.Fronts.{Front, Space, Update, lower, lower_entry, update_entry, loaded, added, assembled, IsNextChild, IsComplete}
use Rattle.cholesky_laws.specs.FrontLaws.{FrontLaws, TriangleLaws}
use Rattle.int_laws.specs.Sums.{sum_below}
use Rattle.int_laws.proofs.Sums.{int_sums}
use Rattle.dense_front.specs.Square.{AllSmall, at_square, triangle_of, by_rows, row_products}
use Rattle.dense_front.proofs.CastLemmas.{product_small}
use Rattle.dense_front.specs.Space.{space_of}
use Rattle.std.proofs.lemmas.Bool.{cases_lt, lt-ltb, le-ltb}
use Rattle.sym_blocks.specs.Matrix.{Matrix, entry}
use Rattle.cholesky_laws.specs.Recurrence.{scaled_stiffness}
use Rattle.dense_front.specs.Value.{own_columns, front_with, blank}
use Rattle.dense_front.proofs.TreeLemmas.{own-inside}

-- its entries by its square
triangle_at : TriangleLaws → (size : ℕ) (square : List ℤ) (r c : ℕ) → c ≤ r → r < size → lower_entry (triangle_of size square) r c ≡ at_square size square r c
triangle_at laws size square r c le rl = laws.inside size size (at_square size square) r c (omega arith) le rl

-- the size of a front by its later places
rows_are : (later : List ℕ) → 6 * suc (length later) ≡ 6 * length later + 6
rows_are later = omega arith

-- before a child is added, and before its own columns are eliminated, its numbers are small
pub small-before : FrontLaws → (base : List Front) (d f : ℕ) (nodes later : List ℕ) (square : List ℤ) (u : Update) → IsNextChild base d (space_of f nodes later square) u → (r c : ℕ) → c ≤ r → r < 6 * length later + 6 → unsigned_abs (at_square (6 * length later + 6) square r c) < 2 ^ 126
small-before laws base d f nodes later square u next r c le rl =
    let here = laws.sizes.before base d (space_of f nodes later square) u next r c le (omega arith) in
    let P : ℤ → Type 0 = λ z. unsigned_abs z < 2 ^ 126 - 2 ^ 114 in
    let small = subst P (triangle_at laws.triangles (6 * length later + 6) square r c le rl) here in
    omega (arith, small)

pub small-complete : FrontLaws → (base : List Front) (f : ℕ) (nodes later : List ℕ) (square : List ℤ) → IsComplete base (space_of f nodes later square) → (r c : ℕ) → c ≤ r → r < 6 * length later + 6 → unsigned_abs (at_square (6 * length later + 6) square r c) < 2 ^ 126 - 2 ^ 114
small-complete laws base f nodes later square complete r c le rl =
    let here = laws.sizes.entries base (space_of f nodes later square) complete r c le (omega arith) in
    let P : ℤ → Type 0 = λ z. unsigned_abs z < 2 ^ 126 - 2 ^ 114 in
    subst P (triangle_at laws.triangles (6 * length later + 6) square r c le rl) here

pub diagonal-complete : FrontLaws → (base : List Front) (f : ℕ) (nodes later : List ℕ) (square : List ℤ) → IsComplete base (space_of f nodes later square) → (c : ℕ) → c < 6 → at_square (6 * length later + 6) square c c <ℤ pos (2 ^ 113)
diagonal-complete laws base f nodes later square complete c cl =
    let P : ℤ → Type 0 = λ z. z <ℤ pos (2 ^ 113) in
    subst P (triangle_at laws.triangles (6 * length later + 6) square c c (omega arith) (omega arith)) (laws.sizes.diagonal base (space_of f nodes later square) complete c cl)

-- a child is added
pub added-is : TriangleLaws → (f : ℕ) (nodes later : List ℕ) (old new : List ℤ) (u : Update) →
    ((r c : ℕ) → c ≤ r → r < 6 * length later + 6 → at_square (6 * length later + 6) new r c ≡ at_square (6 * length later + 6) old r c +ℤ update_entry u (freedom_at (f ∷ later) r) (freedom_at (f ∷ later) c)) →
    space_of f nodes later new ≡ added (space_of f nodes later old) u
added-is laws f nodes later old new u adds =
    let size = 6 * length later + 6 in
    let entry : ℕ → ℕ → ℤ = λ r c. lower_entry (triangle_of size old) r c +ℤ update_entry u (freedom_at (f ∷ later) r) (freedom_at (f ∷ later) c) in
    let with_entries : List (List ℤ) → Space = λ es. record { front = f; nodes = nodes; later = later; entries = es } in
    let same : triangle_of size new ≡ lower size size entry =
    laws.same size size (at_square size new) entry (λ r c cl le rl.
    adds r c le rl ∙ ap (λ z. z +ℤ update_entry u (freedom_at (f ∷ later) r) (freedom_at (f ∷ later) c)) (sym (triangle_at laws size old r c le rl)))
    in
    ap with_entries (same ∙ ap (λ (n : ℕ). lower n n entry) (sym (rows_are later)))

-- a sum of small numbers
sum-small : (m b : ℕ) (f : ℕ → ℤ) → ((k : ℕ) → k < m → unsigned_abs (f k) ≤ b) → unsigned_abs (sum_below m f) ≤ m * b
sum-small zero b f small = omega arith
sum-small (suc m) b f small =
    let before = sum-small m b f (λ k lt. small k (omega arith)) in
    let here = small m (omega arith) in
    omega (arith, int_sums, before, here)

-- what is left past the own columns fits
pub left-fits : (size : ℕ) (old new entries : List ℤ) → length entries ≡ 6 * size → AllSmall entries → (r : ℕ) → r < size → unsigned_abs (at_square size old r r) < 2 ^ 126 - 2 ^ 114 → at_square size new r r ≡ at_square size old r r -ℤ row_products entries r r → unsigned_abs (at_square size new r r) < 2 ^ 127
left-fits size old new entries whole all r rl small taken =
    let each : (k : ℕ) → k < 6 → unsigned_abs (by_rows entries r k) < 2 ^ 57 = λ k kl. all (6 * r + k) (pos 0) (omega (arith, whole)) in
    let products : unsigned_abs (row_products entries r r) ≤ 6 * 2 ^ 114 =
    sum-small 6 (2 ^ 114) (λ k. by_rows entries r k *ℤ by_rows entries r k) (λ k kl. product_small (by_rows entries r k) (by_rows entries r k) (each k kl) (each k kl))
    in
    let fits : unsigned_abs (at_square size old r r -ℤ row_products entries r r) < 2 ^ 127 = omega (arith, int_sums, products, small) in
    subst (λ z. unsigned_abs z < 2 ^ 127) (sym taken) fits

-- ---- a front before its children
-- with zeros throughout it is blank
pub blank-is : TriangleLaws → (f : ℕ) (nodes later : List ℕ) (square : List ℤ) → ((s : ℕ) → get_or square s (pos 0) ≡ pos 0) → space_of f nodes later square ≡ blank f nodes later
blank-is laws f nodes later square blank_at =
    let size = 6 * length later + 6 in
    let with_entries : List (List ℤ) → Space = λ es. record { front = f; nodes = nodes; later = later; entries = es } in
    ap with_entries (laws.same size size (at_square size square) (λ r c. pos 0) (λ r c cl le rl. blank_at (size * c + r)) ∙ ap (λ (n : ℕ). lower n n (λ r c. pos 0)) (sym (rows_are later)))

-- with its own entries it is loaded
pub loaded-is : TriangleLaws → (k : Matrix) (shift : ℤ) (f : ℕ) (nodes later : List ℕ) (square : List ℤ) → length nodes ≡ suc (length later) →
    ((r c : ℕ) → c < 6 → r < 6 * length nodes → at_square (6 * length nodes) square r c ≡ scaled_stiffness (entry k) nodes shift r c) →
    ((r c : ℕ) → 6 ≤ c → r < 6 * length nodes → at_square (6 * length nodes) square r c ≡ pos 0) → space_of f nodes later square ≡ loaded f (front_with k shift nodes later)
loaded-is laws k shift f nodes later square count own blank_at =
    let size = 6 * length later + 6 in
    let with_entries : List (List ℤ) → Space = λ es. record { front = f; nodes = nodes; later = later; entries = es } in
    ap with_entries (laws.same size size (at_square size square) entries (λ r c cl le rl. entry_is r c rl (cases_lt c 6)) ∙ ap (λ (n : ℕ). lower n n entries) (sym (rows_are later)))
  where
    entries : ℕ → ℕ → ℤ
    entries r c = cond (nat_lt c 6) (get_or (get_or (own_columns k shift nodes) c []) r (pos 0)) (pos 0)

    size_is : 6 * length nodes ≡ 6 * length later + 6
    size_is = omega (arith, count)

    entry_is : (r c : ℕ) → r < 6 * length later + 6 → (c < 6) ⊎ (6 ≤ c) → at_square (6 * length later + 6) square r c ≡ entries r c
    entry_is r c rl (inl cl) =
        sym (ap (λ (n : ℕ). at_square n square r c) size_is) ∙ own r c cl (omega (arith, rl, count)) ∙ sym (own-inside k shift nodes c r cl (omega (arith, rl, count)))
        ∙ sym (ap (λ b. cond b (get_or (get_or (own_columns k shift nodes) c []) r (pos 0)) (pos 0)) (lt-ltb c 6 cl))
    entry_is r c rl (inr past) =
        sym (ap (λ (n : ℕ). at_square n square r c) size_is) ∙ blank_at r c past (omega (arith, rl, count))
        ∙ sym (ap (λ b. cond b (get_or (get_or (own_columns k shift nodes) c []) r (pos 0)) (pos 0)) (le-ltb c 6 past))
