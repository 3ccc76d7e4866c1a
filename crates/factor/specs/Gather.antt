-- What earlier columns give to a node's rows.
use Rattle.std.specs.Prelude.{◌≡◌, ℕ, ◌+◌, ◌*◌, ◌/◌, ◌%◌, ◌<◌, ◌≤◌, List, slice_index_or, ◌⊎◌, ℤ, pos, ◌+ℤ◌, ◌*ℤ◌, neg_ℤ}
use Rattle.int_laws.specs.Sums.{sum_below}
use Rattle.factor.specs.Panel.{kept_for}

-- the products of row t / 6 of the block at one place and row t % 6 of that at another, over six columns
abbrev pub products_at : List ℤ → ℕ → ℕ → ℕ → ℤ
products_at entries row column t =
    sum_below 6 (λ c. slice_index_or entries (36 * row + (6 * (t / 6) + c)) (pos 0) *ℤ slice_index_or entries (36 * column + (6 * (t % 6) + c)) (pos 0))

-- the same, to be taken off
abbrev pub entry_products : List ℤ → ℕ → ℕ → ℕ → ℤ
entry_products entries row column t = neg_ℤ (products_at entries row column t)

-- the products of an earlier node's rows for q with its rows for `node`
abbrev pub block_product : List ℕ → List ℤ → ℕ → ℕ → ℕ → ℤ
block_product reached entries node q t =
    sum_below 6 (λ c. kept_for 36 reached entries q (6 * (t / 6) + c) *ℤ kept_for 36 reached entries node (6 * (t % 6) + c))

-- the block of so many numbers at a place is raised, and every other number stays
pub record UpdatesBlock (width : ℕ) (old new : List ℤ) (place : ℕ) (by : ℕ → ℤ) : Type 0 where
  pub raised : (t : ℕ) → t < width → slice_index_or new (width * place + t) (pos 0) ≡ slice_index_or old (width * place + t) (pos 0) +ℤ by t
  pub others : (s : ℕ) → (s < width * place) ⊎ (width * place + width ≤ s) → slice_index_or new s (pos 0) ≡ slice_index_or old s (pos 0)
