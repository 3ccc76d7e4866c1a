-- The laws of the recurrence, for every matrix.
use Rattle.std.specs.Prelude.{◌≡◌, ℕ, suc, ◌+◌, ◌*◌, ◌/◌, ◌^◌, ◌<◌, ◌≤◌, List, Contains, Option, if◌then◌else◌, ℤ, pos, ◌+ℤ◌, ◌-ℤ◌, ◌*ℤ◌, ◌≤ℤ◌, ◌<ℤ◌}
use Rattle.std.specs.Int.RustNames.{unsigned_abs}
use Rattle.int_laws.specs.Division.{nearest_of}
use Rattle.int_laws.specs.Root.{root_of}
use Rattle.int_laws.specs.Sums.{sum_below}
use Rattle.lists.specs.Lists.{list_of}
use Rattle.elimination.specs.Elimination.{is_parent}
use Rattle.cholesky_laws.specs.Recurrence.{cholesky, left_after, pivot, scaled_stiffness}
use Rattle.cholesky_laws.specs.Breakdown.{squares}
use Rattle.cholesky_laws.specs.Fill.{IsOnPattern, IsClosed}

-- the entries of the factor, by what is left when their column comes
pub record EntryLaws : Type 0 where
  pub above : (a : ℕ → ℕ → ℤ) (i j : ℕ) → i < j → cholesky a i j ≡ pos 0
  pub diagonal : (a : ℕ → ℕ → ℤ) (j : ℕ) → pos 1 ≤ℤ pivot a j → cholesky a j j ≡ root_of (pivot a j)
  pub below : (a : ℕ → ℕ → ℤ) (i j : ℕ) → j < i → pos 1 ≤ℤ pivot a j → cholesky a i j ≡ nearest_of (left_after a j i j) (cholesky a j j)
  pub nothing_left : (a : ℕ → ℕ → ℤ) (i j : ℕ) → j < i → left_after a j i j ≡ pos 0 → cholesky a i j ≡ pos 0

-- what is left, column after column
pub record RemainderLaws : Type 0 where
  pub start : (a : ℕ → ℕ → ℤ) (i j : ℕ) → left_after a 0 i j ≡ a i j
  pub next : (a : ℕ → ℕ → ℤ) (n i j : ℕ) → left_after a (suc n) i j ≡ left_after a n i j -ℤ (cholesky a i n *ℤ cholesky a j n)

-- sizes: a pivot is at most its diagonal entry, what is left of a diagonal entry stays below it, an entry of 2^57 or more
-- leaves no pivot to its row, and where the nodes before pass, what is left fits 127 bits with its sign
pub record SizeLaws : Type 0 where
  pub falls : (a : ℕ → ℕ → ℤ) (j : ℕ) → pivot a j ≤ℤ a j j
  pub diagonal : (a : ℕ → ℕ → ℤ) (n i : ℕ) → unsigned_abs (a i i) < 2 ^ 113 → left_after a n i i <ℤ pos (2 ^ 113)
  pub large : (a : ℕ → ℕ → ℤ) (i k : ℕ) → k < i → a i i <ℤ pos (2 ^ 113) → 2 ^ 57 ≤ unsigned_abs (cholesky a i k) → pivot a i <ℤ pos 1
  pub left : (a : ℕ → ℕ → ℤ) (parents : List (Option ℕ)) (n i j : ℕ) → n ≤ 8000 → unsigned_abs (a i j) < 2 ^ 113 →
      ((m : ℕ) → m < n → squares a parents m i <ℤ pos (2 ^ 113)) → ((m : ℕ) → m < n → squares a parents m j <ℤ pos (2 ^ 113)) →
      unsigned_abs (left_after a (6 * n) i j) < 2 ^ 126
  pub stiffness : (km : ℕ → ℕ → ℤ) (order : List ℕ) (shift : ℤ) → ((i j : ℕ) → unsigned_abs (km i j) < 2 ^ 60) → pos 0 ≤ℤ shift → shift ≤ℤ pos (2 ^ 44) →
      (i j : ℕ) → unsigned_abs (scaled_stiffness km order shift i j) < 2 ^ 113

-- the squares of a row over a node's subtree: never negative, and the node's own with those of its children
pub record SubtreeLaws : Type 0 where
  pub nonnegative : (a : ℕ → ℕ → ℤ) (parents : List (Option ℕ)) (n i : ℕ) → pos 0 ≤ℤ squares a parents n i
  pub children : (a : ℕ → ℕ → ℤ) (parents : List (Option ℕ)) (n i : ℕ) →
      squares a parents n i ≡ sum_below 6 (λ c. cholesky a i (6 * n + c) *ℤ cholesky a i (6 * n + c)) +ℤ sum_below n (λ d. if is_parent parents n d then squares a parents d i else pos 0)

-- w holds what is left of `a` after m columns, in the columns m to m + 5 and the rows that f names, its own six first, on and
-- below its diagonal
pub record HoldsRemainder (a w : ℕ → ℕ → ℤ) (m rows : ℕ) (f : ℕ → ℕ) : Type 0 where
  pub whole : 6 ≤ rows
  pub left : (r c : ℕ) → r < rows → c < 6 → c ≤ r → w r c ≡ left_after a m (f r) (m + c)
  pub own : (c : ℕ) → c < 6 → f c ≡ m + c
  pub later : (r : ℕ) → 6 ≤ r → r < rows → m + 6 ≤ f r

-- the six columns of what is left are columns of the factor
pub record PanelLaws : Type 0 where
  pub entries : (a w : ℕ → ℕ → ℤ) (m rows : ℕ) (f : ℕ → ℕ) → HoldsRemainder a w m rows f → (r c : ℕ) → r < rows → c < 6 → cholesky w r c ≡ cholesky a (f r) (m + c)
  pub pivots : (a w : ℕ → ℕ → ℤ) (m rows : ℕ) (f : ℕ → ℕ) → HoldsRemainder a w m rows f → (c : ℕ) → c < 6 → pivot w c ≡ pivot a (m + c)

-- the factor of a matrix on a closed pattern, a list of later nodes for each, has entries past a node's own rows only in
-- those of the nodes that it lists
abbrev pub NoFill : Type 0
NoFill = (a : ℕ → ℕ → ℤ) (later : List (List ℕ)) (size : ℕ) → IsClosed (λ p q. Contains (list_of later p) q) size → IsOnPattern a (λ p q. Contains (list_of later p) q) size →
    (i k : ℕ) → i < 6 * size → k / 6 < i / 6 → (Contains (list_of later (k / 6)) (i / 6) → ⊥) → cholesky a i k ≡ pos 0

-- all of them
pub record RecurrenceLaws : Type 0 where
  pub entries : EntryLaws
  pub remainders : RemainderLaws
  pub sizes : SizeLaws
  pub subtrees : SubtreeLaws
  pub panels : PanelLaws
  pub fill : NoFill
