-- Sizes in the recurrence: where the nodes before pass, no number that decides leaves 128 bits.
use Rattle.std.proofs.Common.{◌≡◌, ℕ, zero, suc, ◌+◌, ◌*◌, ◌^◌, ◌<◌, ◌≤◌, Bool, true, false, List, Option, ◌∙◌, ap, arith, mul-le-mul_right, cond, eqb, inl, inr, ℤ, pos, ◌+ℤ◌, ◌-ℤ◌, ◌*ℤ◌, ◌≤ℤ◌, ◌<ℤ◌, neg_ℤ, unsigned_abs}
use Rattle.std.proofs.lemmas.Int.{unsigned_abs-mul}
use Rattle.int_laws.proofs.Sums.{int_sums}
use Rattle.int_laws.proofs.Products.{mul_comm, add-mul, mul-add, sub-mul, mul-sub, square_nonnegative, square_large}
use Rattle.int_laws.specs.Division.{nearest_of}
use Rattle.int_laws.proofs.DivisionLemmas.{nearest_of-zero}
use Rattle.int_laws.proofs.RootLemmas.{root_of-is}
use Rattle.int_laws.specs.Sums.{sum_below}
use Rattle.cholesky_laws.specs.Recurrence.{cholesky, left_after, pivot, scaled_stiffness}
use Rattle.lists.specs.Rows.{freedom_at}
use Rattle.cholesky_laws.proofs.RecurrenceLemmas.{cases_pivot, cholesky-broken, cholesky-diagonal, cholesky-below}
use Rattle.elimination.specs.Elimination.{parent_of, is_in_subtree}
use Rattle.cholesky_laws.specs.Breakdown.{squares}
use Rattle.int_laws.proofs.SumLaws.{sum_below-nonnegative, sum_below-by_six, sum_below-at_most, sum_below-term}
use Rattle.cholesky_laws.proofs.SubtreeLemmas.{picked, names, node_squares, squares-children, squares-subtree_sum}

-- twice a product is at most the sum of the squares, either way
pub product_within : (x y : ℤ) → ((x *ℤ y +ℤ x *ℤ y) ≤ℤ (x *ℤ x +ℤ y *ℤ y)) × (neg_ℤ (x *ℤ x +ℤ y *ℤ y) ≤ℤ (x *ℤ y +ℤ x *ℤ y))
product_within x y =
    let apart = square_nonnegative (x -ℤ y) in
    let together = square_nonnegative (x +ℤ y) in
    let e1 = sub-mul x y (x -ℤ y) in
    let e2 = mul-sub x x y in
    let e3 = mul-sub y x y in
    let f1 = add-mul x y (x +ℤ y) in
    let f2 = mul-add x x y in
    let f3 = mul-add y x y in
    let c = mul_comm y x in
    (omega (arith, int_sums), omega (arith, int_sums))

-- the sum of the squares of a row's entries in the first n columns
abbrev pub row_squares : (ℕ → ℕ → ℤ) → ℕ → ℕ → ℤ
row_squares a i n = sum_below n (λ k. cholesky a i k *ℤ cholesky a i k)

pub products_within : (a : ℕ → ℕ → ℤ) (n i j : ℕ) → ((sum_below n (λ k. cholesky a i k *ℤ cholesky a j k) +ℤ sum_below n (λ k. cholesky a i k *ℤ cholesky a j k)) ≤ℤ (row_squares a i n +ℤ row_squares a j n)) × (neg_ℤ (row_squares a i n +ℤ row_squares a j n) ≤ℤ (sum_below n (λ k. cholesky a i k *ℤ cholesky a j k) +ℤ sum_below n (λ k. cholesky a i k *ℤ cholesky a j k)))
products_within a zero i j = (omega (arith, int_sums), omega (arith, int_sums))
products_within a (suc n) i j =
    let rest = products_within a n i j in
    let last = product_within (cholesky a i n) (cholesky a j n) in
    (omega (arith, int_sums, rest.0, last.0), omega (arith, int_sums, rest.1, last.1))

-- a square sum is never negative
pub row_squares-nonnegative : (a : ℕ → ℕ → ℤ) (i n : ℕ) → pos 0 ≤ℤ row_squares a i n
row_squares-nonnegative a i n = sum_below-nonnegative n _ (λ k lt. square_nonnegative (cholesky a i k))

node_squares-nonnegative : (a : ℕ → ℕ → ℤ) (i n : ℕ) → pos 0 ≤ℤ node_squares a i n
node_squares-nonnegative a i n = sum_below-nonnegative 6 _ (λ c lt. square_nonnegative (cholesky a i (6 * n + c)))

picked-nonnegative : (b : Bool) (z : ℤ) → pos 0 ≤ℤ z → pos 0 ≤ℤ picked b z
picked-nonnegative true z h = h
picked-nonnegative false z h = omega (arith, int_sums)

pub squares-nonnegative : (a : ℕ → ℕ → ℤ) (parents : List (Option ℕ)) (n i : ℕ) → pos 0 ≤ℤ squares a parents n i
squares-nonnegative a parents n i =
    rw (squares-subtree_sum a parents n i)
    (sum_below-nonnegative (suc n) _ (λ m lt. picked-nonnegative (is_in_subtree parents n m) (node_squares a i m) (node_squares-nonnegative a i m)))

-- a node's own squares are among those of its subtree
pub node_squares-le : (a : ℕ → ℕ → ℤ) (parents : List (Option ℕ)) (n i : ℕ) → node_squares a i n ≤ℤ squares a parents n i
node_squares-le a parents n i =
    let whole = squares-children a parents n i in
    let rest = sum_below-nonnegative n (λ d. picked (names n (parent_of parents d)) (squares a parents d i)) (λ d lt. picked-nonnegative (names n (parent_of parents d)) _ (squares-nonnegative a parents d i)) in
    omega (arith, int_sums)

-- the nodes before n keep the squares of a row narrow, over their subtrees
abbrev pub IsNarrowBefore : (ℕ → ℕ → ℤ) → List (Option ℕ) → ℕ → ℕ → Type 0
IsNarrowBefore a parents n i = (m : ℕ) → m < n → squares a parents m i <ℤ pos (2 ^ 113)

pub row_squares-bound : (a : ℕ → ℕ → ℤ) (parents : List (Option ℕ)) (n i : ℕ) → IsNarrowBefore a parents n i → row_squares a i (6 * n) ≤ℤ pos (n * 2 ^ 113)
row_squares-bound a parents n i narrow =
    rw (sum_below-by_six n (λ k. cholesky a i k *ℤ cholesky a i k))
    (sum_below-at_most n (2 ^ 113) (node_squares a i) (λ m lt.
    let own = node_squares-le a parents m i in
    let h = narrow m lt in
    omega (arith, int_sums)))

-- 8,000 nodes of less than 2^113 each, and an entry
difference_small : (x s : ℤ) (b : ℕ) → unsigned_abs x < 2 ^ 113 → b ≤ 8000 * 2 ^ 113 → (s +ℤ s) ≤ℤ (pos b +ℤ pos b) → neg_ℤ (pos b +ℤ pos b) ≤ℤ (s +ℤ s) → unsigned_abs (x -ℤ s) < 2 ^ 126
difference_small x s b small le upper lower = omega (arith, int_sums)

-- what is left of an entry after the columns of n nodes fits 127 bits with its sign
pub left_after-small : (a : ℕ → ℕ → ℤ) (parents : List (Option ℕ)) (n i j : ℕ) → n ≤ 8000 → unsigned_abs (a i j) < 2 ^ 113 → IsNarrowBefore a parents n i → IsNarrowBefore a parents n j → unsigned_abs (left_after a (6 * n) i j) < 2 ^ 126
unfolding left_after
left_after-small a parents n i j le small ni nj =
    let within = products_within a (6 * n) i j in
    let bi = row_squares-bound a parents n i ni in
    let bj = row_squares-bound a parents n j nj in
    let s = sum_below (6 * n) (λ k. cholesky a i k *ℤ cholesky a j k) in
    let size : n * 2 ^ 113 ≤ 8000 * 2 ^ 113 = mul-le-mul_right (2 ^ 113) le in
    difference_small (a i j) s (n * 2 ^ 113) small size (omega (arith, int_sums, within.0)) (omega (arith, int_sums, within.1))

-- the diagonal only falls
pub pivot-le : (a : ℕ → ℕ → ℤ) (j : ℕ) → pivot a j ≤ℤ a j j
unfolding left_after
pivot-le a j = let taken = row_squares-nonnegative a j j in omega (arith, int_sums)

-- what is left of a diagonal entry is below it
pub left_after-low : (a : ℕ → ℕ → ℤ) (n i : ℕ) → unsigned_abs (a i i) < 2 ^ 113 → left_after a n i i <ℤ pos (2 ^ 113)
unfolding left_after
left_after-low a n i small =
    let taken = row_squares-nonnegative a i n in
    omega (arith, int_sums)

-- an entry of 2^57 or more in a row before its diagonal leaves nothing for the pivot of that row
pub pivot_after_large : (a : ℕ → ℕ → ℤ) (i k : ℕ) → k < i → a i i <ℤ pos (2 ^ 113) → 2 ^ 57 ≤ unsigned_abs (cholesky a i k) → pivot a i <ℤ pos 1
unfolding left_after
pivot_after_large a i k lt small large =
    let square = square_large (cholesky a i k) large in
    let taken = sum_below-term i (λ m. cholesky a i m *ℤ cholesky a i m) (λ m ml. square_nonnegative (cholesky a i m)) k lt in
    omega (arith, int_sums)

-- nothing left gives the entry 0
pub cholesky-zero : (a : ℕ → ℕ → ℤ) (i j : ℕ) → j < i → left_after a j i j ≡ pos 0 → cholesky a i j ≡ pos 0
cholesky-zero a i j lt none =
    elim (cases_pivot (pivot a j)) [
      | inl low ↦ cholesky-broken a i j low
      | inr ok ↦
          let root = root_of-is (pivot a j) (omega (arith, int_sums)) in
          let positive : pos 0 <ℤ cholesky a j j = rw (cholesky-diagonal a j ok) (let one = root.greatest (pos 1) (omega (arith, int_sums)) in omega (arith, int_sums)) in
          cholesky-below a i j lt ok ∙ ap (λ z. nearest_of z (cholesky a j j)) none ∙ nearest_of-zero (cholesky a j j) positive
    ]

-- a scaled stiffness of 60 bits, with its shift, has 113
pub scaled_stiffness-small : (km : ℕ → ℕ → ℤ) (order : List ℕ) (shift : ℤ) → ((i j : ℕ) → unsigned_abs (km i j) < 2 ^ 60) → pos 0 ≤ℤ shift → shift ≤ℤ pos (2 ^ 44) → (i j : ℕ) → unsigned_abs (scaled_stiffness km order shift i j) < 2 ^ 113
unfolding scaled_stiffness
scaled_stiffness-small km order shift small low high i j =
    let k = small (freedom_at order i) (freedom_at order j) in
    let off = shift_size (eqb i j) shift low high in
    let size = unsigned_abs-mul (pos (2 ^ 52)) (km (freedom_at order i) (freedom_at order j) -ℤ cond (eqb i j) shift (pos 0)) in
    let inner : unsigned_abs (km (freedom_at order i) (freedom_at order j) -ℤ cond (eqb i j) shift (pos 0)) < 2 ^ 61 = omega (arith, int_sums, off.0, off.1) in
    omega (arith, size, inner)
  where
    shift_size : (b : Bool) (shift : ℤ) → pos 0 ≤ℤ shift → shift ≤ℤ pos (2 ^ 44) → (pos 0 ≤ℤ cond b shift (pos 0)) × (cond b shift (pos 0) ≤ℤ pos (2 ^ 44))
    shift_size true shift low high = (low, high)
    shift_size false shift low high = (omega (arith, int_sums), omega (arith, int_sums))
