-- Sizes in the fronts of a tree: where the subtrees of a front's children pass, its numbers fit 127 bits with their signs.
use Rattle.std.proofs.Common.{◌≡◌, ℕ, zero, suc, ◌+◌, ◌-◌, ◌*◌, ◌/◌, ◌^◌, ◌<◌, ◌≤◌, Bool, true, false, cond, ltb, List, length, Option, Some, None, ◌∙◌, ap, refl, arith, inl, inr, mul-le-mul_right, ℤ, pos, neg_ℤ, ◌+ℤ◌, ◌-ℤ◌, ◌*ℤ◌, ◌≤ℤ◌, ◌<ℤ◌, unsigned_abs}
use Rattle.std.specs.Prelude.{◌||◌, ◌&&◌, is_some, nat_le, int_le}
use Rattle.std.proofs.lemmas.Bool.{cases_Bool, le-leb}
use Rattle.std.proofs.lemmas.Int.{ints}
use Rattle.int_laws.specs.Sums.{sum_below}
use Rattle.int_laws.proofs.Sums.{int_sums}
use Rattle.int_laws.proofs.SumLaws.{sum_below-at_most, sum_below-neg}
use Rattle.lists.specs.Search.{any_below, first_below}
use Rattle.lists.specs.Rows.{freedom_at}
use Rattle.lists.proofs.SearchLemmas.{Finds, first_below-finds, any_below-here}
use Rattle.elimination.specs.Elimination.{is_parent, is_in_subtree}
use Rattle.cholesky_laws.specs.Recurrence.{cholesky, left_after}
use Rattle.cholesky_laws.specs.Breakdown.{squares}
use Rattle.cholesky_laws.specs.Factor.{low_pivot, has_large_entry, node_fails}
use Rattle.cholesky_laws.specs.Fronts.{Front, places_in, parents_of, matrix_of, IsBase, subtree_products, fails_in_subtree, SubtreePasses, assembled_entry}
use Rattle.cholesky_laws.proofs.SubtreeLemmas.{picked, is_in_subtree-own}
use Rattle.cholesky_laws.proofs.BoundLemmas.{product_within, left_after-low}
use Rattle.cholesky_laws.proofs.TreeLemmas.{child_below}
use Rattle.cholesky_laws.proofs.TriangleLemmas.{row-bounds, own-row}
use Rattle.cholesky_laws.proofs.FrontLemmas.{triangle, HoldsRemainder-triangle}

-- twice a sum of products is at most the sums of the squares, either way
abbrev picked_sum : (ℕ → Bool) → (ℕ → ℤ) → (ℕ → ℤ) → ℕ → ℤ
picked_sum t x y n = sum_below n (λ k. picked (t k) (x k *ℤ y k))

abbrev IsWithin : (ℕ → Bool) → (ℕ → ℤ) → (ℕ → ℤ) → ℕ → Type 0
IsWithin t x y n = ((picked_sum t x y n +ℤ picked_sum t x y n) ≤ℤ (picked_sum t x x n +ℤ picked_sum t y y n)) × (neg_ℤ (picked_sum t x x n +ℤ picked_sum t y y n) ≤ℤ (picked_sum t x y n +ℤ picked_sum t x y n))

picked_within : (b : Bool) (x y : ℤ) → ((picked b (x *ℤ y) +ℤ picked b (x *ℤ y)) ≤ℤ (picked b (x *ℤ x) +ℤ picked b (y *ℤ y))) × (neg_ℤ (picked b (x *ℤ x) +ℤ picked b (y *ℤ y)) ≤ℤ (picked b (x *ℤ y) +ℤ picked b (x *ℤ y)))
picked_within true x y = product_within x y
picked_within false x y = (omega (arith, int_sums), omega (arith, int_sums))

sums_within : (t : ℕ → Bool) (x y : ℕ → ℤ) (n : ℕ) → IsWithin t x y n
sums_within t x y zero = (omega (arith, int_sums), omega (arith, int_sums))
sums_within t x y (suc n) =
    let rest = sums_within t x y n in
    let last = picked_within (t n) (x n) (y n) in
    (omega (arith, int_sums, rest.0, last.0), omega (arith, int_sums, rest.1, last.1))

halved : (p a b : ℤ) → (p +ℤ p) ≤ℤ (a +ℤ b) → neg_ℤ (a +ℤ b) ≤ℤ (p +ℤ p) → a <ℤ pos (2 ^ 113) → b <ℤ pos (2 ^ 113) → unsigned_abs p < 2 ^ 113
halved p a b upper lower al bl = omega (arith, int_sums)

pub products-small : (base : List Front) (d i j : ℕ) → squares (matrix_of base) (parents_of base) d i <ℤ pos (2 ^ 113) → squares (matrix_of base) (parents_of base) d j <ℤ pos (2 ^ 113) → unsigned_abs (subtree_products (matrix_of base) (parents_of base) d i j) < 2 ^ 113
unfolding subtree_products squares
products-small base d i j si sj =
    let within = sums_within (λ k. is_in_subtree (parents_of base) d (k / 6)) (cholesky (matrix_of base) i) (cholesky (matrix_of base) j) (6 * d + 6) in
    halved _ _ _ within.0 within.1 si sj

-- ---- a subtree that passes
found_none : (n : ℕ) (test : ℕ → Bool) (o : Option ℕ) → o ≡ None → Finds n test o → (k : ℕ) → k < n → test k ≡ true → ⊥
found_none n test None e finds = finds
found_none n test (Some k) e finds = cc

and_both : (x y : Bool) → x ≡ true → y ≡ true → (x && y) ≡ true
and_both x y ex ey = ap (λ t. t && y) ex ∙ ey

pub subtree-passes : (base : List Front) (d : ℕ) → SubtreePasses base d → (m : ℕ) → m ≤ d → is_in_subtree (parents_of base) d m ≡ true → node_fails (matrix_of base) (parents_of base) (length base) m ≡ true → ⊥
subtree-passes base d none m le top fails =
    found_none (suc d) (fails_in_subtree base d) (first_below (suc d) (fails_in_subtree base d)) none (first_below-finds (suc d) (fails_in_subtree base d)) m (omega arith) (and_both _ _ top fails)

or_last : (x y z : Bool) → z ≡ true → (x || (y || z)) ≡ true
or_last true y z e = refl
or_last false true z e = refl
or_last false false z e = e

int_le-false : (x y : ℤ) → (int_le x y ≡ true → ⊥) → y <ℤ x
int_le-false x y apart = elim (cases_Bool (int_le x y)) [ inl e ↦ absurd (apart e) | inr e ↦ omega (arith, ints, e) ]

-- the squares of a row past it stay narrow
pub passing-narrow : (base : List Front) (d : ℕ) → SubtreePasses base d → (i : ℕ) → i < 6 * length base → d < i / 6 → squares (matrix_of base) (parents_of base) d i <ℤ pos (2 ^ 113)
passing-narrow base d none i il past =
    let a = matrix_of base in
    let parents = parents_of base in
    let test = λ (k : ℕ). nat_le (6 * d + 6) k && int_le (pos (2 ^ 113)) (squares a parents d k) in
    int_le-false (pos (2 ^ 113)) (squares a parents d i) (λ wide.
    let any : any_below (6 * length base) test ≡ true = any_below-here (6 * length base) test i il (and_both _ _ (le-leb (6 * d + 6) i (omega arith)) wide) in
    subtree-passes base d none d (omega arith) (is_in_subtree-own parents d) (or_last (is_some (low_pivot a d)) (has_large_entry a (length base) d) (any_below (6 * length base) test) any))

-- ---- sums
sum-small : (m b : ℕ) (f : ℕ → ℤ) → ((k : ℕ) → k < m → unsigned_abs (f k) ≤ b) → unsigned_abs (sum_below m f) ≤ m * b
sum-small m b f small =
    let upper = sum_below-at_most m b f (λ k lt. let h = small k lt in omega (arith, int_sums)) in
    let lower = sum_below-at_most m b (λ k. neg_ℤ (f k)) (λ k lt. let h = small k lt in omega (arith, int_sums)) in
    let mirrored = sum_below-neg m f in
    omega (arith, int_sums)

-- the children's subtrees pass, of those before m
abbrev pub ChildrenPass : List Front → ℕ → ℕ → Type 0
ChildrenPass base f m = (d : ℕ) → d < m → is_parent (parents_of base) f d ≡ true → SubtreePasses base d

entry_bound : (x s : ℤ) (m : ℕ) → unsigned_abs x < 2 ^ 113 → unsigned_abs s ≤ m * 2 ^ 113 → m * 2 ^ 113 ≤ 8000 * 2 ^ 113 → unsigned_abs (x -ℤ s) < 2 ^ 126 - 2 ^ 114
entry_bound x s m xs ss ms = omega (arith, int_sums)

pub assembled-small : (base : List Front) → IsBase base → (f m : ℕ) → f < length base → m ≤ f → ChildrenPass base f m → (r c : ℕ) → r < 6 * length (places_in base f) → c < 6 * length (places_in base f) → unsigned_abs (assembled_entry base f m r c) < 2 ^ 126 - 2 ^ 114
assembled-small base b f m fl le passing r c rl cl =
    let i = freedom_at (places_in base f) r in
    let j = freedom_at (places_in base f) c in
    let bi = row-bounds base b f r fl rl in
    let bj = row-bounds base b f c fl cl in
    let term = λ (d : ℕ). picked (is_parent (parents_of base) f d) (subtree_products (matrix_of base) (parents_of base) d i j) in
    let taken = sum-small m (2 ^ 113) term (λ d lt. at d (is_parent (parents_of base) f d) refl lt i j bi bj) in
    let count : m ≤ 8000 = omega (arith, b.few) in
    let few : m * 2 ^ 113 ≤ 8000 * 2 ^ 113 = mul-le-mul_right (2 ^ 113) count in
    entry_bound (cond (ltb c 6) (matrix_of base i (6 * f + c)) (pos 0)) (sum_below m term) m (own (ltb c 6) i) taken few
  where
    own : (t : Bool) (i : ℕ) → unsigned_abs (cond t (matrix_of base i (6 * f + c)) (pos 0)) < 2 ^ 113
    own true i = b.small i (6 * f + c)
    own false i = omega (arith, int_sums)

    at : (d : ℕ) (t : Bool) → is_parent (parents_of base) f d ≡ t → d < m → (i j : ℕ) → (6 * f ≤ i) × (i < 6 * length base) → (6 * f ≤ j) × (j < 6 * length base) → unsigned_abs (picked t (subtree_products (matrix_of base) (parents_of base) d i j)) ≤ 2 ^ 113
    at d false e lt i j bi bj = omega (arith, int_sums)
    at d true e lt i j bi bj =
        let below = child_below base b f d e in
        let small = products-small base d i j (passing-narrow base d (passing d lt e) i bi.1 (omega (arith, bi.0))) (passing-narrow base d (passing d lt e) j bj.1 (omega (arith, bj.0))) in
        omega (arith, small)

-- the diagonal of a front's own rows stays below the matrix's
pub diagonal-low : (base : List Front) → IsBase base → (f c : ℕ) → f < length base → c < 6 → triangle base f c c <ℤ pos (2 ^ 113)
diagonal-low base b f c fl cl =
    let is = (HoldsRemainder-triangle base b f fl).left c c (omega arith) cl (omega arith) ∙ ap (λ (i : ℕ). left_after (matrix_of base) (6 * f) i (6 * f + c)) (own-row base f c cl) in
    let low = left_after-low (matrix_of base) (6 * f) (6 * f + c) (b.small (6 * f + c) (6 * f + c)) in
    omega (arith, int_sums)
