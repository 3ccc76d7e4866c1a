-- Sums over a node's subtree: its own columns and the subtrees of its children.
use Rattle.std.proofs.Common.{◌≡◌, ℕ, zero, suc, ◌+◌, ◌*◌, ◌/◌, ◌<◌, ◌≤◌, Bool, true, false, cond, eqb, List, Option, Some, None, ◌∙◌, sym, ap, refl, arith, subst, inl, inr, ℤ, pos, ◌+ℤ◌, ◌*ℤ◌}
use Rattle.std.specs.Option.{option_map_or}
use Rattle.std.specs.Prelude.{option_and_then}
use Rattle.std.proofs.lemmas.Bool.{cases_eq, eq-eqb, ne_eqb}
use Rattle.int_laws.proofs.Sums.{int_sums}
use Rattle.int_laws.specs.Sums.{sum_below}
use Rattle.cholesky_laws.specs.Recurrence.{cholesky}
use Rattle.elimination.specs.Elimination.{parent_of, met_from, is_in_subtree}
use Rattle.cholesky_laws.specs.Breakdown.{squares}
use Rattle.cholesky_laws.specs.Fronts.{subtree_products}
use Rattle.int_laws.proofs.SumLaws.{sum_below-same, sum_below-zero, sum_below-add, sum_below-cut, sum_below-by_six}

-- a number where a test holds, else 0
abbrev pub picked : Bool → ℤ → ℤ
picked b z = cond b z (pos 0)

-- the node named is n
abbrev pub names : ℕ → Option ℕ → Bool
names n o = option_map_or (λ v. eqb v n) o false

-- the squares of a row's entries in one node's columns
abbrev pub node_squares : (ℕ → ℕ → ℤ) → ℕ → ℕ → ℤ
node_squares a i n = sum_below 6 (λ c. cholesky a i (6 * n + c) *ℤ cholesky a i (6 * n + c))

-- the way up does not begin before a node
pub met_from-late : (parents : List (Option ℕ)) (u m : ℕ) → u ≤ m → met_from parents u m ≡ Some m
met_from-late parents zero m le = refl
met_from-late parents (suc u) m le =
    ap (λ o. option_and_then (λ v. cond (eqb v u) (parent_of parents u) (Some v)) o) (met_from-late parents u m (omega arith))
    ∙ ap (λ t. cond t (parent_of parents u) (Some m)) (ne_eqb m u (λ e. omega arith))

pub is_in_subtree-own : (parents : List (Option ℕ)) (n : ℕ) → is_in_subtree parents n n ≡ true
is_in_subtree-own parents n = ap (names n) (met_from-late parents n n (omega arith)) ∙ eq-eqb n n refl

pub is_in_subtree-past : (parents : List (Option ℕ)) (n m : ℕ) → n < m → is_in_subtree parents n m ≡ false
is_in_subtree-past parents n m lt = ap (names n) (met_from-late parents n m (omega arith)) ∙ ne_eqb m n (λ e. omega arith)

plus_none : (z : ℤ) → z ≡ pos 0 +ℤ z
plus_none z = omega (arith, int_sums)

none_plus : (b : Bool) (z : ℤ) → z ≡ z +ℤ picked b (pos 0)
none_plus true z = omega (arith, int_sums)
none_plus false z = omega (arith, int_sums)

-- one step up: n is met from u + 1 on where it is met from u on, or where u is and n is its parent
step_up : (o parent : Option ℕ) (u n : ℕ) (z : ℤ) → u < n → picked (names n (option_and_then (λ v. cond (eqb v u) parent (Some v)) o)) z ≡ picked (names n o) z +ℤ picked (names n parent) (picked (names u o) z)
step_up None parent u n z lt = none_plus (names n parent) (pos 0)
step_up (Some v) parent u n z lt =
    elim (cases_eq v u) [
      | inl e ↦
          ap (λ t. picked (names n (cond t parent (Some v))) z) (eq-eqb v u e)
          ∙ plus_none (picked (names n parent) z)
          ∙ sym (ap (λ t. picked t z +ℤ picked (names n parent) (picked (eqb v u) z)) (ne_eqb v n (λ q. omega arith))
          ∙ ap (λ t. pos 0 +ℤ picked (names n parent) (picked t z)) (eq-eqb v u e))
      | inr apart ↦
          ap (λ t. picked (names n (cond t parent (Some v))) z) (ne_eqb v u apart)
          ∙ none_plus (names n parent) (picked (eqb v n) z)
          ∙ sym (ap (λ t. picked (eqb v n) z +ℤ picked (names n parent) (picked t z)) (ne_eqb v u apart))
    ]

sum_below-picked : (b : Bool) (n : ℕ) (f : ℕ → ℤ) → sum_below n (λ m. picked b (f m)) ≡ picked b (sum_below n f)
sum_below-picked true n f = refl
sum_below-picked false n f = sum_below-zero n (λ m. pos 0) (λ m lt. refl)

-- the sum over a subtree
abbrev pub subtree_sum : List (Option ℕ) → (ℕ → ℤ) → ℕ → ℤ
subtree_sum parents f n = sum_below (suc n) (λ m. picked (is_in_subtree parents n m) (f m))

-- a number is counted once for the child whose subtree has it
sum_up : (parents : List (Option ℕ)) (n : ℕ) (f : ℕ → ℤ) (u : ℕ) → u ≤ n → sum_below n (λ m. picked (names n (met_from parents u m)) (f m)) ≡ sum_below u (λ d. picked (names n (parent_of parents d)) (subtree_sum parents f d))
sum_up parents n f zero le = sum_below-zero n _ (λ m lt. ap (λ t. picked t (f m)) (ne_eqb m n (λ e. omega arith)))
sum_up parents n f (suc u) le =
    let at = names n (parent_of parents u) in
    let below = λ (m : ℕ). picked (is_in_subtree parents u m) (f m) in
    sum_below-same n _ (λ m. picked (names n (met_from parents u m)) (f m) +ℤ picked at (below m)) (λ m lt. step_up (met_from parents u m) (parent_of parents u) u n (f m) (omega arith))
    ∙ sum_below-add n (λ m. picked (names n (met_from parents u m)) (f m)) (λ m. picked at (below m))
    ∙ ap (λ z. z +ℤ sum_below n (λ m. picked at (below m))) (sum_up parents n f u (omega arith))
    ∙ ap (λ z. sum_below u (λ d. picked (names n (parent_of parents d)) (subtree_sum parents f d)) +ℤ z)
    (sum_below-picked at n below
    ∙ ap (picked at) (sum_below-cut (suc u) n below (omega arith) (λ k ge lt. ap (λ t. picked t (f k)) (is_in_subtree-past parents u k (omega arith)))))

-- a subtree is its node and the subtrees of the node's children
pub subtree_sum-children : (parents : List (Option ℕ)) (f : ℕ → ℤ) (n : ℕ) → subtree_sum parents f n ≡ f n +ℤ sum_below n (λ d. picked (names n (parent_of parents d)) (subtree_sum parents f d))
subtree_sum-children parents f n =
    let own : picked (is_in_subtree parents n n) (f n) ≡ f n = ap (λ t. picked t (f n)) (is_in_subtree-own parents n) in
    let rest = sum_up parents n f n (omega arith) in
    omega (arith, int_sums)

-- the products of two rows' entries in one node's columns
abbrev pub node_products : (ℕ → ℕ → ℤ) → ℕ → ℕ → ℕ → ℤ
node_products a i j n = sum_below 6 (λ c. cholesky a i (6 * n + c) *ℤ cholesky a j (6 * n + c))

-- the products of two rows over a subtree, node by node
pub products-subtree_sum : (a : ℕ → ℕ → ℤ) (parents : List (Option ℕ)) (n i j : ℕ) → subtree_products a parents n i j ≡ subtree_sum parents (node_products a i j) n
unfolding subtree_products
products-subtree_sum a parents n i j =
    let term = λ (k : ℕ). picked (is_in_subtree parents n (k / 6)) (cholesky a i k *ℤ cholesky a j k) in
    let P : ℕ → Type 0 = λ x. sum_below x term ≡ subtree_sum parents (node_products a i j) n in
    let whole : 6 * suc n ≡ 6 * n + 6 = omega arith in
    subst P whole
    (sum_below-by_six (suc n) term
    ∙ sum_below-same (suc n) _ (λ m. picked (is_in_subtree parents n m) (node_products a i j m))
    (λ m lt.
    sum_below-same 6 (λ c. term (6 * m + c)) (λ c. picked (is_in_subtree parents n m) (cholesky a i (6 * m + c) *ℤ cholesky a j (6 * m + c)))
    (λ c cl.
    let at : (6 * m + c) / 6 ≡ m = omega arith in
    ap (λ x. picked (is_in_subtree parents n x) (cholesky a i (6 * m + c) *ℤ cholesky a j (6 * m + c))) at)
    ∙ sum_below-picked (is_in_subtree parents n m) 6 (λ c. cholesky a i (6 * m + c) *ℤ cholesky a j (6 * m + c))))

-- the node's own products and those of its children
pub products-children : (a : ℕ → ℕ → ℤ) (parents : List (Option ℕ)) (n i j : ℕ) → subtree_products a parents n i j ≡ node_products a i j n +ℤ sum_below n (λ d. picked (names n (parent_of parents d)) (subtree_products a parents d i j))
products-children a parents n i j =
    products-subtree_sum a parents n i j
    ∙ subtree_sum-children parents (node_products a i j) n
    ∙ ap (λ z. node_products a i j n +ℤ z) (sum_below-same n _ _ (λ d lt. ap (picked (names n (parent_of parents d))) (sym (products-subtree_sum a parents d i j))))

-- the squares of a row are its products with itself
pub squares-products : (a : ℕ → ℕ → ℤ) (parents : List (Option ℕ)) (n i : ℕ) → squares a parents n i ≡ subtree_products a parents n i i
unfolding squares subtree_products
squares-products a parents n i = refl

pub squares-subtree_sum : (a : ℕ → ℕ → ℤ) (parents : List (Option ℕ)) (n i : ℕ) → squares a parents n i ≡ subtree_sum parents (node_squares a i) n
squares-subtree_sum a parents n i = squares-products a parents n i ∙ products-subtree_sum a parents n i i

-- the node's own squares and those of its children
pub squares-children : (a : ℕ → ℕ → ℤ) (parents : List (Option ℕ)) (n i : ℕ) → squares a parents n i ≡ node_squares a i n +ℤ sum_below n (λ d. picked (names n (parent_of parents d)) (squares a parents d i))
squares-children a parents n i =
    squares-products a parents n i
    ∙ products-children a parents n i i
    ∙ ap (λ z. node_squares a i n +ℤ z) (sum_below-same n _ _ (λ d lt. ap (picked (names n (parent_of parents d))) (sym (squares-products a parents d i))))

-- the products of the columns of a node's children, each over its subtree, are those of the columns of its subtree before it
pub sum_up-products : (a : ℕ → ℕ → ℤ) (parents : List (Option ℕ)) (n i j : ℕ) → sum_below n (λ m. picked (is_in_subtree parents n m) (node_products a i j m)) ≡ sum_below n (λ d. picked (names n (parent_of parents d)) (subtree_products a parents d i j))
sum_up-products a parents n i j =
    sum_up parents n (node_products a i j) n (omega arith)
    ∙ sum_below-same n _ _ (λ d lt. ap (picked (names n (parent_of parents d))) (sym (products-subtree_sum a parents d i j)))
