-- A front between its children, and the recurrence in its own columns.
use Rattle.std.proofs.Common.{◌≡◌, ℕ, suc, ◌+◌, ◌*◌, ◌/◌, ◌%◌, ◌<◌, ◌≤◌, Bool, true, false, cond, ltb, List, [], length, get_or, Contains, ◌∙◌, sym, ap, ap₂, refl, arith, subst, ◌⊎◌, inl, inr, ℤ, pos, neg_ℤ, ◌+ℤ◌, ◌-ℤ◌, ◌*ℤ◌}
use Rattle.std.proofs.lemmas.Bool.{lt-ltb, ltb-true, false≢true}
use Rattle.int_laws.specs.Matrices.{Entries}
use Rattle.int_laws.specs.Sums.{sum_below}
use Rattle.int_laws.proofs.Sums.{int_sums}
use Rattle.int_laws.proofs.SumLaws.{sum_below-same, sum_below-zero, sum_below-by_six}
use Rattle.lists.specs.Rows.{freedom_at, position_of}
use Rattle.lists.proofs.UniqueLemmas.{decide_contains}
use Rattle.elimination.specs.Elimination.{is_parent, is_in_subtree}
use Rattle.cholesky_laws.specs.Recurrence.{cholesky, left_after}
use Rattle.cholesky_laws.specs.Laws.{HoldsRemainder}
use Rattle.cholesky_laws.specs.Fronts.{Front, Space, Update, front_at, later_of, places_in, parents_of, matrix_of, IsBase, lower_entry, subtree_products, front_update, loaded, update_entry, added, assembled_entry, assembled, IsNextChild}
use Rattle.cholesky_laws.proofs.SubtreeLemmas.{picked, node_products, sum_up-products}
use Rattle.cholesky_laws.proofs.FillLemmas.{product_none, no_fill}
use Rattle.cholesky_laws.proofs.TreeLemmas.{reaches, IsClosed-reaches, IsOnPattern-matrix_of, later_in_subtree, rows_of_subtree, is_parent_parts}
use Rattle.cholesky_laws.proofs.TriangleLemmas.{lower-same, lower-entry, lower-past, lower-past_columns, own-row, places-rising, later-place, row-bounds, row-at_position, position-at_row, position-past, position-le, rows-le}

-- ---- fill
-- a front's column has nothing in a row that it does not reach
pub no_fill_base : (base : List Front) → IsBase base → (i k : ℕ) → i < 6 * length base → k / 6 < i / 6 → (Contains (later_of base (k / 6)) (i / 6) → ⊥) → cholesky (matrix_of base) i k ≡ pos 0
no_fill_base base b i k in' past absent = no_fill (matrix_of base) (reaches base) (length base) (IsClosed-reaches base b) (IsOnPattern-matrix_of base b) k i in' past absent

-- the subtree of a front has no products in a row past it that is not its own
pub products-none : (base : List Front) → IsBase base → (d i j : ℕ) → i < 6 * length base → j < 6 * length base → d < i / 6 → d < j / 6 → ((Contains (later_of base d) (i / 6) → ⊥) ⊎ (Contains (later_of base d) (j / 6) → ⊥)) → subtree_products (matrix_of base) (parents_of base) d i j ≡ pos 0
unfolding subtree_products
products-none base b d i j il jl di dj absent =
    sum_below-zero (6 * d + 6) _ (λ k kl. at k (is_in_subtree (parents_of base) d (k / 6)) refl kl)
  where
    entry : (i k : ℕ) → i < 6 * length base → d < i / 6 → k < 6 * d + 6 → is_in_subtree (parents_of base) d (k / 6) ≡ true → (Contains (later_of base d) (i / 6) → ⊥) → cholesky (matrix_of base) i k ≡ pos 0
    entry i k il di kl top out = no_fill_base base b i k il (omega arith) (λ h. out (rows_of_subtree base b d (k / 6) (i / 6) top h di))

    at : (k : ℕ) (t : Bool) → is_in_subtree (parents_of base) d (k / 6) ≡ t → k < 6 * d + 6 → picked t (cholesky (matrix_of base) i k *ℤ cholesky (matrix_of base) j k) ≡ pos 0
    at k false e kl = refl
    at k true e kl =
        elim absent [
          | inl out ↦ product_none (cholesky (matrix_of base) i k) (cholesky (matrix_of base) j k) (inl (entry i k il di kl e out))
          | inr out ↦ product_none (cholesky (matrix_of base) i k) (cholesky (matrix_of base) j k) (inr (entry j k jl dj kl e out))
        ]

-- what the columns before a front take from its own is what its children's subtrees have
pub products-before : (base : List Front) → IsBase base → (f i j : ℕ) → j / 6 ≡ f → j < 6 * length base → sum_below (6 * f) (λ k. cholesky (matrix_of base) i k *ℤ cholesky (matrix_of base) j k) ≡ sum_below f (λ d. picked (is_parent (parents_of base) f d) (subtree_products (matrix_of base) (parents_of base) d i j))
products-before base b f i j own jl =
    sum_below-by_six f (λ k. cholesky (matrix_of base) i k *ℤ cholesky (matrix_of base) j k)
    ∙ sum_below-same f _ _ (λ m lt. at m (is_in_subtree (parents_of base) f m) refl lt)
    ∙ sum_up-products (matrix_of base) (parents_of base) f i j
  where
    at : (m : ℕ) (t : Bool) → is_in_subtree (parents_of base) f m ≡ t → m < f → node_products (matrix_of base) i j m ≡ picked t (node_products (matrix_of base) i j m)
    at m true e lt = refl
    at m false e lt =
        sum_below-zero 6 (λ c. cholesky (matrix_of base) i (6 * m + c) *ℤ cholesky (matrix_of base) j (6 * m + c)) (λ c cl.
        let node : (6 * m + c) / 6 ≡ m = omega arith in
        let absent : Contains (later_of base ((6 * m + c) / 6)) (j / 6) → ⊥ = λ h.
        false≢true (sym e ∙ later_in_subtree base b m f (subst (λ (x : ℕ). Contains (later_of base x) f) node (subst (λ (x : ℕ). Contains (later_of base ((6 * m + c) / 6)) x) own h)))
        in
        product_none (cholesky (matrix_of base) i (6 * m + c)) (cholesky (matrix_of base) j (6 * m + c))
        (inr (no_fill_base base b j (6 * m + c) jl (omega (arith, own)) absent)))

-- ---- a front's own entries
test-own : (c : ℕ) → c < 6 → ltb c 6 ≡ true
test-own c lt = lt-ltb c 6 lt

-- its matrix, row by row
own-entry : (base : List Front) → IsBase base → (f r c : ℕ) → c < 6 → r < 6 * length (places_in base f) → matrix_of base (freedom_at (places_in base f) r) (6 * f + c) ≡ get_or (get_or (front_at base f).own c []) r (pos 0)
unfolding matrix_of
own-entry base b f r c cl rl =
    let node : (6 * f + c) / 6 ≡ f = omega arith in
    let rest : (6 * f + c) % 6 ≡ c = omega arith in
    ap (λ (x : ℕ). get_or (get_or (front_at base x).own ((6 * f + c) % 6) []) (position_of (places_in base x) (freedom_at (places_in base f) r)) (pos 0)) node
    ∙ ap (λ (x : ℕ). get_or (get_or (front_at base f).own x []) (position_of (places_in base f) (freedom_at (places_in base f) r)) (pos 0)) rest
    ∙ ap (λ (x : ℕ). get_or (get_or (front_at base f).own c []) x (pos 0)) (position-at_row (places_in base f) r (places-rising base b f) rl)

nothing_taken : (x : ℤ) → x ≡ x -ℤ pos 0
nothing_taken x = omega (arith, int_sums)

pub loaded-is : (base : List Front) → IsBase base → (f : ℕ) → f < length base → loaded f (front_at base f) ≡ assembled base f 0
loaded-is base b f fl =
    ap (λ (xs : List (List ℤ)). let s : Space = record { front = f; nodes = (front_at base f).nodes; later = later_of base f; entries = xs } in s)
    (lower-same (6 * length (places_in base f)) (6 * length (places_in base f)) _ _ (λ r c cl le rl.
    at r c (ltb c 6) refl rl ∙ nothing_taken (cond (ltb c 6) (matrix_of base (freedom_at (places_in base f) r) (6 * f + c)) (pos 0))))
  where
    at : (r c : ℕ) (t : Bool) → ltb c 6 ≡ t → r < 6 * length (places_in base f) → cond t (get_or (get_or (front_at base f).own c []) r (pos 0)) (pos 0) ≡ cond t (matrix_of base (freedom_at (places_in base f) r) (6 * f + c)) (pos 0)
    at r c false e rl = refl
    at r c true e rl = sym (own-entry base b f r c (ltb-true c 6 e) rl)

-- ---- one front more
pub skipped-is : (base : List Front) (f m : ℕ) → is_parent (parents_of base) f m ≡ false → assembled base f (suc m) ≡ assembled base f m
skipped-is base f m apart =
    ap (λ (xs : List (List ℤ)). let s : Space = record { front = f; nodes = (front_at base f).nodes; later = later_of base f; entries = xs } in s)
    (lower-same (6 * length (places_in base f)) (6 * length (places_in base f)) (assembled_entry base f (suc m)) (assembled_entry base f m) (λ r c cl le rl.
    let term = subtree_products (matrix_of base) (parents_of base) m (freedom_at (places_in base f) r) (freedom_at (places_in base f) c) in
    let none : picked (is_parent (parents_of base) f m) term ≡ pos 0 = ap (λ t. picked t term) apart in
    omega (arith, int_sums, none)))

-- an update's entry for two rows past its front
pub update-entry_is : (base : List Front) → IsBase base → (d i j : ℕ) → i < 6 * length base → j ≤ i → d < i / 6 → d < j / 6 → update_entry (front_update base d) i j ≡ neg_ℤ (subtree_products (matrix_of base) (parents_of base) d i j)
update-entry_is base b d i j il le di dj =
    let jl : j < 6 * length base = omega arith in
    let ns = later_of base d in
    let size = 6 * length ns in
    let f = λ (r c : ℕ). neg_ℤ (subtree_products (matrix_of base) (parents_of base) d (freedom_at ns r) (freedom_at ns c)) in
    elim (decide_contains ns (i / 6)) [
      | inr out ↦
          lower-past size size f (position_of ns i) (position_of ns j) (position-past ns i out)
          ∙ sym (ap neg_ℤ (products-none base b d i j il jl di dj (inl out)))
      | inl hi ↦
          elim (decide_contains ns (j / 6)) [
            | inr out ↦
                lower-past_columns size size f (position_of ns i) (position_of ns j) (position-past ns j out)
                ∙ sym (ap neg_ℤ (products-none base b d i j il jl di dj (inr out)))
            | inl hj ↦
                let ri = row-at_position ns i hi in
                let rj = row-at_position ns j hj in
                lower-entry size size f (position_of ns i) (position_of ns j) rj.1 (position-le ns i j (b.rising d) hi hj le) ri.1
                ∙ ap₂ (λ (x y : ℕ). neg_ℤ (subtree_products (matrix_of base) (parents_of base) d x y)) ri.0 rj.0
          ]
    ]

one_more : (x s p : ℤ) (t : Bool) → t ≡ true → (x -ℤ s) +ℤ neg_ℤ p ≡ x -ℤ (s +ℤ picked t p)
one_more x s p t e = let is : picked t p ≡ p = ap (λ b. picked b p) e in omega (arith, int_sums, is)

pub added-entry_is : (base : List Front) → IsBase base → (f d : ℕ) → f < length base → is_parent (parents_of base) f d ≡ true → (r c : ℕ) → c ≤ r → r < 6 * length (places_in base f) →
    lower_entry (assembled base f d).entries r c +ℤ update_entry (front_update base d) (freedom_at (places_in base f) r) (freedom_at (places_in base f) c) ≡ assembled_entry base f (suc d) r c
added-entry_is base b f d fl child r c le rl =
    let ns = places_in base f in
    let below = (b.above d f (is_parent_parts base b f d child)).0 in
    let br = row-bounds base b f r fl rl in
    let bc = row-bounds base b f c fl (omega arith) in
    ap₂ (λ (x y : ℤ). x +ℤ y)
    (lower-entry (6 * length ns) (6 * length ns) (assembled_entry base f d) r c (omega arith) le rl)
    (update-entry_is base b d (freedom_at ns r) (freedom_at ns c) br.1 (rows-le base b f r c le rl) (omega (arith, br.0)) (omega (arith, bc.0)))
    ∙ one_more _ _ _ (is_parent (parents_of base) f d) child

pub added-is : (base : List Front) (d : ℕ) (s : Space) (u : Update) → IsNextChild base d s u → added s u ≡ assembled base s.front (suc d)
added-is base d s u n =
    let f = s.front in
    let same : added (assembled base f d) (front_update base d) ≡ assembled base f (suc d) =
    ap (λ (xs : List (List ℤ)). let s : Space = record { front = f; nodes = (front_at base f).nodes; later = later_of base f; entries = xs } in s)
    (lower-same (6 * length (places_in base f)) (6 * length (places_in base f)) _ _ (λ r c cl le rl. added-entry_is base n.fronts f d n.front n.child r c le rl))
    in
    ap₂ added n.space n.update ∙ same

-- ---- the recurrence in a front's own columns
-- the lower triangle of a front with all its children
abbrev pub triangle : List Front → ℕ → Entries
triangle base f = lower_entry (assembled base f f).entries

pub triangle-is : (base : List Front) (f r c : ℕ) → c ≤ r → r < 6 * length (places_in base f) → triangle base f r c ≡ assembled_entry base f f r c
triangle-is base f r c le rl = lower-entry (6 * length (places_in base f)) (6 * length (places_in base f)) (assembled_entry base f f) r c (omega arith) le rl

panel-left : (base : List Front) → IsBase base → (f r c : ℕ) → f < length base → r < 6 * length (places_in base f) → c < 6 → c ≤ r → triangle base f r c ≡ left_after (matrix_of base) (6 * f) (freedom_at (places_in base f) r) (6 * f + c)
unfolding left_after
panel-left base b f r c fl rl cl le =
    let row = freedom_at (places_in base f) r in
    let taken = λ (j : ℕ). sum_below f (λ d. picked (is_parent (parents_of base) f d) (subtree_products (matrix_of base) (parents_of base) d row j)) in
    let node : (6 * f + c) / 6 ≡ f = omega arith in
    triangle-is base f r c le rl
    ∙ ap (λ (t : Bool). cond t (matrix_of base row (6 * f + c)) (pos 0) -ℤ taken (freedom_at (places_in base f) c)) (test-own c cl)
    ∙ ap (λ (j : ℕ). matrix_of base row (6 * f + c) -ℤ taken j) (own-row base f c cl)
    ∙ ap (λ (z : ℤ). matrix_of base row (6 * f + c) -ℤ z) (sym (products-before base b f row (6 * f + c) node (omega arith)))

pub HoldsRemainder-triangle : (base : List Front) → IsBase base → (f : ℕ) → f < length base → HoldsRemainder (matrix_of base) (triangle base f) (6 * f) (6 * length (places_in base f)) (freedom_at (places_in base f))
HoldsRemainder-triangle base b f fl =
    record {
      whole = omega arith;
      left = λ r c rl cl le. panel-left base b f r c fl rl cl le;
      own = λ c cl. own-row base f c cl;
      later = λ r from rl. (let h = b.above f (freedom_at (places_in base f) r / 6) (later-place base f r from rl) in omega (arith, h.0));
    }
