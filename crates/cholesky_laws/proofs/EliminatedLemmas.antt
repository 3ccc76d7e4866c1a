-- Eliminating a front that has all its children gives its value.
use Rattle.std.proofs.Common.{◌≡◌, ℕ, zero, suc, ◌+◌, ◌-◌, ◌*◌, ◌/◌, ◌^◌, ◌<◌, ◌≤◌, Bool, true, false, cond, List, length, Contains, Option, Some, None, ◌∙◌, sym, ap, ap₂, refl, arith, subst, ◌⊎◌, inl, inr, ℤ, pos, neg_ℤ, ◌+ℤ◌, ◌-ℤ◌, ◌*ℤ◌, unsigned_abs}
use Rattle.std.specs.Prelude.{◌||◌, ◌&&◌, is_some, option_map, nat_le, nat_lt, int_le, int_lt}
use Rattle.std.specs.Option.{option_map_or, option_or}
use Rattle.std.proofs.lemmas.Bool.{cases_lt, false≢true, leb-true, le-leb, le-ltb}
use Rattle.std.proofs.lemmas.Int.{ints}
use Rattle.int_laws.specs.Matrices.{Entries}
use Rattle.int_laws.specs.Sums.{sum_below}
use Rattle.int_laws.proofs.Sums.{int_sums}
use Rattle.int_laws.proofs.SumLaws.{sum_below-same}
use Rattle.lists.specs.Results.{unless}
use Rattle.lists.specs.Search.{any_below, first_below}
use Rattle.lists.specs.Rows.{freedom_at, position_of}
use Rattle.lists.proofs.SearchLemmas.{Finds, first_below-finds, any_below-here, any_below-some}
use Rattle.lists.proofs.UniqueLemmas.{decide_contains}
use Rattle.elimination.specs.Elimination.{is_parent, met_from, is_in_subtree}
use Rattle.cholesky_laws.specs.Recurrence.{cholesky, left_after, pivot}
use Rattle.cholesky_laws.specs.Breakdown.{squares}
use Rattle.cholesky_laws.specs.Factor.{Breakdown, low, too_wide, low_pivot, has_large_entry, has_wide_row, node_fails}
use Rattle.cholesky_laws.specs.Fronts.{Front, Space, Eliminated, later_of, places_in, parents_of, matrix_of, IsBase, lower, subtree_products, front_update, front_columns, breakdown_of, fails_in_subtree, front_value, has_low_row, space_breakdown, eliminated, SubtreePasses, IsComplete}
use Rattle.cholesky_laws.proofs.RecurrenceLemmas.{cholesky-above}
use Rattle.cholesky_laws.proofs.SubtreeLemmas.{picked, node_products, products-children, squares-products, is_in_subtree-own, is_in_subtree-past}
use Rattle.cholesky_laws.proofs.PanelLemmas.{panel-entry, panel-pivot}
use Rattle.cholesky_laws.proofs.TreeLemmas.{is_named, in_child}
use Rattle.cholesky_laws.proofs.TriangleLemmas.{lower-same, later-row, later-place, row-bounds, own-row, row-at_position}
use Rattle.cholesky_laws.proofs.FrontLemmas.{no_fill_base, products-none, triangle, triangle-is, HoldsRemainder-triangle}
use Rattle.cholesky_laws.proofs.FrontBoundLemmas.{subtree-passes}

-- ---- a front's columns and update
abbrev row_at : List Front → ℕ → ℕ → ℕ
row_at base f r = freedom_at (places_in base f) r

front-entry : (base : List Front) → IsBase base → (f : ℕ) → f < length base → (r c : ℕ) → r < 6 * length (places_in base f) → c < 6 → cholesky (triangle base f) r c ≡ cholesky (matrix_of base) (row_at base f r) (6 * f + c)
front-entry base b f fl r c rl cl = panel-entry (HoldsRemainder-triangle base b f fl) r c rl cl

front-pivot : (base : List Front) → IsBase base → (f : ℕ) → f < length base → (c : ℕ) → c < 6 → pivot (triangle base f) c ≡ pivot (matrix_of base) (6 * f + c)
front-pivot base b f fl c cl = panel-pivot (HoldsRemainder-triangle base b f fl) c cl

both_taken : (x s own all : ℤ) → x ≡ pos 0 -ℤ s → all ≡ own +ℤ s → x -ℤ own ≡ neg_ℤ all
both_taken x s own all e f = omega (arith, int_sums)

past-own : (c : ℕ) → 6 ≤ c → (x : ℤ) → cond (nat_lt c 6) x (pos 0) ≡ pos 0
past-own c from x = ap (λ (t : Bool). cond t x (pos 0)) (le-ltb c 6 from)

front-left : (base : List Front) → IsBase base → (f : ℕ) → f < length base → (r c : ℕ) → 6 ≤ c → c ≤ r → r < 6 * length (places_in base f) →
    left_after (triangle base f) 6 r c ≡ neg_ℤ (subtree_products (matrix_of base) (parents_of base) f (row_at base f r) (row_at base f c))
unfolding left_after
front-left base b f fl r c from le rl =
    let i = row_at base f r in
    let j = row_at base f c in
    let taken = sum_below f (λ d. picked (is_parent (parents_of base) f d) (subtree_products (matrix_of base) (parents_of base) d i j)) in
    let here : triangle base f r c ≡ pos 0 -ℤ taken = triangle-is base f r c le rl ∙ ap (λ (z : ℤ). z -ℤ taken) (past-own c from (matrix_of base i (6 * f + c))) in
    let own : sum_below 6 (λ k. cholesky (triangle base f) r k *ℤ cholesky (triangle base f) c k) ≡ node_products (matrix_of base) i j f =
    sum_below-same 6 _ _ (λ k kl. ap₂ (λ (x y : ℤ). x *ℤ y) (front-entry base b f fl r k rl kl) (front-entry base b f fl c k (omega arith) kl))
    in
    ap (λ (z : ℤ). triangle base f r c -ℤ z) own
    ∙ both_taken (triangle base f r c) taken (node_products (matrix_of base) i j f) _ here (products-children (matrix_of base) (parents_of base) f i j)

abbrev front_parts : List Front → ℕ → Eliminated
front_parts base f = record { columns = front_columns base f; update = front_update base f }

abbrev space_parts : List Front → ℕ → Eliminated
space_parts base f =
    record {
      columns = lower 6 (6 * length (places_in base f)) (cholesky (triangle base f));
      update = record {
        later = later_of base f;
        entries = lower (6 * length (later_of base f)) (6 * length (later_of base f)) (λ r c. left_after (triangle base f) 6 (6 + r) (6 + c));
      };
    }

parts-same : (base : List Front) → IsBase base → (f : ℕ) → f < length base → space_parts base f ≡ front_parts base f
parts-same base b f fl =
    let ns = later_of base f in
    ap₂ (λ (xs ys : List (List ℤ)). let e : Eliminated = record { columns = xs; update = record { later = ns; entries = ys } } in e)
    (lower-same 6 (6 * length (places_in base f)) _ _ (λ r c cl le rl. front-entry base b f fl r c rl cl))
    (lower-same (6 * length ns) (6 * length ns) _ _ (λ r c cl le rl.
    front-left base b f fl (6 + r) (6 + c) (omega arith) (omega arith) (omega arith)
    ∙ ap₂ (λ (x y : ℕ). neg_ℤ (subtree_products (matrix_of base) (parents_of base) f x y)) (later-row base f r) (later-row base f c)))

-- ---- how it breaks down
bool-same : (x y : Bool) → (x ≡ true → y ≡ true) → (y ≡ true → x ≡ true) → x ≡ y
bool-same true y to from = sym (to refl)
bool-same false true to from = from refl
bool-same false false to from = refl

and-parts : (x y : Bool) → (x && y) ≡ true → (x ≡ true) × (y ≡ true)
and-parts true y e = (refl, e)
and-parts false y e = absurd (false≢true e)

and_both : (x y : Bool) → x ≡ true → y ≡ true → (x && y) ≡ true
and_both x y ex ey = ap (λ t. t && y) ex ∙ ey

first_below-same : (n : ℕ) (s t : ℕ → Bool) → ((k : ℕ) → k < n → s k ≡ t k) → first_below n s ≡ first_below n t
first_below-same zero s t same = refl
first_below-same (suc n) s t same = ap₂ (λ (o : Option ℕ) (b : Bool). option_or o (cond b (Some n) None)) (first_below-same n s t (λ k lt. same k (omega arith))) (same n (omega arith))

low-same : (base : List Front) → IsBase base → (f : ℕ) → f < length base → low_pivot (triangle base f) 0 ≡ low_pivot (matrix_of base) f
low-same base b f fl =
    first_below-same 6 _ _ (λ c cl.
    let at : 6 * 0 + c ≡ c = omega arith in
    ap (λ (k : ℕ). int_lt (pivot (triangle base f) k) (pos 1)) at ∙ ap (λ (z : ℤ). int_lt z (pos 1)) (front-pivot base b f fl c cl))

-- a row of the whole matrix is a front's own, or above its columns or out of their reach
row-of : (base : List Front) → IsBase base → (f i : ℕ) → f < length base → i < 6 * length base → ((r : ℕ) × (r < 6 * length (places_in base f)) × (row_at base f r ≡ i) × (f < i / 6 → 6 ≤ r)) ⊎ ((c : ℕ) → c < 6 → cholesky (matrix_of base) i (6 * f + c) ≡ pos 0)
row-of base b f i fl il =
    elim (cases_lt i (6 * f)) [
      | inl above ↦ inr (λ c cl. cholesky-above (matrix_of base) i (6 * f + c) (omega arith))
      | inr from ↦
          elim (cases_lt i (6 * f + 6)) [
            | inl own ↦ (let is = own-row base f (i - 6 * f) (omega arith) in inl (i - 6 * f, omega arith, omega (arith, is), λ past. absurd (omega arith)))
            | inr past ↦
                elim (decide_contains (later_of base f) (i / 6)) [
                  | inl in' ↦
                      (let (is, lt) = row-at_position (later_of base f) i in' in
                      let k = position_of (later_of base f) i in
                      inl (6 + k, omega arith, later-row base f k ∙ is, λ h. omega arith))
                  | inr out ↦
                      inr (λ c cl.
                      let node : (6 * f + c) / 6 ≡ f = omega arith in
                      no_fill_base base b i (6 * f + c) il (omega arith) (λ h. out (subst (λ (x : ℕ). Contains (later_of base x) (i / 6)) node h)))
                ]
          ]
    ]

abbrev is_large : ℤ → Bool
is_large z = nat_le (2 ^ 57) (unsigned_abs z)

none_large : (z : ℤ) → z ≡ pos 0 → is_large z ≡ true → ⊥
none_large z e large = omega (arith, ap unsigned_abs e, leb-true (2 ^ 57) (unsigned_abs z) large)

large-same : (base : List Front) → IsBase base → (f : ℕ) → f < length base → has_large_entry (triangle base f) (length (places_in base f)) 0 ≡ has_large_entry (matrix_of base) (length base) f
large-same base b f fl =
    bool-same _ _
    (λ any.
    let (r, rl, some) = any_below-some n here any in
    let (c, cl, large) = any_below-some 6 (λ freedom. is_large (cholesky (triangle base f) r (6 * 0 + freedom))) some in
    let at : 6 * 0 + c ≡ c = omega arith in
    let whole : is_large (cholesky (matrix_of base) (row_at base f r) (6 * f + c)) ≡ true =
    sym (ap (λ (k : ℕ). is_large (cholesky (triangle base f) r k)) at ∙ ap is_large (front-entry base b f fl r c rl cl)) ∙ large
    in
    any_below-here (6 * length base) there (row_at base f r) (row-bounds base b f r fl rl).1 (any_below-here 6 (λ freedom. is_large (cholesky (matrix_of base) (row_at base f r) (6 * f + freedom))) c cl whole))
    (λ any.
    let (i, il, some) = any_below-some (6 * length base) there any in
    let (c, cl, large) = any_below-some 6 (λ freedom. is_large (cholesky (matrix_of base) i (6 * f + freedom))) some in
    let at : 6 * 0 + c ≡ c = omega arith in
    elim (row-of base b f i fl il) [
      | inr none ↦ absurd (none_large (cholesky (matrix_of base) i (6 * f + c)) (none c cl) large)
      | inl (r, rl, is, past) ↦
          let own : is_large (cholesky (triangle base f) r (6 * 0 + c)) ≡ true =
          ap (λ (k : ℕ). is_large (cholesky (triangle base f) r k)) at ∙ ap is_large (front-entry base b f fl r c rl cl)
          ∙ ap (λ (k : ℕ). is_large (cholesky (matrix_of base) k (6 * f + c))) is ∙ large
          in
          any_below-here n here r rl (any_below-here 6 (λ freedom. is_large (cholesky (triangle base f) r (6 * 0 + freedom))) c cl own)
    ])
  where
    n : ℕ
    n = 6 * length (places_in base f)

    here : ℕ → Bool
    here r = any_below 6 (λ freedom. is_large (cholesky (triangle base f) r (6 * 0 + freedom)))

    there : ℕ → Bool
    there i = any_below 6 (λ freedom. is_large (cholesky (matrix_of base) i (6 * f + freedom)))

twice_negated : (x z : ℤ) → x ≡ neg_ℤ z → neg_ℤ x ≡ z
twice_negated x z e = omega (arith, int_sums)

-- the squares of a row past a front are what its diagonal lacks
row-squares : (base : List Front) → IsBase base → (f : ℕ) → f < length base → (r : ℕ) → 6 ≤ r → r < 6 * length (places_in base f) → neg_ℤ (left_after (triangle base f) 6 r r) ≡ squares (matrix_of base) (parents_of base) f (row_at base f r)
row-squares base b f fl r from rl =
    twice_negated _ _ (front-left base b f fl r r from (omega arith) rl) ∙ sym (squares-products (matrix_of base) (parents_of base) f (row_at base f r))

abbrev is_wide : ℤ → Bool
is_wide z = int_le (pos (2 ^ 113)) z

none_wide : (z : ℤ) → z ≡ pos 0 → is_wide z ≡ true → ⊥
none_wide z e wide = omega (arith, ints, e, wide)

wide-same : (base : List Front) → IsBase base → (f : ℕ) → f < length base → has_low_row (triangle base f) (6 * length (places_in base f)) ≡ has_wide_row (matrix_of base) (parents_of base) (length base) f
wide-same base b f fl =
    bool-same _ _
    (λ any.
    let (r, rl, holds) = any_below-some n here any in
    let (late, wide) = and-parts (nat_le 6 r) (is_wide (neg_ℤ (left_after (triangle base f) 6 r r))) holds in
    let from = leb-true 6 r late in
    let h = later-place base f r from rl in
    let past = (b.above f (row_at base f r / 6) h).0 in
    any_below-here (6 * length base) there (row_at base f r) (row-bounds base b f r fl rl).1
    (and_both _ _ (le-leb (6 * f + 6) (row_at base f r) (omega arith)) (sym (ap is_wide (row-squares base b f fl r from rl)) ∙ wide)))
    (λ any.
    let (i, il, holds) = any_below-some (6 * length base) there any in
    let (late, wide) = and-parts (nat_le (6 * f + 6) i) (is_wide (squares a parents f i)) holds in
    let past = leb-true (6 * f + 6) i late in
    let node : f < i / 6 = omega arith in
    elim (decide_contains (later_of base f) (i / 6)) [
      | inr out ↦ absurd (none_wide (squares a parents f i) (squares-products a parents f i ∙ products-none base b f i i il il node node (inl out)) wide)
      | inl in' ↦
          let (is, lt) = row-at_position (later_of base f) i in' in
          let k = position_of (later_of base f) i in
          let row : row_at base f (6 + k) ≡ i = later-row base f k ∙ is in
          any_below-here n here (6 + k) (omega arith)
          (and_both _ _ (le-leb 6 (6 + k) (omega arith)) (ap is_wide (row-squares base b f fl (6 + k) (omega arith) (omega arith) ∙ ap (λ (x : ℕ). squares a parents f x) row) ∙ wide))
    ])
  where
    a : Entries
    a = matrix_of base

    parents : List (Option ℕ)
    parents = parents_of base

    n : ℕ
    n = 6 * length (places_in base f)

    here : ℕ → Bool
    here r = nat_le 6 r && is_wide (neg_ℤ (left_after (triangle base f) 6 r r))

    there : ℕ → Bool
    there i = nat_le (6 * f + 6) i && is_wide (squares a parents f i)

-- ---- the value
none-below : (n : ℕ) (test : ℕ → Bool) → ((k : ℕ) → k < n → test k ≡ true → ⊥) → first_below n test ≡ None
none-below n test never = at (first_below n test) refl (first_below-finds n test)
  where
    at : (o : Option ℕ) → first_below n test ≡ o → Finds n test o → first_below n test ≡ None
    at None e finds = e
    at (Some k) e finds = absurd (never k finds.in_range finds.here)

-- nothing in the subtree of a front breaks down before it
before-passes : (base : List Front) → IsBase base → (f : ℕ) → ((d : ℕ) → is_parent (parents_of base) f d ≡ true → SubtreePasses base d) → (m : ℕ) → m < f → fails_in_subtree base f m ≡ true → ⊥
before-passes base b f passing m lt holds =
    let (top, fails) = and-parts (is_in_subtree (parents_of base) f m) (node_fails (matrix_of base) (parents_of base) (length base) m) holds in
    let (d, child, inside) = in_child base b f m lt f (is_named f (met_from (parents_of base) f m) top) in
    elim (cases_lt d m) [
      | inl past ↦ false≢true (sym (is_in_subtree-past (parents_of base) d m past) ∙ inside)
      | inr le ↦ subtree-passes base d (passing d child) m le inside fails
    ]

same_breakdown : (a : Entries) (f : ℕ) (o : Option ℕ) (t : Bool) → low_pivot a f ≡ o → option_map (breakdown_of a) (cond (is_some o || t) (Some f) None) ≡ option_map_or (λ freedom. Some (low f freedom)) o (cond t (Some (too_wide f)) None)
same_breakdown a f None true e = ap (λ (o : Option ℕ). Some (option_map_or (low f) o (too_wide f))) e
same_breakdown a f None false e = refl
same_breakdown a f (Some c) t e = ap (λ (o : Option ℕ). Some (option_map_or (low f) o (too_wide f))) e

pub breakdown-same : (base : List Front) → IsBase base → (f : ℕ) → f < length base → ((d : ℕ) → is_parent (parents_of base) f d ≡ true → SubtreePasses base d) →
    space_breakdown f (triangle base f) (length (places_in base f)) ≡ option_map (breakdown_of (matrix_of base)) (first_below (suc f) (fails_in_subtree base f))
breakdown-same base b f fl passing =
    let a = matrix_of base in
    let n = length base in
    let wide = has_large_entry a n f || has_wide_row a (parents_of base) n f in
    ap₂ (λ (o : Option ℕ) (t : Bool). option_map_or (λ freedom. Some (low f freedom)) o (cond t (Some (too_wide f)) None)) (low-same base b f fl)
    (ap₂ (λ (x y : Bool). x || y) (large-same base b f fl) (wide-same base b f fl))
    ∙ sym (same_breakdown a f (low_pivot a f) wide refl)
    ∙ sym (ap (λ (t : Bool). option_map (breakdown_of a) (cond (t && node_fails a (parents_of base) n f) (Some f) None)) (is_in_subtree-own (parents_of base) f))
    ∙ sym (ap (λ (o : Option ℕ). option_map (breakdown_of a) (option_or o (cond (fails_in_subtree base f f) (Some f) None))) (none-below f (fails_in_subtree base f) (before-passes base b f passing)))

pub eliminated-is : (base : List Front) (s : Space) → IsComplete base s → eliminated s ≡ front_value base s.front
eliminated-is base s h =
    ap eliminated h.space
    ∙ ap₂ (λ (o : Option Breakdown) (e : Eliminated). unless o e) (breakdown-same base h.fronts s.front h.front h.passing) (parts-same base h.fronts s.front h.front)
