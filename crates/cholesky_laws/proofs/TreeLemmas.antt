-- The tree that the later places of fronts make up, and the pattern of their matrix.
use Rattle.std.proofs.Common.{◌≡◌, ℕ, zero, suc, ◌/◌, ◌%◌, ◌<◌, ◌≤◌, true, cond, eqb, List, [], ◌∷◌, length, get_or, Contains, Option, Some, None, ◌∙◌, sym, ap, refl, arith, subst, ◌⊎◌, inl, inr, pos}
use Rattle.std.specs.Prelude.{option_and_then, slice_get}
use Rattle.std.proofs.lemmas.Bool.{cases_lt, cases_eq, eq-eqb, ne_eqb, eqb-true}
use Rattle.std.proofs.lemmas.List.{get_or_past, get_or-map, length-map}
use Rattle.lists.specs.Rows.{position_of}
use Rattle.lists.specs.Order.{place_of}
use Rattle.lists.proofs.PlaceLemmas.{place_of-absent}
use Rattle.elimination.specs.Elimination.{parent_of, is_parent, met_from, is_in_subtree}
use Rattle.cholesky_laws.specs.Fill.{IsOnPattern, IsClosed}
use Rattle.cholesky_laws.specs.Fronts.{Front, no_front, front_at, later_of, places_in, parents_of, matrix_of, IsBase}
use Rattle.cholesky_laws.proofs.SubtreeLemmas.{names}

-- the first of a list
head_parts : (xs : List ℕ) (u : ℕ) → slice_get xs 0 ≡ Some u → Contains xs u
head_parts [] u e = cc
head_parts (x ∷ xs) u e = (0, omega arith, cc)

head_from : (xs : List ℕ) (q : ℕ) → Contains xs q → (u : ℕ) × (slice_get xs 0 ≡ Some u)
head_from [] q (i, lt, is) = absurd (omega arith)
head_from (x ∷ xs) q h = (x, refl)

-- the parent of a front is the first of its later places
pub parent_is : (base : List Front) (u : ℕ) → parent_of (parents_of base) u ≡ slice_get (later_of base u) 0
parent_is base u =
    elim (cases_lt u (length base)) [
      | inl lt ↦ get_or-map (λ (g : Front). slice_get g.later 0) base u no_front None lt
      | inr past ↦
          let long : length (parents_of base) ≡ length base = length-map base (λ (g : Front). slice_get g.later 0) in
          get_or_past (parents_of base) u None (omega (arith, long, past))
          ∙ sym (ap (λ (g : Front). slice_get g.later 0) (get_or_past base u no_front past))
    ]

pub is_named : (n : ℕ) (o : Option ℕ) → names n o ≡ true → o ≡ Some n
is_named n None e = cc
is_named n (Some v) e = ap Some (eqb-true v n e)

pub child_parent : (base : List Front) (f d : ℕ) → is_parent (parents_of base) f d ≡ true → slice_get (later_of base d) 0 ≡ Some f
child_parent base f d e = sym (parent_is base d) ∙ is_named f (parent_of (parents_of base) d) e

pub is_parent_parts : (base : List Front) → IsBase base → (f d : ℕ) → is_parent (parents_of base) f d ≡ true → Contains (later_of base d) f
is_parent_parts base b f d e = head_parts (later_of base d) f (child_parent base f d e)

pub child_below : (base : List Front) → IsBase base → (f d : ℕ) → is_parent (parents_of base) f d ≡ true → d < f
child_below base b f d e = (b.above d f (is_parent_parts base b f d e)).0

-- ---- a later place of a front in a subtree is one of its top's
subtree_rows : (base : List Front) → IsBase base → (m q : ℕ) → Contains (later_of base m) q → (u v : ℕ) → met_from (parents_of base) u m ≡ Some v → v < q → Contains (later_of base v) q
subtree_rows base b m q in' zero v e lt = (let same : m ≡ v = cc in subst (λ (x : ℕ). Contains (later_of base x) q) same in')
subtree_rows base b m q in' (suc u) v e lt = step (subtree_rows base b m q in' u) (met_from (parents_of base) u m) refl e
  where
    step : ((v : ℕ) → met_from (parents_of base) u m ≡ Some v → v < q → Contains (later_of base v) q) → (o : Option ℕ) → met_from (parents_of base) u m ≡ o → option_and_then (λ w. cond (eqb w u) (parent_of (parents_of base) u) (Some w)) o ≡ Some v → Contains (later_of base v) q
    step before None is up = cc
    step before (Some w) is up =
        elim (cases_eq w u) [
          | inl own ↦
              let parent : slice_get (later_of base u) 0 ≡ Some v = sym (parent_is base u) ∙ sym (ap (λ t. cond t (parent_of (parents_of base) u) (Some w)) (eq-eqb w u own)) ∙ up in
              let past = (b.above u v (head_parts (later_of base u) v parent)).0 in
              let here = before u (is ∙ ap Some own) (omega arith) in
              elim (b.closed u v q parent here) [ inl e ↦ absurd (omega arith) | inr h ↦ h ]
          | inr apart ↦
              let same : w ≡ v = some_is (sym (ap (λ t. cond t (parent_of (parents_of base) u) (Some w)) (ne_eqb w u apart)) ∙ up) in
              before v (is ∙ ap Some same) lt
        ]
      where
        some_is : {x y : ℕ} → Some x ≡ Some y → x ≡ y
        some_is h = cc

pub rows_of_subtree : (base : List Front) → IsBase base → (n m q : ℕ) → is_in_subtree (parents_of base) n m ≡ true → Contains (later_of base m) q → n < q → Contains (later_of base n) q
rows_of_subtree base b n m q top in' lt = subtree_rows base b m q in' n n (is_named n (met_from (parents_of base) n m) top) lt

-- ---- a front is in the subtree of each of its later places
abbrev MeetsAt : List Front → ℕ → ℕ → ℕ → Type 0
MeetsAt base m n u = (v : ℕ) × (met_from (parents_of base) u m ≡ Some v) × (u ≤ v) × (v ≤ n) × ((v ≡ n) ⊎ Contains (later_of base v) n)

way_up : (base : List Front) → IsBase base → (m n : ℕ) → m < n → Contains (later_of base m) n → (u : ℕ) → u ≤ n → MeetsAt base m n u
way_up base b m n lt in' zero le = (m, refl, omega arith, omega arith, inr in')
way_up base b m n lt in' (suc u) le = step (way_up base b m n lt in' u (omega arith))
  where
    onward : (v : ℕ) → met_from (parents_of base) u m ≡ Some v → met_from (parents_of base) (suc u) m ≡ cond (eqb v u) (parent_of (parents_of base) u) (Some v)
    onward v e = ap (λ o. option_and_then (λ w. cond (eqb w u) (parent_of (parents_of base) u) (Some w)) o) e

    from_parent : Contains (later_of base u) n → met_from (parents_of base) u m ≡ Some u → MeetsAt base m n (suc u)
    from_parent in'' e =
        let (p, parent) = head_from (later_of base u) n in'' in
        let past = (b.above u p (head_parts (later_of base u) p parent)).0 in
        let met = onward u e ∙ ap (λ t. cond t (parent_of (parents_of base) u) (Some u)) (eq-eqb u u refl) ∙ parent_is base u ∙ parent in
        elim (b.closed u p n parent in'') [
          | inl same ↦ (p, met, omega arith, omega arith, inl (sym same))
          | inr further ↦ (let bound = (b.above p n further).0 in (p, met, omega arith, omega arith, inr further))
        ]

    step : MeetsAt base m n u → MeetsAt base m n (suc u)
    step (v, e, from, to, r) =
        elim (cases_eq v u) [
          | inr apart ↦ (v, onward v e ∙ ap (λ t. cond t (parent_of (parents_of base) u) (Some v)) (ne_eqb v u apart), omega arith, to, r)
          | inl own ↦
              elim r [
                | inl end ↦ absurd (omega arith)
                | inr in'' ↦ from_parent (subst (λ (x : ℕ). Contains (later_of base x) n) own in'') (e ∙ ap Some own)
              ]
        ]

pub later_in_subtree : (base : List Front) → IsBase base → (m n : ℕ) → Contains (later_of base m) n → is_in_subtree (parents_of base) n m ≡ true
later_in_subtree base b m n in' =
    let lt = (b.above m n in').0 in
    let (v, e, from, to, r) = way_up base b m n lt in' n (omega arith) in
    ap (names n) e ∙ eq-eqb v n (omega arith)

-- ---- the pattern
-- a front reaches its later places
abbrev pub reaches : List Front → ℕ → ℕ → Type 0
reaches base p q = Contains (later_of base p) q

pub IsClosed-reaches : (base : List Front) → IsBase base → IsClosed (reaches base) (length base)
IsClosed-reaches base b k p q lt in' kp kq = rows_of_subtree base b p k q (later_in_subtree base b k p kp) kq lt

pub IsOnPattern-matrix_of : (base : List Front) → IsBase base → IsOnPattern (matrix_of base) (reaches base) (length base)
unfolding matrix_of
IsOnPattern-matrix_of base b i j in' below absent =
    let f = j / 6 in
    let out : place_of (i / 6) (places_in base f) ≡ length (places_in base f) = place_of-absent (places_in base f) (i / 6) (none f (i / 6) below absent) in
    get_or_past (get_or (front_at base f).own (j % 6) []) (position_of (places_in base f) i) (pos 0) (omega (arith, b.whole f (j % 6), out))
  where
    none : (f q : ℕ) → f < q → (Contains (later_of base f) q → ⊥) → Contains (f ∷ later_of base f) q → ⊥
    none f q lt absent (zero, in', is) = omega (arith, is)
    none f q lt absent (suc k, in', is) = absent (k, omega arith, is)

-- ---- children
-- m is in the subtree of a child of n
abbrev pub HasChild : List Front → ℕ → ℕ → Type 0
HasChild base n m = (d : ℕ) × (is_parent (parents_of base) n d ≡ true) × (is_in_subtree (parents_of base) d m ≡ true)

pub in_child : (base : List Front) → IsBase base → (n m : ℕ) → m < n → (u : ℕ) → met_from (parents_of base) u m ≡ Some n → HasChild base n m
in_child base b n m lt zero e = (let same : m ≡ n = cc in absurd (omega arith))
in_child base b n m lt (suc u) e = step (in_child base b n m lt u) (met_from (parents_of base) u m) refl e
  where
    step : (met_from (parents_of base) u m ≡ Some n → HasChild base n m) → (o : Option ℕ) → met_from (parents_of base) u m ≡ o → option_and_then (λ w. cond (eqb w u) (parent_of (parents_of base) u) (Some w)) o ≡ Some n → HasChild base n m
    step before None is up = cc
    step before (Some w) is up =
        elim (cases_eq w u) [
          | inl own ↦
              let parent : parent_of (parents_of base) u ≡ Some n = sym (ap (λ t. cond t (parent_of (parents_of base) u) (Some w)) (eq-eqb w u own)) ∙ up in
              (u, ap (names n) parent ∙ eq-eqb n n refl, ap (names u) is ∙ eq-eqb w u own)
          | inr apart ↦
              let same : Some w ≡ Some n = sym (ap (λ t. cond t (parent_of (parents_of base) u) (Some w)) (ne_eqb w u apart)) ∙ up in
              before (is ∙ same)
        ]
