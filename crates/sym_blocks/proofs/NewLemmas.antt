-- The matrix of zeros that pairs make.
use Rattle.lists.specs.Lists.{list_of, LinksLists}
use Rattle.std.proofs.Common.{◌≡◌, ℕ, ◌/◌, ◌%◌, ◌<◌, ◌≤◌, List, [], ◌∷◌, suc, ◌*◌, length, get_or, replicate, Contains, All, inl, inr, ◌↔◌, ◌∙◌, sym, ap, refl, arith, subst, ℤ, pos}
use Rattle.std.specs.Int.RustNames.{unsigned_abs}
use Rattle.std.proofs.lemmas.Bool.{cases_lt}
use Rattle.std.proofs.lemmas.List.{get_or_past, get_or-map, length-map, length-replicate, get_or-replicate}
use Rattle.std.proofs.lemmas.List.Elements.{All-contains}
use Rattle.std.proofs.lemmas.List.FromFn.{get_or-map-range_with_len, length-map-range_with_len}
use Rattle.lists.specs.Rising.{IsRising}
use Rattle.lists.specs.Order.{place_of}
use Rattle.sym_blocks.specs.Matrix.{entry, IsLinked}
use Rattle.sym_blocks.specs.Storage.{own_lists_of, zero_row_of, zero_triangle_of, flat_index, lower_entry, stored_matrix, IsPattern, IsStorage}
use Rattle.sym_blocks.proofs.StorageLemmas.{entry-stored_matrix, stored_below, stored_above}

-- ---- each node with itself alone
pub length-own_lists_of : (nodes : ℕ) → length (own_lists_of nodes) ≡ nodes
length-own_lists_of nodes = length-map-range_with_len (λ n. n ∷ []) 0 nodes

own_at : (nodes n : ℕ) → n < nodes → list_of (own_lists_of nodes) n ≡ n ∷ []
own_at nodes n lt = get_or-map-range_with_len (λ n. n ∷ []) 0 nodes n n [] lt (omega arith)

own_past : (nodes n : ℕ) → nodes ≤ n → list_of (own_lists_of nodes) n ≡ []
own_past nodes n le = get_or_past (own_lists_of nodes) n [] (omega (arith, length-own_lists_of nodes))

pub IsRising-own : (nodes n : ℕ) → IsRising (list_of (own_lists_of nodes) n)
IsRising-own nodes n i j d lt in' =
    elim (cases_lt n nodes) [
      | inl within ↦ absurd (omega (arith, ap length (own_at nodes n within)))
      | inr past ↦ absurd (omega (arith, ap length (own_past nodes n past)))
    ]

Contains-own : (nodes n k : ℕ) → Contains (list_of (own_lists_of nodes) n) k ↔ ((n ≡ k) × (n < nodes))
Contains-own nodes n k = (
  λ (i, lt, is).
      elim (cases_lt n nodes) [
        | inl within ↦
            (let P : List ℕ → Type 0 = λ xs. (i < length xs) × (get_or xs i k ≡ k) in
            let at = subst P (own_at nodes n within) (lt, is) in
            let first : i ≡ 0 = omega (arith, at.0) in
            let Q : ℕ → Type 0 = λ x. get_or (n ∷ []) x k ≡ k in
            (subst Q first at.1, within))
        | inr past ↦
            (let P : List ℕ → Type 0 = λ xs. i < length xs in
            absurd (omega (arith, subst P (own_past nodes n past) lt)))
      ],
  λ (e, within).
      let P : List ℕ → Type 0 = λ xs. Contains xs k in
      subst P (sym (own_at nodes n within)) (0, omega arith, e),
)

-- ---- zeros
zero_row_at : (lists : List (List ℕ)) (n : ℕ) → n < length lists → list_of (zero_triangle_of lists) n ≡ zero_row_of lists n
zero_row_at lists n lt = get_or-map-range_with_len (zero_row_of lists) 0 (length lists) n n [] lt (omega arith)

pub zero_at : (count k : ℕ) → get_or (replicate count (pos 0)) k (pos 0) ≡ pos 0
zero_at count k =
    elim (cases_lt k count) [
      | inl lt ↦ get_or-replicate count k (pos 0) (pos 0) lt
      | inr ge ↦ get_or_past (replicate count (pos 0)) k (pos 0) (omega (arith, length-replicate count (pos 0), ge))
    ]

lower-zero : (lists : List (List ℕ)) (i j : ℕ) → lower_entry lists (zero_triangle_of lists) i j ≡ pos 0
lower-zero lists i j =
    let k = flat_index (place_of (j / 6) (list_of lists (i / 6))) i j in
    elim (cases_lt (i / 6) (length lists)) [
      | inl lt ↦
          ap (λ (xs : List ℤ). get_or xs k (pos 0)) (zero_row_at lists (i / 6) lt)
          ∙ zero_at (36 * suc (place_of (i / 6) (list_of lists (i / 6)))) k
      | inr ge ↦
          ap (λ (xs : List ℤ). get_or xs k (pos 0)) (get_or_past (zero_triangle_of lists) (i / 6) [] (omega (arith, length-map-range_with_len (zero_row_of lists) 0 (length lists), ge)))
    ]

-- ---- the whole
pub members_linked : (nodes : ℕ) (lists : List (List ℕ)) (pairs : List (ℕ × ℕ)) → LinksLists (own_lists_of nodes) lists pairs → (n k : ℕ) → Contains (list_of lists n) k ↔ IsLinked nodes pairs n k
members_linked nodes lists pairs links n k = (
  λ h. elim ((links.members n k).0 h) [ inl own ↦ inl ((Contains-own nodes n k).0 own) | inr pair ↦ inr pair ],
  λ h. (links.members n k).1 (elim h [ inl own ↦ inl ((Contains-own nodes n k).1 own) | inr pair ↦ inr pair ]),
)

pub IsPattern-linked : (nodes : ℕ) (lists : List (List ℕ)) (pairs : List (ℕ × ℕ)) → All (λ (p : ℕ × ℕ). (p.0 < nodes) × (p.1 < nodes)) pairs → LinksLists (own_lists_of nodes) lists pairs → IsPattern lists
IsPattern-linked nodes lists pairs within links =
    let count : length lists ≡ nodes = links.count ∙ length-own_lists_of nodes in
    let linked = members_linked nodes lists pairs links in
    let pair_in = λ (n k : ℕ) (h : Contains {X = ℕ × ℕ} pairs (n, k)). All-contains (λ (p : ℕ × ℕ). (p.0 < nodes) × (p.1 < nodes)) pairs (n, k) within h in
    record {
      rising = links.rising;
      in_range = λ n k h.
          elim ((linked n k).0 h) [
            | inl (e, lt) ↦ omega (arith, e, lt, count)
            | inr (inl pair) ↦ omega (arith, count, (pair_in n k pair).1)
            | inr (inr pair) ↦ omega (arith, count, (pair_in k n pair).0)
          ];
      own = λ n lt. (linked n n).1 (inl (refl, omega (arith, count, lt)));
      converse = λ n k h.
          (linked k n).1
          (elim ((linked n k).0 h) [
            | inl (e, lt) ↦ inl (sym e, omega (arith, e, lt))
            | inr (inl pair) ↦ inr (inr pair)
            | inr (inr pair) ↦ inr (inl pair)
          ]);
    }

pub IsStorage-zero : (lists : List (List ℕ)) → IsPattern lists → IsStorage lists (zero_triangle_of lists)
IsStorage-zero lists pattern =
    record {
      pattern = pattern;
      nodes = length-map-range_with_len (zero_row_of lists) 0 (length lists);
      aligned = λ n lt. ap length (zero_row_at lists n lt) ∙ length-replicate (36 * suc (place_of n (list_of lists n))) (pos 0);
      small = λ i j. omega (arith, ap unsigned_abs (lower-zero lists i j));
    }

pub entry-zero : (lists : List (List ℕ)) → IsPattern lists → (i j : ℕ) → entry (stored_matrix lists (zero_triangle_of lists)) i j ≡ pos 0
entry-zero lists pattern i j =
    entry-stored_matrix lists (zero_triangle_of lists) (IsStorage-zero lists pattern) i j
    ∙ elim (cases_lt i j) [
      | inl lt ↦ stored_above lists (zero_triangle_of lists) i j lt ∙ lower-zero lists j i
      | inr ge ↦ stored_below lists (zero_triangle_of lists) i j ge ∙ lower-zero lists i j
    ]
