-- What is stored, read as a whole matrix, and a write to it.
use Rattle.lists.specs.Lists.{list_of}
use Rattle.lists.specs.Listed.{listed}
use Rattle.lists.specs.Order.{place_of}
use Rattle.lists.specs.Rising.{IsRising}
use Rattle.lists.proofs.PlaceLemmas.{place_of-at, place_of-absent, place_of-inside, at_place_of}
use Rattle.std.proofs.Common.{◌≡◌, ℕ, suc, ◌*◌, ◌/◌, ◌%◌, ◌^◌, ◌<◌, ◌≤◌, refl, List, [], length, get_or, set, Contains, ◌⊎◌, inl, inr, ◌∙◌, sym, ap, arith, subst, ℤ, pos}
use Rattle.std.specs.Int.RustNames.{unsigned_abs}
use Rattle.std.proofs.lemmas.Bool.{cases_lt, cases_eq, lt-ltb, le-ltb}
use Rattle.std.proofs.lemmas.List.{get_or-set_same, get_or-set_other, get_or_past, length-set}
use Rattle.std.proofs.lemmas.List.FromFn.{get_or-map-range_with_len, length-map-range_with_len}
use Rattle.sym_blocks.specs.Matrix.{entry, IsSymmetricByBlocks}
use Rattle.sym_blocks.specs.Storage.{flat_index, lower_entry, stored, stored_matrix, IsStorage}

-- ---- the whole matrix
nothing_past : (lists : List (List ℕ)) (n k : ℕ) → length lists ≤ n → Contains (list_of lists n) k → ⊥
nothing_past lists n k le (p, lt, is) =
    let none = get_or_past lists n [] le in
    let P : List ℕ → Type 0 = λ xs. p < length xs in
    let lt' : p < 0 = subst P none lt in
    omega arith

-- a node's row has no more than the blocks of its list
row_short : (lists : List (List ℕ)) (triangle : List (List ℤ)) (n : ℕ) → IsStorage lists triangle → length (list_of triangle n) ≤ 36 * length (list_of lists n)
row_short lists triangle n ok =
    elim (cases_lt n (length lists)) [
      | inl lt ↦ omega (arith, ok.aligned n lt, place_of-inside (list_of lists n) n (ok.pattern.own n lt))
      | inr le ↦ omega (arith, ap length (get_or_past triangle n [] (omega (arith, ok.nodes, le))))
    ]

-- an entry outside the pattern reads 0
lower_outside : (lists : List (List ℕ)) (triangle : List (List ℤ)) (i j : ℕ) → IsStorage lists triangle → (Contains (list_of lists (i / 6)) (j / 6) → ⊥) → lower_entry lists triangle i j ≡ pos 0
lower_outside lists triangle i j ok absent =
    get_or_past (list_of triangle (i / 6)) (flat_index (place_of (j / 6) (list_of lists (i / 6))) i j) (pos 0)
    (omega (arith, row_short lists triangle (i / 6) ok, place_of-absent (list_of lists (i / 6)) (j / 6) absent))

-- an entry below the diagonal, or above it
pub stored_below : (lists : List (List ℕ)) (triangle : List (List ℤ)) (i j : ℕ) → j ≤ i → stored lists triangle i j ≡ lower_entry lists triangle i j
stored_below lists triangle i j le = rw (le-ltb i j le) refl

pub stored_above : (lists : List (List ℕ)) (triangle : List (List ℤ)) (i j : ℕ) → i < j → stored lists triangle i j ≡ lower_entry lists triangle j i
stored_above lists triangle i j lt = rw (lt-ltb i j lt) refl

pub stored_symmetric : (lists : List (List ℕ)) (triangle : List (List ℤ)) (i j : ℕ) → stored lists triangle i j ≡ stored lists triangle j i
stored_symmetric lists triangle i j =
    elim (cases_lt i j) [
      | inl lt ↦ stored_above lists triangle i j lt ∙ sym (stored_below lists triangle j i (omega (arith, lt)))
      | inr ge ↦
          elim (cases_lt j i) [
            | inl lt ↦ stored_below lists triangle i j ge ∙ sym (stored_above lists triangle j i lt)
            | inr le ↦ (let e : i ≡ j = omega (arith, ge, le) in ap (λ (x : ℕ). stored lists triangle x j) e ∙ ap (λ (x : ℕ). stored lists triangle j x) (sym e))
          ]
    ]

pub stored_outside : (lists : List (List ℕ)) (triangle : List (List ℤ)) (i j : ℕ) → IsStorage lists triangle → (Contains (list_of lists (i / 6)) (j / 6) → ⊥) → stored lists triangle i j ≡ pos 0
stored_outside lists triangle i j ok absent =
    elim (cases_lt i j) [
      | inl lt ↦ stored_above lists triangle i j lt ∙ lower_outside lists triangle j i ok (λ h. absent (ok.pattern.converse (j / 6) (i / 6) h))
      | inr ge ↦ stored_below lists triangle i j ge ∙ lower_outside lists triangle i j ok absent
    ]

pub stored_small : (lists : List (List ℕ)) (triangle : List (List ℤ)) (i j : ℕ) → IsStorage lists triangle → unsigned_abs (stored lists triangle i j) < 2 ^ 126
stored_small lists triangle i j ok =
    elim (cases_lt i j) [
      | inl lt ↦ omega (arith, ok.small j i, ap unsigned_abs (stored_above lists triangle i j lt))
      | inr ge ↦ omega (arith, ok.small i j, ap unsigned_abs (stored_below lists triangle i j ge))
    ]

pub entry-stored_matrix : (lists : List (List ℕ)) (triangle : List (List ℤ)) → IsStorage lists triangle → (i j : ℕ) → entry (stored_matrix lists triangle) i j ≡ stored lists triangle i j
entry-stored_matrix lists triangle ok i j =
    let n = 6 * length lists in
    let row = λ (k : ℕ). listed n (stored lists triangle k) in
    elim (cases_lt i n) [
      | inl il ↦
          ap (λ (xs : List ℤ). get_or xs j (pos 0)) (get_or-map-range_with_len row 0 n i i [] il (omega arith))
          ∙ elim (cases_lt j n) [
            | inl jl ↦ get_or-map-range_with_len (stored lists triangle i) 0 n j j (pos 0) jl (omega arith)
            | inr jge ↦
                get_or_past (row i) j (pos 0) (omega (arith, length-map-range_with_len (stored lists triangle i) 0 n))
                ∙ sym (stored_outside lists triangle i j ok (λ q. omega (arith, ok.pattern.in_range (i / 6) (j / 6) q)))
          ]
      | inr ige ↦
          ap (λ (xs : List ℤ). get_or xs j (pos 0)) (get_or_past (listed n row) i [] (omega (arith, length-map-range_with_len row 0 n)))
          ∙ sym (stored_outside lists triangle i j ok (nothing_past lists (i / 6) (j / 6) (omega arith)))
    ]

-- the entry of the matrix below its diagonal
pub lower-stored_matrix : (lists : List (List ℕ)) (triangle : List (List ℤ)) (i j : ℕ) → IsStorage lists triangle → j ≤ i → entry (stored_matrix lists triangle) i j ≡ lower_entry lists triangle i j
lower-stored_matrix lists triangle i j ok le = entry-stored_matrix lists triangle ok i j ∙ stored_below lists triangle i j le

pub IsSymmetricByBlocks-stored_matrix : (lists : List (List ℕ)) (triangle : List (List ℤ)) → IsStorage lists triangle → IsSymmetricByBlocks (stored_matrix lists triangle)
IsSymmetricByBlocks-stored_matrix lists triangle ok =
    let at = entry-stored_matrix lists triangle ok in
    record {
      rising = ok.pattern.rising;
      in_range = ok.pattern.in_range;
      own = ok.pattern.own;
      converse = ok.pattern.converse;
      symmetric = λ i j. at i j ∙ stored_symmetric lists triangle i j ∙ sym (at j i);
      small = λ i j. omega (arith, stored_small lists triangle i j ok, ap unsigned_abs (at i j));
      outside = λ i j absent. at i j ∙ stored_outside lists triangle i j ok absent;
    }

-- ---- a write
-- two pairs of numbers are equal or not
pub cases_both : (i j k l : ℕ) → ((i ≡ j) × (k ≡ l)) ⊎ ((i ≡ j) × (k ≡ l) → ⊥)
cases_both i j k l =
    elim (cases_eq i j) [
      | inl e ↦ elim (cases_eq k l) [ inl f ↦ inl (e, f) | inr apart ↦ inr (λ (_, f). apart f) ]
      | inr apart ↦ inr (λ (e, _). apart e)
    ]

-- a row after a write to it, and the others
abbrev pub written : List (List ℤ) → ℕ → ℕ → ℤ → List (List ℤ)
written triangle n k w = set triangle n (set (list_of triangle n) k w)

-- where a write is made: the column's node stands at place p of the row's list
pub record IsTarget (lists : List (List ℕ)) (row col p : ℕ) : Type 0 where
  pub below : col ≤ row
  pub place : p < length (list_of lists (row / 6))
  pub node : get_or (list_of lists (row / 6)) p 0 ≡ col / 6

target_place : (lists : List (List ℕ)) (triangle : List (List ℤ)) (row col p : ℕ) → IsStorage lists triangle → IsTarget lists row col p → place_of (col / 6) (list_of lists (row / 6)) ≡ p
target_place lists triangle row col p ok at =
    let ns = list_of lists (row / 6) in
    ap (λ (k : ℕ). place_of k ns) (sym at.node) ∙ place_of-at ns p (ok.pattern.rising (row / 6)) at.place

-- what stands at the target
pub lower_target : (lists : List (List ℕ)) (triangle : List (List ℤ)) (row col p : ℕ) → IsStorage lists triangle → IsTarget lists row col p → lower_entry lists triangle row col ≡ get_or (list_of triangle (row / 6)) (flat_index p row col) (pos 0)
lower_target lists triangle row col p ok at = ap (λ (q : ℕ). get_or (list_of triangle (row / 6)) (flat_index q row col) (pos 0)) (target_place lists triangle row col p ok at)

-- a target lies in its row
pub target_inside : (lists : List (List ℕ)) (triangle : List (List ℤ)) (row col p : ℕ) → IsStorage lists triangle → IsTarget lists row col p → (row / 6 < length triangle) × (flat_index p row col < length (list_of triangle (row / 6)))
target_inside lists triangle row col p ok at =
    let n = row / 6 in
    let ns = list_of lists n in
    elim (cases_lt n (length lists)) [
      | inr le ↦ absurd (omega (arith, at.place, ap length (get_or_past lists n [] le)))
      | inl lt ↦
          let own = place_of-inside ns n (ok.pattern.own n lt) in
          let own_at = at_place_of ns n own in
          let no_later : p ≤ place_of n ns =
          elim (cases_lt (place_of n ns) p) [
            | inl later ↦ absurd (omega (arith, ok.pattern.rising n (place_of n ns) p 0 later at.place, own_at, at.node, at.below))
            | inr le ↦ le
          ]
          in
          (omega (arith, ok.nodes, lt), omega (arith, ok.aligned n lt, no_later))
    ]

pub lower-written_same : (lists : List (List ℕ)) (triangle : List (List ℤ)) (row col p : ℕ) (w : ℤ) → IsStorage lists triangle → IsTarget lists row col p → lower_entry lists (written triangle (row / 6) (flat_index p row col) w) row col ≡ w
lower-written_same lists triangle row col p w ok at =
    let n = row / 6 in
    let in' = target_inside lists triangle row col p ok at in
    ap (λ (q : ℕ). get_or (list_of (written triangle n (flat_index p row col) w) n) (flat_index q row col) (pos 0)) (target_place lists triangle row col p ok at)
    ∙ ap (λ (xs : List ℤ). get_or xs (flat_index p row col) (pos 0)) (get_or-set_same triangle n _ [] in'.0)
    ∙ get_or-set_same (list_of triangle n) (flat_index p row col) w (pos 0) in'.1

-- the entries of a row have places of their own
flat_apart : (p q i j k l : ℕ) → flat_index p i j ≡ flat_index q k l → (p ≡ q) × ((i % 6 ≡ k % 6) × (j % 6 ≡ l % 6))
flat_apart p q i j k l e = (omega (arith, e), (omega (arith, e), omega (arith, e)))

-- another entry of the row keeps its place
other_in_row : (lists : List (List ℕ)) (triangle : List (List ℤ)) (row col p i j : ℕ) (w : ℤ) → IsStorage lists triangle → IsTarget lists row col p → i / 6 ≡ row / 6 → ((i ≡ row) × (j ≡ col) → ⊥) →
    get_or (set (list_of triangle (row / 6)) (flat_index p row col) w) (flat_index (place_of (j / 6) (list_of lists (row / 6))) i j) (pos 0) ≡ get_or (list_of triangle (row / 6)) (flat_index (place_of (j / 6) (list_of lists (row / 6))) i j) (pos 0)
other_in_row lists triangle row col p i j w ok at same apart =
    let ns = list_of lists (row / 6) in
    let q = place_of (j / 6) ns in
    get_or-set_other (list_of triangle (row / 6)) (flat_index p row col) (flat_index q i j) w (pos 0)
    (λ e.
    let parts = flat_apart q p i j row col e in
    let node : j / 6 ≡ col / 6 = sym (at_place_of ns (j / 6) (omega (arith, parts.0, at.place))) ∙ ap (λ (x : ℕ). get_or ns x 0) parts.0 ∙ at.node in
    apart (omega (arith, same, parts.1.0), omega (arith, node, parts.1.1)))

pub lower-written_other : (lists : List (List ℕ)) (triangle : List (List ℤ)) (row col p i j : ℕ) (w : ℤ) → IsStorage lists triangle → IsTarget lists row col p → ((i ≡ row) × (j ≡ col) → ⊥) → lower_entry lists (written triangle (row / 6) (flat_index p row col) w) i j ≡ lower_entry lists triangle i j
lower-written_other lists triangle row col p i j w ok at apart =
    let n = row / 6 in
    let new = set (list_of triangle n) (flat_index p row col) w in
    let in' = target_inside lists triangle row col p ok at in
    elim (cases_eq (i / 6) n) [
      | inr other ↦ ap (λ (xs : List ℤ). get_or xs (flat_index (place_of (j / 6) (list_of lists (i / 6))) i j) (pos 0)) (get_or-set_other triangle n (i / 6) new [] other)
      | inl same ↦
          let read = λ (t : List (List ℤ)) (m : ℕ). get_or (list_of t m) (flat_index (place_of (j / 6) (list_of lists m)) i j) (pos 0) in
          ap (read (set triangle n new)) same
          ∙ ap (λ (xs : List ℤ). get_or xs (flat_index (place_of (j / 6) (list_of lists n)) i j) (pos 0)) (get_or-set_same triangle n new [] in'.0)
          ∙ other_in_row lists triangle row col p i j w ok at same apart
          ∙ sym (ap (read triangle) same)
    ]

pub IsStorage-written : (lists : List (List ℕ)) (triangle : List (List ℤ)) (row col p : ℕ) (w : ℤ) → IsStorage lists triangle → IsTarget lists row col p → unsigned_abs w < 2 ^ 126 → IsStorage lists (written triangle (row / 6) (flat_index p row col) w)
IsStorage-written lists triangle row col p w ok at w-small =
    let n = row / 6 in
    let new = set (list_of triangle n) (flat_index p row col) w in
    let in' = target_inside lists triangle row col p ok at in
    let Long = λ (m : ℕ). length (list_of (set triangle n new) m) ≡ length (list_of triangle m) in
    let long : (m : ℕ) → length (list_of (set triangle n new) m) ≡ length (list_of triangle m) =
    λ m.
    elim (cases_eq m n) [
      | inl e ↦ subst Long (sym e) (ap length (get_or-set_same triangle n new [] in'.0) ∙ length-set (list_of triangle n) (flat_index p row col) w)
      | inr apart ↦ ap length (get_or-set_other triangle n m new [] apart)
    ]
    in
    record {
      pattern = ok.pattern;
      nodes = length-set triangle n new ∙ ok.nodes;
      aligned = λ m lt. long m ∙ ok.aligned m lt;
      small = λ i j.
          elim (cases_both i row j col) [
            | inl (e, f) ↦
                (let Small : ℕ → ℕ → Type 0 = λ x y. unsigned_abs (lower_entry lists (set triangle n new) x y) < 2 ^ 126 in
                subst (λ (x : ℕ). Small x j) (sym e) (subst (λ (y : ℕ). Small row y) (sym f)
                (omega (arith, w-small, ap unsigned_abs (lower-written_same lists triangle row col p w ok at)))))
            | inr apart ↦ omega (arith, ok.small i j, ap unsigned_abs (lower-written_other lists triangle row col p i j w ok at apart))
          ];
    }
