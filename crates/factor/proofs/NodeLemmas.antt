-- A node's panel, from what is left for its rows and from its children's sums.
use Rattle.std.proofs.Common.{◌≡◌, ℕ, zero, suc, ◌+◌, ◌-◌, ◌*◌, ◌/◌, ◌%◌, ◌^◌, ◌<◌, ◌≤◌, List, Option, length, get_or, Contains, All, ◌∙◌, sym, ap, refl, arith, subst, inl, inr, ℤ, pos, ◌+ℤ◌, ◌-ℤ◌, ◌*ℤ◌, ◌≤ℤ◌, ◌<ℤ◌}
use Rattle.std.specs.Int.RustNames.{unsigned_abs}
use Rattle.std.proofs.lemmas.Int.{ints}
use Rattle.std.proofs.lemmas.Bool.{cases_lt, cases_eq}
use Rattle.std.proofs.lemmas.List.{get_or_default, get_or_past}
use Rattle.int_laws.specs.Sums.{sum_below}
use Rattle.int_laws.proofs.Sums.{int_sums}
use Rattle.int_laws.proofs.SumLaws.{sum_below-same, sum_below-zero}
use Rattle.lists.specs.Rising.{IsRising}
use Rattle.lists.specs.Order.{place_of}
use Rattle.lists.proofs.PlaceLemmas.{place_of-at, at_place_of}
use Rattle.cholesky_laws.specs.Laws.{HoldsRemainder, RecurrenceLaws}
use Rattle.cholesky_laws.specs.Recurrence.{cholesky, left_after, pivot}
use Rattle.cholesky_laws.specs.Breakdown.{Passes, squares, BreaksAtPivot, HasLargeEntry, HasWideRow}
use Rattle.factor.specs.Panel.{IsPanel, AllSmall, kept_for, by_rows}
use Rattle.factor.specs.Eliminate.{IsEliminated, IsPanelBreakdown}
use Rattle.factor.specs.Scalar.{IsBreakdownAt, fault_of}
use Rattle.factor.specs.declared.eliminate.Breakdown.{Breakdown}
use Rattle.factor.specs.declared.eliminate.Breakdown.TheVariants.{Pivot, Wide, NoMemory}
use Rattle.factor.specs.Squares.{total_squares, AddsSquares, HasWideSum}
use Rattle.sym_blocks.specs.Matrix.{Matrix}
use Rattle.factor.specs.declared.panel.Panel.{Panel}
use Rattle.factor.specs.State.{IsSchurComplement, AreChildSums, IsFront}
use Rattle.factor.proofs.GatherLemmas.{kept_for-past}

-- a rising list that begins at n or later, and has n
pub record IsOwnFront (size n : ℕ) (nodes : List ℕ) : Type 0 where
  pub rising : IsRising nodes
  pub from_own : All (λ q. (n ≤ q) × (q < size)) nodes
  pub own : Contains nodes n

-- the position of a row of the panel
abbrev pub position : List ℕ → ℕ → ℕ
position nodes r = 6 * get_or nodes (r / 6) 0 + r % 6

pub first_is : {size n : ℕ} {nodes : List ℕ} → IsOwnFront size n nodes → (0 < length nodes) × (get_or nodes 0 0 ≡ n)
first_is {size} {n} {nodes} f =
    let v = f.own.0 in
    let vl = f.own.1 in
    let some : 0 < length nodes = omega arith in
    let here : get_or nodes v 0 ≡ n = get_or_default nodes v 0 n vl ∙ f.own.2 in
    let first = f.from_own 0 0 some in (
      some,
      elim (cases_eq v 0) [
        | inl e ↦ ap (λ (x : ℕ). get_or nodes x 0) (sym e) ∙ here
        | inr apart ↦ (let up = f.rising 0 v 0 (omega arith) vl in omega (arith, first.0))
      ],
    )

pub later_is : {size n : ℕ} {nodes : List ℕ} → IsOwnFront size n nodes → (p : ℕ) → 0 < p → p < length nodes → n < get_or nodes p 0
later_is {size} {n} {nodes} f p some lt =
    let up = f.rising 0 p 0 some lt in
    let first = (first_is f).1 in
    omega arith

-- what is left is that of the panel
pub panel_left : {a : ℕ → ℕ → ℤ} {size n : ℕ} {nodes : List ℕ} {work : List ℤ} → IsOwnFront size n nodes → IsSchurComplement a size n nodes work → HoldsRemainder a (by_rows work) (6 * n) (6 * length nodes) (position nodes)
panel_left {a} {size} {n} {nodes} {work} f w =
    let first = first_is f in
    let some = first.0 in
    record {
      whole = omega arith;
      left = λ r c rl cl cr.
          let p = r / 6 in
          let p-in : p < length nodes = omega arith in
          let q = get_or nodes p 0 in
          let t = 6 * (r % 6) + c in
          let place = place_of-at nodes p f.rising p-in in
          let bounds = f.from_own p 0 p-in in
          let at : 6 * r + c ≡ 36 * place_of q nodes + t = omega arith in
          let row : t / 6 ≡ r % 6 = omega arith in
          let column : t % 6 ≡ c = omega arith in
          ap (λ (x : ℕ). get_or work x (pos 0)) at
          ∙ w.holds q t bounds.0 bounds.1 (omega arith)
          ∙ ap (λ (x : ℕ). left_after a (6 * n) (6 * q + x) (6 * n + t % 6)) row
          ∙ ap (λ (x : ℕ). left_after a (6 * n) (6 * q + r % 6) (6 * n + x)) column;
      own = λ c cl.
          let low : c / 6 ≡ 0 = omega arith in
          let rest : c % 6 ≡ c = omega arith in
          ap (λ (x : ℕ). 6 * get_or nodes x 0 + c % 6) low ∙ ap (λ (x : ℕ). 6 * x + c % 6) first.1 ∙ ap (λ (x : ℕ). 6 * n + x) rest;
      later = λ r from rl.
          let past = later_is f (r / 6) (omega arith) (omega arith) in
          omega arith;
    }

-- a row in which nothing is left
zero_row : RecurrenceLaws → (a : ℕ → ℕ → ℤ) (n i : ℕ) → 6 * n + 6 ≤ i → ((c : ℕ) → c < 6 → left_after a (6 * n) i (6 * n + c) ≡ pos 0) → (m : ℕ) → m ≤ 6 → (c : ℕ) → c < 6 → left_after a (6 * n + m) i (6 * n + c) ≡ pos 0
zero_row laws a n i past none zero le c cl =
    let here : 6 * n + 0 ≡ 6 * n = omega arith in
    ap (λ (x : ℕ). left_after a x i (6 * n + c)) here ∙ none c cl
zero_row laws a n i past none (suc m) le c cl =
    let here : 6 * n + suc m ≡ suc (6 * n + m) = omega arith in
    let entry = laws.entries.nothing_left a i (6 * n + m) (omega arith) (zero_row laws a n i past none m (omega arith) m (omega arith)) in
    ap (λ (x : ℕ). left_after a x i (6 * n + c)) here
    ∙ laws.remainders.next a (6 * n + m) i (6 * n + c)
    ∙ ap (λ z. z -ℤ (cholesky a i (6 * n + m) *ℤ cholesky a (6 * n + c) (6 * n + m))) (zero_row laws a n i past none m (omega arith) c cl)
    ∙ ap (λ z. pos 0 -ℤ (z *ℤ cholesky a (6 * n + c) (6 * n + m))) entry
    ∙ none_left (cholesky a (6 * n + c) (6 * n + m))
  where
    none_left : (z : ℤ) → pos 0 -ℤ (pos 0 *ℤ z) ≡ pos 0
    none_left z = omega (arith, ints)

-- the entries kept are those of the factor
pub entry_kept : RecurrenceLaws → {a : ℕ → ℕ → ℤ} {size n : ℕ} {nodes : List ℕ} {work entries : List ℤ} → IsOwnFront size n nodes → IsSchurComplement a size n nodes work → IsEliminated (by_rows work) (length work) entries → (q r c : ℕ) → n ≤ q → q < size → r < 6 → c < 6 → kept_for 36 nodes entries q (6 * r + c) ≡ cholesky a (6 * q + r) (6 * n + c)
entry_kept laws {a} {size} {n} {nodes} {work} {entries} f w e q r c nq qs rl cl =
    let p = place_of q nodes in
    elim (cases_lt p (length nodes)) [
      | inl lt ↦
          (let s = 36 * p + (6 * r + c) in
          let row : s / 6 ≡ 6 * p + r = omega arith in
          let column : s % 6 ≡ c = omega arith in
          let node : (6 * p + r) / 6 ≡ p = omega arith in
          let rest : (6 * p + r) % 6 ≡ r = omega arith in
          e.values s (omega (arith, w.whole))
          ∙ ap (λ (x : ℕ). cholesky (by_rows work) x (s % 6)) row
          ∙ ap (λ (x : ℕ). cholesky (by_rows work) (6 * p + r) x) column
          ∙ laws.panels.entries _ _ _ _ _ (panel_left f w) (6 * p + r) c (omega arith) cl
          ∙ ap (λ (x : ℕ). cholesky a (6 * get_or nodes x 0 + (6 * p + r) % 6) (6 * n + c)) node
          ∙ ap (λ (x : ℕ). cholesky a (6 * x + (6 * p + r) % 6) (6 * n + c)) (at_place_of nodes q lt)
          ∙ ap (λ (x : ℕ). cholesky a (6 * q + x) (6 * n + c)) rest)
      | inr ge ↦
          let apart : q ≡ n → ⊥ = λ same. absent_own f q same ge in
          let none : (k : ℕ) → k < 6 → left_after a (6 * n) (6 * q + r) (6 * n + k) ≡ pos 0 =
          λ k kl.
          let row : (6 * r + k) / 6 ≡ r = omega arith in
          let column : (6 * r + k) % 6 ≡ k = omega arith in
          ap (λ (x : ℕ). left_after a (6 * n) (6 * q + x) (6 * n + k)) (sym row)
          ∙ ap (λ (x : ℕ). left_after a (6 * n) (6 * q + (6 * r + k) / 6) (6 * n + x)) (sym column)
          ∙ sym (w.holds q (6 * r + k) nq qs (omega arith))
          ∙ kept_for-past 36 nodes work q (6 * r + k) (omega (arith, w.whole)) ge
          in
          let past : 6 * n + 6 ≤ 6 * q + r = (let differ = apart in omega arith) in
          kept_for-past 36 nodes entries q (6 * r + c) (omega (arith, w.whole, e.whole)) ge
          ∙ sym (laws.entries.nothing_left a (6 * q + r) (6 * n + c) (omega arith) (zero_row laws a n (6 * q + r) past none c (omega arith) c cl))
    ]
  where
    absent_own : {size n : ℕ} {nodes : List ℕ} → IsOwnFront size n nodes → (q : ℕ) → q ≡ n → length nodes ≤ place_of q nodes → ⊥
    absent_own {size} {n} {nodes} f q same ge =
        let first = first_is f in
        let place : place_of q nodes ≡ 0 = ap (λ (x : ℕ). place_of x nodes) (same ∙ sym first.1) ∙ place_of-at nodes 0 f.rising first.0 in
        omega (arith, first.0)

-- the sums with a row's own squares
pub sums_kept : (nodes : List ℕ) (old new entries : List ℤ) → length old ≡ 6 * length nodes → length new ≡ 6 * length nodes → length entries ≡ 36 * length nodes → AddsSquares old new entries → (q r : ℕ) → r < 6 → kept_for 6 nodes new q r ≡ kept_for 6 nodes old q r +ℤ sum_below 6 (λ c. kept_for 36 nodes entries q (6 * r + c) *ℤ kept_for 36 nodes entries q (6 * r + c))
sums_kept nodes old new entries ol nl el adds q r rl =
    let p = place_of q nodes in
    elim (cases_lt p (length nodes)) [
      | inl lt ↦
          adds.totals (6 * p + r) (omega arith)
          ∙ ap (λ z. get_or old (6 * p + r) (pos 0) +ℤ z)
          (sum_below-same 6 (λ c. by_rows entries (6 * p + r) c *ℤ by_rows entries (6 * p + r) c) (λ c. kept_for 36 nodes entries q (6 * r + c) *ℤ kept_for 36 nodes entries q (6 * r + c))
          (λ c cl.
          let at : 6 * (6 * p + r) + c ≡ 36 * p + (6 * r + c) = omega arith in
          ap (λ (x : ℕ). get_or entries x (pos 0) *ℤ get_or entries x (pos 0)) at))
      | inr ge ↦
          kept_for-past 6 nodes new q r (omega arith) ge
          ∙ two_none (kept_for 6 nodes old q r) (sum_below 6 (λ c. kept_for 36 nodes entries q (6 * r + c) *ℤ kept_for 36 nodes entries q (6 * r + c)))
          (kept_for-past 6 nodes old q r (omega arith) ge)
          (sum_below-zero 6 (λ c. kept_for 36 nodes entries q (6 * r + c) *ℤ kept_for 36 nodes entries q (6 * r + c))
          (λ c cl. ap (λ z. z *ℤ z) (kept_for-past 36 nodes entries q (6 * r + c) (omega arith) ge)))
    ]
  where
    two_none : (x y : ℤ) → x ≡ pos 0 → y ≡ pos 0 → pos 0 ≡ x +ℤ y
    two_none x y xn yn = omega (arith, int_sums)

plus_swap : (x y : ℤ) → x +ℤ y ≡ y +ℤ x
plus_swap x y = omega (arith, int_sums)

-- a row's squares over the subtree
pub row_squares_are : RecurrenceLaws → {a : ℕ → ℕ → ℤ} {parents : List (Option ℕ)} {size n : ℕ} {nodes : List ℕ} {old work entries : List ℤ} → IsOwnFront size n nodes → IsSchurComplement a size n nodes work → IsEliminated (by_rows work) (length work) entries → AreChildSums a parents size n nodes old → (q r : ℕ) → n ≤ q → q < size → r < 6 → kept_for 6 nodes old q r +ℤ sum_below 6 (λ c. kept_for 36 nodes entries q (6 * r + c) *ℤ kept_for 36 nodes entries q (6 * r + c)) ≡ squares a parents n (6 * q + r)
row_squares_are laws {a} {parents} {size} {n} {nodes} {old} {work} {entries} f w e s q r nq qs rl =
    ap (λ z. kept_for 6 nodes old q r +ℤ z)
    (sum_below-same 6 (λ c. kept_for 36 nodes entries q (6 * r + c) *ℤ kept_for 36 nodes entries q (6 * r + c)) (λ c. cholesky a (6 * q + r) (6 * n + c) *ℤ cholesky a (6 * q + r) (6 * n + c))
    (λ c cl. ap (λ z. z *ℤ z) (entry_kept laws f w e q r c nq qs rl cl)))
    ∙ ap (λ z. z +ℤ (sum_below 6 (λ c. cholesky a (6 * q + r) (6 * n + c) *ℤ cholesky a (6 * q + r) (6 * n + c)))) (s.holds q r nq qs rl)
    ∙ plus_swap _ ((sum_below 6 (λ c. cholesky a (6 * q + r) (6 * n + c) *ℤ cholesky a (6 * q + r) (6 * n + c))))
    ∙ sym (laws.subtrees.children a parents n (6 * q + r))

-- a node's pivots
pub node_pivots : RecurrenceLaws → {a : ℕ → ℕ → ℤ} {size n : ℕ} {nodes : List ℕ} {work : List ℤ} → IsOwnFront size n nodes → IsSchurComplement a size n nodes work → (m : ℕ) → m ≤ 6 → ((c : ℕ) → c < m → pos 1 ≤ℤ pivot (by_rows work) c) → (j : ℕ) → 6 * n ≤ j → j < 6 * n + m → pos 1 ≤ℤ pivot a j
node_pivots laws {a} {size} {n} {nodes} {work} f w m le pivots j from lt =
    let c = j - 6 * n in
    let at : 6 * n + c ≡ j = omega arith in
    let P : ℕ → Type 0 = λ x. pos 1 ≤ℤ pivot a x in
    subst P at (rw (← laws.panels.pivots _ _ _ _ _ (panel_left f w) c (omega arith)) (pivots c (omega arith)))

-- the node's columns, whole
pub node_panel : RecurrenceLaws → {a : ℕ → ℕ → ℤ} {parents : List (Option ℕ)} {size n : ℕ} {nodes : List ℕ} {old new work entries : List ℤ} → n < size → IsOwnFront size n nodes → IsSchurComplement a size n nodes work → IsEliminated (by_rows work) (length work) entries → AreChildSums a parents size n nodes old → length new ≡ length old → AddsSquares old new entries → IsPanel a parents size n nodes entries new
node_panel laws {a} {parents} {size} {n} {nodes} {old} {new} {work} {entries} in' f w e s len adds =
    record {
      rising = f.rising;
      from_own = f.from_own;
      own = f.own;
      whole = e.whole ∙ w.whole;
      sums_whole = len ∙ s.whole;
      small = e.small;
      entry = λ q r c nq qs rl cl. entry_kept laws f w e q r c nq qs rl cl;
      squares_are = λ q r nq qs rl. sums_kept nodes old new entries s.whole (len ∙ s.whole) (e.whole ∙ w.whole) adds q r rl ∙ row_squares_are laws f w e s q r nq qs rl;
    }

-- numbers kept are small
kept_small : (width : ℕ) (nodes : List ℕ) (entries : List ℤ) (q s : ℕ) → AllSmall entries → unsigned_abs (kept_for width nodes entries q s) < 2 ^ 57
kept_small width nodes entries q s small =
    let at = width * place_of q nodes + s in
    elim (cases_lt at (length entries)) [
      | inl lt ↦ small at (pos 0) lt
      | inr ge ↦ rw (get_or_past entries at (pos 0) ge) (omega (arith))
    ]

-- the node passes
pub node_passes : RecurrenceLaws → {a : ℕ → ℕ → ℤ} {parents : List (Option ℕ)} {size n : ℕ} {nodes : List ℕ} {old new work entries : List ℤ} → n < size → IsOwnFront size n nodes → IsSchurComplement a size n nodes work → IsEliminated (by_rows work) (length work) entries → AreChildSums a parents size n nodes old → length new ≡ length old → AddsSquares old new entries → Passes a parents size n
node_passes laws {a} {parents} {size} {n} {nodes} {old} {new} {work} {entries} in' f w e s len adds =
    let panel = node_panel laws in' f w e s len adds in
    record {
      pivots = λ j at. node_pivots laws f w 6 (omega arith) e.pivots j at.0 at.1;
      small = λ i j il at.
          elim (cases_lt i (6 * n)) [
            | inl above ↦ rw (laws.entries.above a i j (omega (arith, at.0))) (omega arith)
            | inr from ↦
                let q = i / 6 in
                let r = i % 6 in
                let c = j - 6 * n in
                let row : 6 * q + r ≡ i = omega arith in
                let column : 6 * n + c ≡ j = omega (arith, at.0) in
                let is : kept_for 36 nodes entries q (6 * r + c) ≡ cholesky a i j =
                entry_kept laws f w e q r c (omega arith) (omega arith) (omega arith) (omega (arith, at.0, at.1))
                ∙ ap (λ (x : ℕ). cholesky a x (6 * n + c)) row
                ∙ ap (λ (x : ℕ). cholesky a i x) column
                in
                rw (← is) (kept_small 36 nodes entries q (6 * r + c) e.small)
          ];
      narrow = λ i past.
          let q = i / 6 in
          let r = i % 6 in
          let row : 6 * q + r ≡ i = omega arith in
          let is : kept_for 6 nodes new q r ≡ squares a parents n i =
          panel.squares_are q r (omega (arith, past.0)) (omega (arith, past.1)) (omega arith) ∙ ap (λ (x : ℕ). squares a parents n x) row
          in
          rw (← is)
          (elim (cases_lt (place_of q nodes) (length nodes)) [
            | inl lt ↦
                let p = place_of q nodes in
                let at : get_or nodes p 0 ≡ q = at_place_of nodes q lt in
                let later : 0 < p =
                elim (cases_eq p 0) [
                  | inl e ↦ (let same : n ≡ q = sym (first_is f).1 ∙ ap (λ (x : ℕ). get_or nodes x 0) (sym e) ∙ at in absurd (omega (arith, past.0)))
                  | inr apart ↦ omega arith
                ]
                in
                rw (adds.totals (6 * p + r) (omega (arith, s.whole))) (adds.narrow (6 * p + r) (omega arith) (omega (arith, s.whole)))
            | inr ge ↦ rw (kept_for-past 6 nodes new q r (omega (arith, len, s.whole)) ge) (omega (arith, int_sums))
          ]);
    }

-- a row's total is its squares over the subtree
pub wide_row : RecurrenceLaws → {a : ℕ → ℕ → ℤ} {parents : List (Option ℕ)} {size n : ℕ} {nodes : List ℕ} {old work entries : List ℤ} → IsOwnFront size n nodes → IsSchurComplement a size n nodes work → IsEliminated (by_rows work) (length work) entries → AreChildSums a parents size n nodes old → HasWideSum old entries → HasWideRow a parents size n
wide_row laws {a} {parents} {size} {n} {nodes} {old} {work} {entries} f w e s (row, from, lt, large) =
    let p = row / 6 in
    let r = row % 6 in
    let p-in : p < length nodes = omega (arith, s.whole) in
    let q = get_or nodes p 0 in
    let later = later_is f p (omega arith) p-in in
    let bounds = f.from_own p 0 p-in in
    let place = place_of-at nodes p f.rising p-in in
    let old_at : row ≡ 6 * place_of q nodes + r = omega arith in
    let total : total_squares old entries row ≡ squares a parents n (6 * q + r) =
    ap (λ (x : ℕ). get_or old x (pos 0) +ℤ sum_below 6 (λ c. by_rows entries row c *ℤ by_rows entries row c)) old_at
    ∙ ap (λ z. kept_for 6 nodes old q r +ℤ z)
    (sum_below-same 6 (λ c. by_rows entries row c *ℤ by_rows entries row c) (λ c. kept_for 36 nodes entries q (6 * r + c) *ℤ kept_for 36 nodes entries q (6 * r + c))
    (λ c cl.
    let at : 6 * row + c ≡ 36 * place_of q nodes + (6 * r + c) = omega arith in
    ap (λ (x : ℕ). get_or entries x (pos 0) *ℤ get_or entries x (pos 0)) at))
    ∙ row_squares_are laws f w e s q r bounds.0 bounds.1 (omega arith)
    in
    (6 * q + r, (omega arith, omega (arith, bounds.1)), rw (← total) large)

-- a large entry past the node
pub large_entry : RecurrenceLaws → {a : ℕ → ℕ → ℤ} {size n : ℕ} {nodes : List ℕ} {work : List ℤ} → IsOwnFront size n nodes → IsSchurComplement a size n nodes work → (s : ℕ) → s < length work → 2 ^ 57 ≤ unsigned_abs (cholesky (by_rows work) (s / 6) (s % 6)) → HasLargeEntry a size n
large_entry laws {a} {size} {n} {nodes} {work} f w s lt large =
    let r = s / 6 in
    let c = s % 6 in
    let r-in : r < 6 * length nodes = omega (arith, w.whole) in
    let bounds = f.from_own (r / 6) 0 (omega arith) in
    let is = laws.panels.entries _ _ _ _ _ (panel_left f w) r c r-in (omega arith) in
    (position nodes r, 6 * n + c, omega (arith, bounds.1), (omega arith, omega arith), rw (← is) large)

-- a pivot below 1
pub low_pivot : RecurrenceLaws → {a : ℕ → ℕ → ℤ} {parents : List (Option ℕ)} {size n : ℕ} {nodes : List ℕ} {work : List ℤ} → n < size → ((m : ℕ) → m < n → Passes a parents size m) → IsOwnFront size n nodes → IsSchurComplement a size n nodes work → (r : ℕ) → r < 6 → ((c : ℕ) → c < r → pos 1 ≤ℤ pivot (by_rows work) c) → pivot (by_rows work) r <ℤ pos 1 → BreaksAtPivot a parents size (6 * n + r)
low_pivot laws {a} {parents} {size} {n} {nodes} {work} in' before f w r rl pivots low =
    record {
      column = omega arith;
      nodes_before = λ m lt. before m (omega arith);
      pivots_before = λ k from lt. node_pivots laws f w r (omega arith) pivots k (omega arith) lt;
      breaks = rw (← laws.panels.pivots _ _ _ _ _ (panel_left f w) r rl) low;
    }

-- the diagonal is bounded above
pub diagonal_low : RecurrenceLaws → {a : ℕ → ℕ → ℤ} {size n : ℕ} {nodes : List ℕ} {work : List ℤ} → ((i j : ℕ) → unsigned_abs (a i j) < 2 ^ 113) → IsOwnFront size n nodes → IsSchurComplement a size n nodes work → (c : ℕ) → c < 6 → by_rows work c c <ℤ pos (2 ^ 113)
diagonal_low laws {a} {size} {n} {nodes} {work} small f w c cl =
    let p = panel_left f w in
    let whole = p.whole in
    let is : by_rows work c c ≡ left_after a (6 * n) (6 * n + c) (6 * n + c) =
    p.left c c (omega arith) cl (omega arith) ∙ ap (λ (x : ℕ). left_after a (6 * n) x (6 * n + c)) (p.own c cl)
    in
    rw is (laws.sizes.diagonal a (6 * n) (6 * n + c) (small (6 * n + c) (6 * n + c)))

-- the front of a node, whole
pub front_own : {k : Matrix} {order : List ℕ} {parents : List (Option ℕ)} {panels : List Panel} {row_pattern : List ℕ} {n : ℕ} {nodes : List ℕ} → IsFront k order parents panels row_pattern n nodes → IsOwnFront (length order) n nodes
front_own f = record { rising = f.rising; from_own = f.from_own; own = f.own }

-- a breakdown of the panel is one of the recurrence
pub node_breakdown : RecurrenceLaws → (a : ℕ → ℕ → ℤ) (order : List ℕ) (parents : List (Option ℕ)) (n : ℕ) (nodes : List ℕ) (work : List ℤ) (breakdown : Breakdown) → n < length order → ((m : ℕ) → m < n → Passes a parents (length order) m) → IsOwnFront (length order) n nodes → IsSchurComplement a (length order) n nodes work → IsPanelBreakdown (by_rows work) (length work) breakdown → IsBreakdownAt a order parents n (fault_of (get_or order n 0) breakdown)
node_breakdown laws a order parents n nodes work (Pivot r) in' before f w (rl, pivots, low) = (refl, rl, low_pivot laws in' before f w r rl pivots low)
node_breakdown laws a order parents n nodes work Wide in' before f w (pivots, (s, from, lt, large)) = (
  refl,
  record {
    node = in';
    nodes_before = before;
    pivots = λ j at. node_pivots laws f w 6 (omega arith) pivots j at.0 at.1;
    wide = inl (large_entry laws f w s lt large);
  },
)
node_breakdown laws a order parents n nodes work NoMemory in' before f w broken = broken
