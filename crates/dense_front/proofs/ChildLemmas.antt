-- A child's rows among its parent's, column after column.
use Rattle.std.proofs.Common.{◌≡◌, ℕ, suc, ◌+◌, ◌-◌, ◌*◌, ◌/◌, ◌%◌, ◌^◌, ◌<◌, ◌≤◌, List, length, get_or, Contains, ◌∙◌, ap, sym, refl, arith, subst, ◌⊎◌, inl, inr, ℤ, pos, ◌+ℤ◌, unsigned_abs}
use Rattle.std.proofs.lemmas.Bool.{cases_eq, cases_lt}
use Rattle.lists.specs.Rising.{IsRising}
use Rattle.lists.proofs.RisingLemmas.{IsRising-le}
use Rattle.dense_front.specs.Square.{at_square, RaisesFrom}
use Rattle.int_laws.proofs.Sums.{int_sums}
use Rattle.std.proofs.lemmas.List.{get_or_default}
use Rattle.lists.specs.Order.{place_of}
use Rattle.lists.specs.Rows.{freedom_at, position_of}
use Rattle.lists.proofs.PlaceLemmas.{place_of-at, place_of-absent, place_of-inside, at_place_of}
use Rattle.lists.proofs.UniqueLemmas.{decide_contains}
use Rattle.cholesky_laws.specs.Fronts.{lower, lower_entry, update_entry}
use Rattle.cholesky_laws.specs.FrontLaws.{TriangleLaws}
use Rattle.dense_front.specs.Child.{IsMatched, row_in, update_of}
use Rattle.dense_front.proofs.SquareLemmas.{column-before}

-- places are matched in order
pub matched-less : (places later matched : List ℕ) → IsRising places → IsRising later → IsMatched places later matched → (i j : ℕ) → i < j → j < length later → get_or matched i 0 < get_or matched j 0
matched-less places later matched up child-up m i j lt jl =
    elim (cases_lt (get_or matched i 0) (get_or matched j 0)) [
      | inl before ↦ before
      | inr from ↦
          let le = IsRising-le places up (get_or matched j 0) (get_or matched i 0) from (m.inside i (omega arith)) in
          let child = child-up i j 0 lt jl in
          let ni = m.named i (omega arith) in
          let nj = m.named j jl in
          absurd (omega arith)
    ]

-- so are rows
pub row-less : (places later matched : List ℕ) → IsRising places → IsRising later → IsMatched places later matched → (k l : ℕ) → k < l → l < 6 * length later → row_in matched k < row_in matched l
row-less places later matched up child-up m k l lt ll =
    elim (cases_lt (k / 6) (l / 6)) [
      | inl before ↦ (let less = matched-less places later matched up child-up m (k / 6) (l / 6) before (omega arith) in omega (arith, less))
      | inr from ↦ (let same : k / 6 ≡ l / 6 = omega arith in let e = ap (λ (p : ℕ). get_or matched p 0) same in omega (arith, e))
    ]

pub row-inside : (places later matched : List ℕ) → IsMatched places later matched → (k : ℕ) → k < 6 * length later → row_in matched k < 6 * length places
row-inside places later matched m k lt = let inside = m.inside (k / 6) (omega arith) in omega (arith, inside)

-- row k of a place
pub row-is : (matched : List ℕ) (p t : ℕ) → t < 6 → row_in matched (6 * p + t) ≡ 6 * get_or matched p 0 + t
row-is matched p t lt =
    let place : (6 * p + t) / 6 ≡ p = omega arith in
    let rest : (6 * p + t) % 6 ≡ t = omega arith in
    omega (arith, ap (λ (x : ℕ). get_or matched x 0) place, rest)

-- the child's rows from the column on and before the last are added in one column
pub record IsAddedTo (size child_size : ℕ) (matched : List ℕ) (child old new : List ℤ) (column last : ℕ) : Type 0 where
  pub added : (k : ℕ) → column ≤ k → k < last → at_square size new (row_in matched k) (row_in matched column) ≡ at_square size old (row_in matched k) (row_in matched column) +ℤ at_square child_size child (6 + k) (6 + column)
  pub others : (s : ℕ) → ((k : ℕ) → column ≤ k → k < last → s ≡ size * row_in matched column + row_in matched k → ⊥) → get_or new s (pos 0) ≡ get_or old s (pos 0)

pub added-none : (size child_size : ℕ) (matched : List ℕ) (child old : List ℤ) (column last : ℕ) → last ≤ column → IsAddedTo size child_size matched child old old column last
added-none size child_size matched child old column last le = record { added = λ k from lt. absurd (omega arith); others = λ s apart. refl }

pub added-more : (size child_size : ℕ) (places later matched : List ℕ) (child old cur new : List ℤ) (column p from : ℕ) → IsRising places → IsRising later → IsMatched places later matched → p < length later → from < 6 → column ≤ 6 * p + from →
    ((k : ℕ) → column ≤ k → 6 * p ≤ k → 6 * p + from ≤ k) →
    IsAddedTo size child_size matched child old cur column (6 * p) →
    RaisesFrom cur new (size * row_in matched column + 6 * get_or matched p 0 + from) (6 - from) (λ t. get_or child (child_size * (6 + column) + 6 + 6 * p + from + t) (pos 0)) →
    IsAddedTo size child_size matched child old new column (6 * (p + 1))
added-more size child_size places later matched child old cur new column p from up child-up m pl fl below first done raises =
    record {
      added = λ k ck kl.
          elim (cases_lt k (6 * p)) [
            | inl before ↦ raises.others (A + row_in matched k) (inl (omega (arith, less k before))) ∙ done.added k ck before
            | inr here ↦
                let ge = first k ck here in
                let t = k - (6 * p + from) in
                let is : 6 * p + (from + t) ≡ k = omega arith in
                let row : row_in matched k ≡ 6 * get_or matched p 0 + (from + t) = ap (row_in matched) (sym is) ∙ row-is matched p (from + t) (omega arith) in
                let at : A + 6 * get_or matched p 0 + from + t ≡ A + row_in matched k = omega (arith, row) in
                let source : child_size * (6 + column) + 6 + 6 * p + from + t ≡ child_size * (6 + column) + (6 + k) = omega (arith, is) in
                let untouched = done.others (A + row_in matched k) (λ l cl ll same. (let lt = row-less places later matched up child-up m l k (omega arith) (omega arith) in omega (arith, lt, same))) in
                sym (ap (λ (x : ℕ). get_or new x (pos 0)) at)
                ∙ raises.raised t (omega arith)
                ∙ ap (λ (x : ℕ). get_or cur x (pos 0) +ℤ get_or child (child_size * (6 + column) + 6 + 6 * p + from + t) (pos 0)) at
                ∙ ap (λ (z : ℤ). z +ℤ get_or child (child_size * (6 + column) + 6 + 6 * p + from + t) (pos 0)) untouched
                ∙ ap (λ (x : ℕ). get_or old (A + row_in matched k) (pos 0) +ℤ get_or child x (pos 0)) source
          ];
      others = λ s apart.
          let outside : (s < A + 6 * get_or matched p 0 + from) ⊎ (A + 6 * get_or matched p 0 + from + (6 - from) ≤ s) =
          elim (cases_lt s (A + 6 * get_or matched p 0 + from)) [
            | inl before ↦ inl before
            | inr ge ↦
                elim (cases_lt s (A + 6 * get_or matched p 0 + from + (6 - from))) [
                  | inr past ↦ inr past
                  | inl within ↦
                      let t = s - (A + 6 * get_or matched p 0 + from) in
                      let row = row-is matched p (from + t) (omega arith) in
                      absurd (apart (6 * p + (from + t)) (omega arith) (omega arith) (omega (arith, row)))
                ]
          ]
          in
          raises.others s outside ∙ done.others s (λ k ck kl. apart k ck (omega arith));
    }
  where
    A : ℕ
    A = size * row_in matched column

    less : (k : ℕ) → k < 6 * p → row_in matched k < 6 * get_or matched p 0
    less k lt = let h = matched-less places later matched up child-up m (k / 6) p (omega arith) pl in omega (arith, h)

pub row-le : (places later matched : List ℕ) → IsRising places → IsRising later → IsMatched places later matched → (k l : ℕ) → k ≤ l → l < 6 * length later → row_in matched k ≤ row_in matched l
row-le places later matched up child-up m k l le ll =
    elim (cases_eq k l) [
      | inl same ↦ omega (arith, ap (row_in matched) same)
      | inr apart ↦ (let less = row-less places later matched up child-up m k l (omega arith) ll in omega (arith, less))
    ]

-- where a row of a place is in a square
pub row-place : (size column place from t : ℕ) (matched : List ℕ) → from + t < 6 → size * row_in matched column + 6 * get_or matched place 0 + from + t ≡ size * row_in matched column + row_in matched (6 * place + (from + t))
row-place size column place from t matched lt = let row = row-is matched place (from + t) lt in omega (arith, row)

-- ---- columns of a child, one after another
pub record IsAddedBefore (size child_size : ℕ) (matched : List ℕ) (child old new : List ℤ) (rows columns : ℕ) : Type 0 where
  pub added : (k l : ℕ) → l ≤ k → k < rows → l < columns → at_square size new (row_in matched k) (row_in matched l) ≡ at_square size old (row_in matched k) (row_in matched l) +ℤ at_square child_size child (6 + k) (6 + l)
  pub others : (s : ℕ) → ((k l : ℕ) → l ≤ k → k < rows → l < columns → s ≡ size * row_in matched l + row_in matched k → ⊥) → get_or new s (pos 0) ≡ get_or old s (pos 0)

pub added-no_column : (size child_size : ℕ) (matched : List ℕ) (child old : List ℤ) (rows : ℕ) → IsAddedBefore size child_size matched child old old rows 0
added-no_column size child_size matched child old rows = record { added = λ k l le kl ll. absurd (omega arith); others = λ s apart. refl }

-- a column that comes later is untouched
pub untouched : (size child_size : ℕ) (places later matched : List ℕ) (child old cur : List ℤ) (column : ℕ) → size ≡ 6 * length places → IsRising places → IsRising later → IsMatched places later matched → column < 6 * length later →
    IsAddedBefore size child_size matched child old cur (6 * length later) column → (r : ℕ) → r < size → at_square size cur r (row_in matched column) ≡ at_square size old r (row_in matched column)
untouched size child_size places later matched child old cur column size_is up child-up m cl done r rl =
    done.others (size * row_in matched column + r) (λ k l le kl ll same.
    let less = row-less places later matched up child-up m l column ll cl in
    let inside = row-inside places later matched m k kl in
    let apart = column-before size (row_in matched l) (row_in matched column) (row_in matched k) less (omega (arith, inside, size_is)) in
    omega (arith, apart, same))

pub added-column : (size child_size : ℕ) (places later matched : List ℕ) (child old cur new : List ℤ) (column : ℕ) → size ≡ 6 * length places → IsRising places → IsRising later → IsMatched places later matched → column < 6 * length later →
    IsAddedBefore size child_size matched child old cur (6 * length later) column → IsAddedTo size child_size matched child cur new column (6 * length later) → IsAddedBefore size child_size matched child old new (6 * length later) (column + 1)
added-column size child_size places later matched child old cur new column size_is up child-up m cl done step =
    record {
      added = λ k l le kl ll.
          elim (cases_lt l column) [
            | inl before ↦
                (let less = row-less places later matched up child-up m l column before cl in
                let inside = row-inside places later matched m k kl in
                let apart = column-before size (row_in matched l) (row_in matched column) (row_in matched k) less (omega (arith, inside, size_is)) in
                step.others (size * row_in matched l + row_in matched k) (λ j cj jl same. omega (arith, apart, same)) ∙ done.added k l le kl before)
            | inr here ↦
                (let same : column ≡ l = omega arith in
                let P : ℕ → Type 0 = λ l. at_square size new (row_in matched k) (row_in matched l) ≡ at_square size old (row_in matched k) (row_in matched l) +ℤ at_square child_size child (6 + k) (6 + l) in
                let inside = row-inside places later matched m k kl in
                subst P same
                (step.added k (omega arith) kl
                ∙ ap (λ (z : ℤ). z +ℤ at_square child_size child (6 + k) (6 + column)) (untouched size child_size places later matched child old cur column size_is up child-up m cl done (row_in matched k) (omega (arith, inside, size_is)))))
          ];
      others = λ s apart. step.others s (λ k ck kl. apart k column ck kl (omega arith)) ∙ done.others s (λ k l le kl ll. apart k l le kl (omega arith));
    }

-- ---- the whole update
-- a row of a later place stands where the child's row does
row-found : (places later matched : List ℕ) → IsRising places → IsMatched places later matched → (r : ℕ) → r < 6 * length places → Contains later (freedom_at places r / 6) → (position_of later (freedom_at places r) < 6 * length later) × (row_in matched (position_of later (freedom_at places r)) ≡ r)
row-found places later matched up m r rl in' =
    let q = freedom_at places r / 6 in
    let lt = place_of-inside later q in' in
    let place : position_of later (freedom_at places r) / 6 ≡ place_of q later = omega arith in
    let rest : position_of later (freedom_at places r) % 6 ≡ r % 6 = omega arith in
    let name : q ≡ get_or places (r / 6) 0 = omega arith in
    let is : get_or later (place_of q later) 0 ≡ q = at_place_of later q lt in
    let inside = m.inside (place_of q later) lt in
    let named = m.named (place_of q later) lt in
    let at : get_or matched (place_of q later) 0 ≡ r / 6 =
    sym (place_of-at places (get_or matched (place_of q later) 0) up inside)
    ∙ ap (λ (x : ℕ). place_of x places) (named ∙ is ∙ name)
    ∙ place_of-at places (r / 6) up (omega arith)
    in
    (omega (arith, lt), omega (arith, ap (λ (x : ℕ). get_or matched x 0) place, at, rest))

-- a row that an update reaches is of a later place
row-of : (places later matched : List ℕ) → IsMatched places later matched → (k r : ℕ) → k < 6 * length later → row_in matched k ≡ r → Contains later (freedom_at places r / 6)
row-of places later matched m k r kl same =
    let place : get_or matched (k / 6) 0 ≡ r / 6 = omega arith in
    let named = m.named (k / 6) (omega arith) in
    let name : freedom_at places r / 6 ≡ get_or places (r / 6) 0 = omega arith in
    (k / 6, omega arith, get_or_default later (k / 6) (freedom_at places r / 6) 0 (omega arith) ∙ sym named ∙ ap (λ (x : ℕ). get_or places x 0) place ∙ sym name)

one-place : (size c d r q : ℕ) → r < size → q < size → size * c + r ≡ size * d + q → (c ≡ d) × (r ≡ q)
one-place size c d r q rl ql same =
    elim (cases_lt c d) [
      | inl less ↦ absurd (omega (arith, column-before size c d r less rl, same))
      | inr from ↦
          elim (cases_eq c d) [
            | inl e ↦ (e, omega (arith, same, ap (λ (x : ℕ). size * x) e))
            | inr apart ↦ absurd (omega (arith, column-before size d c q (omega arith) ql, same))
          ]
    ]

plus_none : (x z : ℤ) → z ≡ pos 0 → x ≡ x +ℤ z
plus_none x z e = omega (arith, int_sums)

pub added-whole : TriangleLaws → (size : ℕ) (places later matched : List ℕ) (child old new : List ℤ) → size ≡ 6 * length places → IsRising places → IsRising later → IsMatched places later matched →
    IsAddedBefore size (6 * length later + 6) matched child old new (6 * length later) (6 * length later) → (r c : ℕ) → c ≤ r → r < size →
    at_square size new r c ≡ at_square size old r c +ℤ update_entry (update_of later child) (freedom_at places r) (freedom_at places c)
added-whole laws size places later matched child old new size_is up child-up m done r c le rl =
    elim (decide_contains later (freedom_at places c / 6)) [
      | inr out ↦
          done.others (size * c + r) (λ k l lk kl ll same.
          let inside-l = row-inside places later matched m l ll in
          let inside-k = row-inside places later matched m k kl in
          out (row-of places later matched m l c ll (sym (one-place size c (row_in matched l) r (row_in matched k) rl (omega (arith, inside-k, size_is)) same).0)))
          ∙ plus_none (at_square size old r c) _ (laws.past_columns n n f pr pc (omega (arith, place_of-absent later (freedom_at places c / 6) out)))
      | inl ci ↦
          elim (decide_contains later (freedom_at places r / 6)) [
            | inr out ↦
                done.others (size * c + r) (λ k l lk kl ll same.
                let inside-k = row-inside places later matched m k kl in
                out (row-of places later matched m k r kl (sym (one-place size c (row_in matched l) r (row_in matched k) rl (omega (arith, inside-k, size_is)) same).1)))
                ∙ plus_none (at_square size old r c) _ (laws.past_rows n n f pr pc (omega (arith, place_of-absent later (freedom_at places r / 6) out)))
            | inl ri ↦
                let fr = row-found places later matched up m r (omega (arith, rl, size_is)) ri in
                let fc = row-found places later matched up m c (omega (arith, rl, size_is)) ci in
                let below : pc ≤ pr =
                elim (cases_lt pr pc) [
                  | inl less ↦ (let h = row-less places later matched up child-up m pr pc less fc.0 in absurd (omega (arith, h, fr.1, fc.1)))
                  | inr ok ↦ ok
                ]
                in
                let P : ℕ → ℕ → Type 0 = λ r c. at_square size new r c ≡ at_square size old r c +ℤ at_square (n + 6) child (6 + pr) (6 + pc) in
                subst (λ (x : ℕ). P x c) fr.1 (subst (λ (y : ℕ). P (row_in matched pr) y) fc.1 (done.added pr pc below fr.0 fc.0))
                ∙ ap (λ (z : ℤ). at_square size old r c +ℤ z) (sym (laws.inside n n f pr pc fc.0 below fr.0))
          ]
    ]
  where
    n : ℕ
    n = 6 * length later

    f : ℕ → ℕ → ℤ
    f r c = at_square (n + 6) child (6 + r) (6 + c)

    pr : ℕ
    pr = position_of later (freedom_at places r)

    pc : ℕ
    pc = position_of later (freedom_at places c)

-- a child's row is at its own place
row-position : (places later matched : List ℕ) → IsRising later → IsMatched places later matched → (k : ℕ) → k < 6 * length later → position_of later (freedom_at places (row_in matched k)) ≡ k
row-position places later matched child-up m k kl =
    let r = row_in matched k in
    let place : r / 6 ≡ get_or matched (k / 6) 0 = omega arith in
    let name : freedom_at places r / 6 ≡ get_or places (r / 6) 0 = omega arith in
    let rest : freedom_at places r % 6 ≡ k % 6 = omega arith in
    let at : place_of (freedom_at places r / 6) later ≡ k / 6 =
    ap (λ (x : ℕ). place_of x later) (name ∙ ap (λ (x : ℕ). get_or places x 0) place ∙ m.named (k / 6) (omega arith)) ∙ place_of-at later (k / 6) child-up (omega arith)
    in
    omega (arith, at, rest)

-- an update's numbers are as small as its entries at the parent's rows
pub child-small : TriangleLaws → (places later matched : List ℕ) (child : List ℤ) → IsRising places → IsRising later → IsMatched places later matched →
    ((r c : ℕ) → c ≤ r → r < 6 * length places → unsigned_abs (update_entry (update_of later child) (freedom_at places r) (freedom_at places c)) < 2 ^ 113) →
    (r c : ℕ) → c ≤ r → r < 6 * length later → unsigned_abs (at_square (6 * length later + 6) child (6 + r) (6 + c)) < 2 ^ 113
child-small laws places later matched child up child-up m small r c le rl =
    let n = 6 * length later in
    let f = λ (r c : ℕ). at_square (n + 6) child (6 + r) (6 + c) in
    let h = small (row_in matched r) (row_in matched c) (row-le places later matched up child-up m c r le rl) (row-inside places later matched m r rl) in
    let P : ℕ → ℕ → Type 0 = λ x y. unsigned_abs (lower_entry (lower n n f) x y) < 2 ^ 113 in
    let here : P r c = subst (λ (x : ℕ). P x c) (row-position places later matched child-up m r rl) (subst (λ (y : ℕ). P (position_of later (freedom_at places (row_in matched r))) y) (row-position places later matched child-up m c (omega arith)) h) in
    rw (laws.inside n n f r c (omega arith) le rl) at here
