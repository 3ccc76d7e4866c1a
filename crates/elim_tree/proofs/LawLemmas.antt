-- One tree for an order, and the fill within its rows.
use Rattle.std.proofs.Common.{◌≡◌, ◌≢◌, ℕ, suc, ◌+◌, ◌*◌, ◌/◌, ◌%◌, ◌^◌, cond, ap₂, ◌<◌, List, [], ◌∷◌, length, get_or, Contains, inl, inr, ◌↔◌, ◌∙◌, sym, ap, arith, subst, ℤ, pos, ◌-ℤ◌, ◌*ℤ◌}
use Rattle.std.proofs.lemmas.Bool.{cases_lt, cases_eq, ne_eqb}
use Rattle.std.proofs.lemmas.List.{same_lists, get_or_default, get_or_past}
use Rattle.lists.specs.Lists.{list_of}
use Rattle.lists.proofs.UniqueLemmas.{rising_unique}
use Rattle.cholesky_laws.specs.Laws.{RecurrenceLaws}
use Rattle.cholesky_laws.specs.Recurrence.{cholesky, scaled_stiffness}
use Rattle.lists.specs.Rows.{freedom_at}
use Rattle.cholesky_laws.specs.Fill.{IsOnPattern, IsClosed}
use Rattle.elim_tree.proofs.JoinedLemmas.{later_from_linked, later_closed}
use Rattle.elim_order.specs.Graph.{links}
use Rattle.elim_order.specs.Determined.{LinkAlike}
use Rattle.elim_tree.specs.Fronts.{Fronts, rows_at, front_rows, entries_of}
use Rattle.elim_tree.specs.Tree.{placed, AreLater, IsTreeOf, HasManyEntries}
use Rattle.elim_tree.proofs.HeadLemmas.{contains_none, length-listed, listed_read}
use Rattle.elim_tree.proofs.PlacedLemmas.{later_same}

placed_alike : (pairs others : List (ℕ × ℕ)) (order : List ℕ) → LinkAlike pairs others → (p q : ℕ) → p < q → placed (links pairs) order p q ↔ placed (links others) order p q
placed_alike pairs others order same p q lt = (
  λ (pl, ql, h). (pl, ql, (same (get_or order p 0) (get_or order q 0)).0 h),
  λ (pl, ql, h). (pl, ql, (same (get_or order p 0) (get_or order q 0)).1 h),
)

one_later : (l m : ℕ → ℕ → Type 0) (size : ℕ) (a b : List (List ℕ)) → ((p q : ℕ) → p < q → l p q ↔ m p q) → AreLater l size a → AreLater m size b → a ≡ b
one_later l m size a b same x y =
    same_lists a b (x.count ∙ sym y.count) (λ k d lt.
    let kl : k < size = omega (arith, x.count) in
    get_or_default a k d [] lt
    ∙ rising_unique (list_of a k) (list_of b k) (x.rising k) (y.rising k)
    (λ q h. (y.members k q kl).1 ((later_same l m same k q).0 ((x.members k q kl).0 h)))
    (λ q h. (x.members k q kl).1 ((later_same l m same k q).1 ((y.members k q kl).0 h)))
    ∙ get_or_default b k [] d (omega (arith, x.count, y.count)))

pub one_tree : (pairs others : List (ℕ × ℕ)) (order : List ℕ) (t u : Fronts) → LinkAlike pairs others → IsTreeOf (placed (links pairs) order) order t → IsTreeOf (placed (links others) order) order u → t ≡ u
one_tree pairs others order t u same x y =
    let o = x.order_is ∙ sym y.order_is in
    let l = one_later (placed (links pairs) order) (placed (links others) order) (length order) t.later u.later (placed_alike pairs others order same) x.later_are y.later_are in
    ap₂ (λ (a : List ℕ) (b : List (List ℕ)). let r : Fronts = record { order = a; later = b } in r) o l

pub never_too_many : (pairs others : List (ℕ × ℕ)) (order : List ℕ) (t : Fronts) → LinkAlike pairs others → IsTreeOf (placed (links pairs) order) order t → HasManyEntries (placed (links others) order) (length order) → ⊥
never_too_many pairs others order t same x (later, y, many) =
    omega (arith, many, x.few, ap entries_of (one_later (placed (links pairs) order) (placed (links others) order) (length order) t.later later (placed_alike pairs others order same) x.later_are y))

-- ---- rows
-- a place of a front gives six rows
in_rows : (places : List ℕ) (i : ℕ) → Contains places (i / 6) → Contains (rows_at places) i
in_rows places i (k, lt, is) =
    let s = 6 * k + i % 6 in
    let long = length-listed (6 * length places) (freedom_at places) in
    let sl : s < 6 * length places = omega arith in
    let at : s / 6 ≡ k = omega arith in
    let off : s % 6 ≡ i % 6 = omega arith in
    let value : get_or places k 0 ≡ i / 6 = get_or_default places k 0 (i / 6) lt ∙ is in
    let row = listed_read (6 * length places) (freedom_at places) s i sl in
    let read : freedom_at places s ≡ 6 * get_or places k 0 + i % 6 = ap (λ (x : ℕ). 6 * get_or places x 0 + s % 6) at ∙ ap (λ (x : ℕ). 6 * get_or places k 0 + x) off in
    (s, omega (arith, long, sl), row ∙ read ∙ (let e : 6 * get_or places k 0 + i % 6 ≡ i = omega (arith, value) in e))

-- the lists of later neighbours are closed
later_lists_closed : (linked : ℕ → ℕ → Type 0) (size : ℕ) (later : List (List ℕ)) → AreLater linked size later → IsClosed (λ p q. Contains (list_of later p) q) size
later_lists_closed linked size later is k p q lt ql hp hq =
    elim (cases_lt k size) [
      | inl in' ↦ (is.members p q (omega arith)).1 (later_closed linked k p q lt ((is.members k p in').0 hp) ((is.members k q in').0 hq))
      | inr past ↦ absurd (contains_none (subst (λ (xs : List ℕ). Contains xs p) (get_or_past later k [] (omega (arith, is.count))) hp))
    ]

pub fill_in_rows : RecurrenceLaws → (pairs : List (ℕ × ℕ)) (order : List ℕ) (t : Fronts) (a : ℕ → ℕ → ℤ) → IsTreeOf (placed (links pairs) order) order t → IsOnPattern a (placed (links pairs) order) (length order) → (i k : ℕ) → i < 6 * length order → k < 6 * length order → (Contains (list_of (front_rows t) (k / 6)) i → ⊥) → cholesky a i k ≡ pos 0
fill_in_rows laws pairs order t a is on i k il kl out =
    let linked = placed (links pairs) order in
    let long = ap (λ (xs : List ℕ). length xs) is.order_is in
    let f = k / 6 in
    let fl : f < length order = omega arith in
    let read : list_of (front_rows t) f ≡ rows_at (f ∷ list_of t.later f) = listed_read (length t.order) (λ g. rows_at (g ∷ list_of t.later g)) f [] (omega (arith, fl, long)) in
    let P : List ℕ → Type 0 = λ xs. Contains xs i in
    let no : Contains (f ∷ list_of t.later f) (i / 6) → ⊥ = λ h. out (subst P (sym read) (in_rows (f ∷ list_of t.later f) i h)) in
    elim (cases_lt f (i / 6)) [
      | inl past ↦
          laws.fill a t.later (length order)
          (later_lists_closed linked (length order) t.later is.later_are)
          (λ m n ml below absent. on m n ml below (λ h. absent ((is.later_are.members (n / 6) (m / 6) (omega arith)).1 (later_from_linked linked (n / 6) (m / 6) below h))))
          i k il past
          (λ in'. no (let (n, nl, e) = in' in (suc n, omega arith, e)))
      | inr from ↦
          elim (cases_eq f (i / 6)) [
            | inl same ↦ absurd (no (0, omega arith, same))
            | inr ne ↦ laws.entries.above a i k (omega arith)
          ]
    ]

-- ---- the scaled stiffness
times_zero : (z : ℤ) → z ≡ pos 0 → pos (2 ^ 52) *ℤ (z -ℤ pos 0) ≡ pos 0
times_zero z e = ap (λ (x : ℤ). pos (2 ^ 52) *ℤ (x -ℤ pos 0)) e

pub stiffness_on_pattern : (pairs : List (ℕ × ℕ)) (order : List ℕ) (km : ℕ → ℕ → ℤ) (shift : ℤ) → ((i j : ℕ) → i / 6 ≢ j / 6 → (links pairs (i / 6) (j / 6) → ⊥) → km i j ≡ pos 0) → ((p q : ℕ) → p < length order → q < length order → get_or order p 0 ≡ get_or order q 0 → p ≡ q) → IsOnPattern (scaled_stiffness km order shift) (placed (links pairs) order) (length order)
unfolding scaled_stiffness
stiffness_on_pattern pairs order km shift apart different i j il lt out =
    let node = λ (x : ℕ). get_or order (x / 6) 0 in
    let at_i : freedom_at order i / 6 ≡ node i = omega arith in
    let at_j : freedom_at order j / 6 ≡ node j = omega arith in
    let none = apart (freedom_at order i) (freedom_at order j)
    (λ e. let s = different (i / 6) (j / 6) (omega arith) (omega arith) (sym at_i ∙ e ∙ at_j) in omega (arith, s, lt))
    (λ h. out (omega arith, omega arith, turned (moved (node i) (node j) h at_i at_j))) in
    ap (λ b. pos (2 ^ 52) *ℤ (km (freedom_at order i) (freedom_at order j) -ℤ cond b shift (pos 0))) (ne_eqb i j (λ e. omega arith)) ∙ times_zero (km (freedom_at order i) (freedom_at order j)) none
  where
    turned : links pairs (get_or order (i / 6) 0) (get_or order (j / 6) 0) → links pairs (get_or order (j / 6) 0) (get_or order (i / 6) 0)
    turned h = elim h [ inl x ↦ inr x | inr x ↦ inl x ]

    moved : (m n : ℕ) → links pairs (freedom_at order i / 6) (freedom_at order j / 6) → freedom_at order i / 6 ≡ m → freedom_at order j / 6 ≡ n → links pairs m n
    moved m n h e f =
        let P : ℕ → Type 0 = λ z. links pairs z (freedom_at order j / 6) in
        let Q : ℕ → Type 0 = λ z. links pairs m z in
        subst Q f (subst P e h)
