-- A front's own entries, one after another.
use Rattle.std.proofs.Common.{◌≡◌, ℕ, ◌+◌, ◌*◌, ◌/◌, ◌%◌, ◌^◌, ◌<◌, ◌≤◌, List, [], ◌∷◌, ◌++◌, length, get_or, set, ◌∙◌, ap, sym, refl, arith, subst, ◌⊎◌, inl, inr, ℤ, pos, ◌-ℤ◌, ◌*ℤ◌, ◌≤ℤ◌, ◌<ℤ◌, Option, Some, None, MatchOption, to_z, of_z}
use Rattle.std.specs.Int.RustNames.{unsigned_abs}
use Rattle.std.proofs.lemmas.Bool.{cases_lt, cases_eq}
use Rattle.std.proofs.lemmas.List.{get_or-set_same, get_or-set_other, length-set}
use Rattle.int_laws.proofs.Sums.{int_sums}
use Rattle.int_laws.proofs.SumLaws.{sum_below-same}
use Rattle.int_laws.specs.Division.{nearest_of}
use Rattle.int_laws.specs.Root.{root_of}
use Rattle.cholesky_laws.specs.Laws.{RecurrenceLaws}
use Rattle.cholesky_laws.specs.Recurrence.{cholesky, left_after, pivot}
use Rattle.int_laws.proofs.RootLemmas.{root_of-is, root_bounds}
use Rattle.dense_front.specs.Square.{AllSmall, by_rows, left_in_row}
use Rattle.dense_front.specs.Own.{IsOwnTo}
use Rattle.dense_front.proofs.CastLemmas.{narrow_is}
use Rattle.std.specs.Int.{w64}

-- an entry of a row before
row_entry : {w : ℕ → ℕ → ℤ} {s : ℕ} {entries : List ℤ} → IsOwnTo w s entries → (r k : ℕ) → k < 6 → 6 * r + k < s → by_rows entries r k ≡ cholesky w r k
row_entry {w} e r k kl lt =
    let row : (6 * r + k) / 6 ≡ r = omega arith in
    let column : (6 * r + k) % 6 ≡ k = omega arith in
    e.values (6 * r + k) lt ∙ ap (λ x. cholesky w x ((6 * r + k) % 6)) row ∙ ap (λ x. cholesky w r x) column

-- what is left in the next row and column
left_is : {w : ℕ → ℕ → ℤ} {entries : List ℤ} (r c : ℕ) → IsOwnTo w (6 * r + c) entries → c < 6 → c ≤ r → left_in_row (w r c) entries r c ≡ left_after w c r c
unfolding left_after
left_is {w} {entries} r c e cl le =
    ap (λ z. w r c -ℤ z)
    (sum_below-same c _ _ (λ k lt.
    ap (λ z. z *ℤ by_rows entries c k) (row_entry e r k (omega arith) (omega arith))
    ∙ ap (λ z. cholesky w r k *ℤ z) (row_entry e c k (omega arith) (omega arith))))

small_set : (entries : List ℤ) (s : ℕ) (x : ℤ) → AllSmall entries → unsigned_abs x < 2 ^ 57 → s < length entries → (k : ℕ) (d : ℤ) → k < length (set entries s x) → unsigned_abs (get_or (set entries s x) k d) < 2 ^ 57
small_set entries s x all small in' k d lt =
    let P : ℤ → Type 0 = λ z. unsigned_abs z < 2 ^ 57 in
    elim (cases_eq s k) [
      | inl same ↦ subst (λ (j : ℕ). unsigned_abs (get_or (set entries s x) j d) < 2 ^ 57) same (subst P (sym (get_or-set_same entries s x d in')) small)
      | inr apart ↦ subst P (sym (get_or-set_other entries s k x d (λ q. apart (sym q)))) (all k d (omega (arith, lt, length-set entries s x)))
    ]

-- one more entry
more : {w : ℕ → ℕ → ℤ} {entries : List ℤ} (r c : ℕ) (x : ℤ) → IsOwnTo w (6 * r + c) entries → c < 6 → 6 * r + c < length entries → x ≡ cholesky w r c → unsigned_abs x < 2 ^ 57 → (r ≡ c → pos 1 ≤ℤ pivot w c) → IsOwnTo w (6 * r + c + 1) (set entries (6 * r + c) x)
more {w} {entries} r c x e cl in' is small pivots =
    let s = 6 * r + c in
    record {
      values = λ t lt.
          elim (cases_lt t s) [
            | inl before ↦ get_or-set_other entries s t x (pos 0) (λ q. omega arith) ∙ e.values t before
            | inr here ↦
                let row : s / 6 ≡ r = omega arith in
                let column : s % 6 ≡ c = omega arith in
                let at : s ≡ t = omega arith in
                subst (λ (k : ℕ). get_or (set entries s x) k (pos 0) ≡ cholesky w (k / 6) (k % 6)) at
                (get_or-set_same entries s x (pos 0) in' ∙ is ∙ sym (ap (λ y. cholesky w y (s % 6)) row ∙ ap (λ y. cholesky w r y) column))
          ];
      small = small_set entries s x e.small small in';
      pivots = λ d dl lt.
          elim (cases_lt (7 * d) s) [
            | inl before ↦ e.pivots d dl before
            | inr here ↦
                (let column : c ≡ d = omega arith in
                let P : ℕ → Type 0 = λ y. pos 1 ≤ℤ pivot w y in
                subst P column (pivots (omega arith)))
          ];
    }

-- what an entry answers
pub record IsEntryAnswer (left : ℤ) (entries : List ℤ) (r c : ℕ) (answer : Option ℤ) : Type 0 where
  pub above : r < c → answer ≡ Some (pos 0)
  pub own : r ≡ c → MatchOption answer (left_in_row left entries r c <ℤ pos 1) (λ e. (pos 1 ≤ℤ left_in_row left entries r c) × (e ≡ root_of (left_in_row left entries r c)))
  pub below : c < r → MatchOption answer (2 ^ 57 ≤ unsigned_abs (nearest_of (left_in_row left entries r c) (by_rows entries c c))) (λ e. (unsigned_abs e < 2 ^ 57) × (e ≡ nearest_of (left_in_row left entries r c) (by_rows entries c c)))

-- the diagonal of the node's own rows is small
abbrev pub IsBounded : (ℕ → ℕ → ℤ) → Type 0
IsBounded w = (c : ℕ) → c < 6 → w c c <ℤ pos (2 ^ 113)

pub entry_more : RecurrenceLaws → {w : ℕ → ℕ → ℤ} {entries : List ℤ} (r c : ℕ) (x : ℤ) → IsBounded w → IsOwnTo w (6 * r + c) entries → c < 6 → 6 * r + c < length entries → IsEntryAnswer (w r c) entries r c (Some x) → IsOwnTo w (6 * r + c + 1) (set entries (6 * r + c) x)
entry_more laws {w} {entries} r c x bounded e cl in' answer =
    elim (cases_lt r c) [
      | inl above ↦ (let is : x ≡ pos 0 = some_is (answer.above above) in more r c x e cl in' (is ∙ sym (laws.entries.above w r c above)) (omega (arith, ap unsigned_abs is)) (λ q. absurd (omega arith)))
      | inr from ↦
          let left = left_is r c e cl from in
          elim (cases_eq r c) [
            | inl same ↦
                (let own = answer.own same in
                let pivot_is : left_in_row (w r c) entries r c ≡ pivot w c = left ∙ ap (λ y. left_after w c y c) same in
                let positive : pos 1 ≤ℤ pivot w c = rw pivot_is at own.0 in
                let value : x ≡ cholesky w r c = own.1 ∙ ap root_of pivot_is ∙ sym (laws.entries.diagonal w c positive) ∙ ap (λ y. cholesky w y c) (sym same) in
                let below = bounded c cl in
                let falls = laws.sizes.falls w c in
                let bounds = root_bounds (pivot w c) positive (omega (arith, int_sums)) in
                let root : x ≡ root_of (pivot w c) = own.1 ∙ ap root_of pivot_is in
                more r c x e cl in' value (omega (arith, int_sums, bounds.0, bounds.1)) (λ q. positive))
            | inr apart ↦
                let below = answer.below (omega arith) in
                let positive = e.pivots c cl (omega arith) in
                let value : x ≡ cholesky w r c =
                below.1 ∙ ap (λ y. nearest_of y (by_rows entries c c)) left ∙ ap (λ y. nearest_of (left_after w c r c) y) (row_entry e c c cl (omega arith))
                ∙ sym (laws.entries.below w r c (omega arith) positive)
                in
                more r c x e cl in' value below.0 (λ q. absurd (apart q))
          ]
    ]
  where
    some_is : {x y : ℤ} → Some x ≡ Some y → x ≡ y
    some_is h = cc

-- no entry: the pivot, or an entry that is too large
pub entry_none : RecurrenceLaws → {w : ℕ → ℕ → ℤ} {entries : List ℤ} (r c : ℕ) → IsOwnTo w (6 * r + c) entries → c < 6 → IsEntryAnswer (w r c) entries r c None → ((r ≡ c) × (pivot w c <ℤ pos 1)) ⊎ ((c < r) × (2 ^ 57 ≤ unsigned_abs (cholesky w r c)))
entry_none laws {w} {entries} r c e cl answer =
    elim (cases_lt r c) [
      | inl above ↦ (let none = answer.above above in absurd cc)
      | inr from ↦
          let left = left_is r c e cl from in
          elim (cases_eq r c) [
            | inl same ↦ inl (same, rw (left ∙ ap (λ y. left_after w c y c) same) at (answer.own same))
            | inr apart ↦
                let positive = e.pivots c cl (omega arith) in
                let value : nearest_of (left_in_row (w r c) entries r c) (by_rows entries c c) ≡ cholesky w r c =
                ap (λ y. nearest_of y (by_rows entries c c)) left ∙ ap (λ y. nearest_of (left_after w c r c) y) (row_entry e c c cl (omega arith))
                ∙ sym (laws.entries.below w r c (omega arith) positive)
                in
                inr (omega arith, rw (← value) (answer.below (omega arith)))
          ]
    ]

-- in the node's own rows that is a pivot below 1, in the row reached
pub pivot_broken : RecurrenceLaws → {w : ℕ → ℕ → ℤ} {entries : List ℤ} (r c : ℕ) → IsBounded w → IsOwnTo w (6 * r + c) entries → c < 6 → r < 6 → IsEntryAnswer (w r c) entries r c None → ((d : ℕ) → d < r → pos 1 ≤ℤ pivot w d) × (pivot w r <ℤ pos 1)
pivot_broken laws {w} r c bounded e cl rl answer = (
  λ d lt. e.pivots d (omega arith) (omega arith),
  elim (entry_none laws r c e cl answer) [
    | inl (same, low) ↦ (let P : ℕ → Type 0 = λ y. pivot w y <ℤ pos 1 in subst P (sym same) low)
    | inr (lt, large) ↦ laws.sizes.large w r c lt (bounded r rl) large
  ],
)

-- past them it is a large entry
pub wide_entry : RecurrenceLaws → {w : ℕ → ℕ → ℤ} {entries : List ℤ} (r c : ℕ) → IsOwnTo w (6 * r + c) entries → c < 6 → 6 ≤ r → IsEntryAnswer (w r c) entries r c None → 2 ^ 57 ≤ unsigned_abs (cholesky w r c)
wide_entry laws r c e cl from answer =
    elim (entry_none laws r c e cl answer) [ inl (same, low) ↦ absurd (omega arith) | inr (lt, large) ↦ large ]

-- a place by its row and column
pub place_is : (s : ℕ) → 6 * (s / 6) + s % 6 ≡ s
place_is s = omega arith

pub at_row : {w : ℕ → ℕ → ℤ} {entries : List ℤ} (s : ℕ) → IsOwnTo w s entries → IsOwnTo w (6 * (s / 6) + s % 6) entries
at_row {w} {entries} s e = let P : ℕ → Type 0 = λ n. IsOwnTo w n entries in subst P (sym (place_is s)) e

pub from_row : {w : ℕ → ℕ → ℤ} (entries : List ℤ) (s : ℕ) (x : ℤ) → IsOwnTo w (6 * (s / 6) + s % 6 + 1) (set entries (6 * (s / 6) + s % 6) x) → IsOwnTo w (s + 1) (set entries s x)
from_row {w} entries s x e = let P : ℕ → Type 0 = λ n. IsOwnTo w (n + 1) (set entries n x) in subst P (place_is s) e

-- an answer for what is left in a square, on and below its diagonal
pub answer_in : {entries : List ℤ} {answer : Option ℤ} (x y : ℤ) (r c : ℕ) → (c ≤ r → x ≡ y) → IsEntryAnswer x entries r c answer → IsEntryAnswer y entries r c answer
answer_in {entries} {answer} x y r c same h =
    record {
      above = h.above;
      own = λ e. subst (λ (z : ℤ). MatchOption answer (left_in_row z entries r c <ℤ pos 1) (λ e. (pos 1 ≤ℤ left_in_row z entries r c) × (e ≡ root_of (left_in_row z entries r c)))) (same (omega arith)) (h.own e);
      below = λ lt. subst (λ (z : ℤ). MatchOption answer (2 ^ 57 ≤ unsigned_abs (nearest_of (left_in_row z entries r c) (by_rows entries c c))) (λ e. (unsigned_abs e < 2 ^ 57) × (e ≡ nearest_of (left_in_row z entries r c) (by_rows entries c c)))) (same (omega arith)) (h.below lt);
    }

-- a node's pivot, read for a quotient
pub pivot_positive : RecurrenceLaws → {w : ℕ → ℕ → ℤ} {entries : List ℤ} (s : ℕ) → IsOwnTo w s entries → s % 6 < s / 6 → pos 1 ≤ℤ by_rows entries (s % 6) (s % 6)
pivot_positive laws {w} {entries} s e lt =
    let ok = e.pivots (s % 6) (omega arith) (omega arith) in
    rw (row_entry e (s % 6) (s % 6) (omega arith) (omega arith))
    (rw (laws.entries.diagonal w (s % 6) ok) ((root_of-is (pivot w (s % 6)) (omega (arith, int_sums))).greatest (pos 1) (omega (arith, int_sums))))

-- the entry that is written is as it was computed
pub written_is : {w : ℕ → ℕ → ℤ} {n : ℕ} (entries : List ℤ) (s : ℕ) (x : ℤ) → s < length entries → IsOwnTo w n (set entries s x) → to_z w64 (of_z w64 x) ≡ x
written_is entries s x in' e =
    let here = get_or-set_same entries s x (pos 0) in' in
    let small : unsigned_abs x < 2 ^ 57 = rw here at (e.small s (pos 0) (omega (arith, in', length-set entries s x))) in
    narrow_is x (omega arith)
