-- A node's entries, one after another.
use Rattle.std.proofs.Common.{◌≡◌, ℕ, ◌+◌, ◌*◌, ◌/◌, ◌%◌, ◌^◌, ◌<◌, ◌≤◌, List, [], ◌∷◌, ◌++◌, length, get_or, ◌∙◌, ap, sym, refl, arith, subst, ◌⊎◌, inl, inr, ℤ, pos, ◌-ℤ◌, ◌*ℤ◌, ◌≤ℤ◌, ◌<ℤ◌, Option, Some, None, MatchOption, to_z, of_z}
use Rattle.std.specs.Int.RustNames.{unsigned_abs}
use Rattle.std.proofs.lemmas.Bool.{cases_lt, cases_eq}
use Rattle.std.proofs.lemmas.List.{get_or_append_left, get_or_push, length_push}
use Rattle.std.proofs.lemmas.List.Elements.{All-push}
use Rattle.int_laws.proofs.Sums.{int_sums}
use Rattle.int_laws.proofs.SumLaws.{sum_below-same}
use Rattle.int_laws.specs.Division.{nearest_of}
use Rattle.int_laws.specs.Root.{root_of}
use Rattle.cholesky_laws.specs.Laws.{RecurrenceLaws}
use Rattle.cholesky_laws.specs.Recurrence.{cholesky, left_after, pivot}
use Rattle.int_laws.proofs.RootLemmas.{root_of-is, root_bounds}
use Rattle.factor.specs.Panel.{by_rows, left_in_row}
use Rattle.factor.specs.Eliminate.{IsEliminatedTo}
use Rattle.factor.proofs.CastLemmas.{narrow_is}
use Rattle.std.specs.Int.{w64}

-- an entry of a row before
row_entry : {w : ℕ → ℕ → ℤ} {s : ℕ} {entries : List ℤ} → IsEliminatedTo w s entries → (r k : ℕ) → k < 6 → 6 * r + k < s → by_rows entries r k ≡ cholesky w r k
row_entry {w} e r k kl lt =
    let row : (6 * r + k) / 6 ≡ r = omega arith in
    let column : (6 * r + k) % 6 ≡ k = omega arith in
    e.values (6 * r + k) lt ∙ ap (λ x. cholesky w x ((6 * r + k) % 6)) row ∙ ap (λ x. cholesky w r x) column

-- what is left in the next row and column
left_is : {w : ℕ → ℕ → ℤ} {entries : List ℤ} (r c : ℕ) → IsEliminatedTo w (6 * r + c) entries → c < 6 → c ≤ r → left_in_row (w r c) entries r c ≡ left_after w c r c
unfolding left_after
left_is {w} {entries} r c e cl le =
    ap (λ z. w r c -ℤ z)
    (sum_below-same c _ _ (λ k lt.
    ap (λ z. z *ℤ by_rows entries c k) (row_entry e r k (omega arith) (omega arith))
    ∙ ap (λ z. cholesky w r k *ℤ z) (row_entry e c k (omega arith) (omega arith))))

-- one more entry
more : {w : ℕ → ℕ → ℤ} {entries : List ℤ} (r c : ℕ) (x : ℤ) → IsEliminatedTo w (6 * r + c) entries → c < 6 → x ≡ cholesky w r c → unsigned_abs x < 2 ^ 57 → (r ≡ c → pos 1 ≤ℤ pivot w c) → IsEliminatedTo w (6 * r + c + 1) (entries ++ x ∷ [])
more {w} {entries} r c x e cl is small pivots =
    record {
      count = length_push entries x ∙ ap (λ n. n + 1) e.count;
      values = λ t lt.
          elim (cases_lt t (6 * r + c)) [
            | inl before ↦ get_or_append_left entries (x ∷ []) (pos 0) t (omega (arith, e.count)) ∙ e.values t before
            | inr here ↦
                let row : t / 6 ≡ r = omega arith in
                let column : t % 6 ≡ c = omega arith in
                get_or_push entries x (pos 0) t (omega (arith, e.count)) ∙ is ∙ sym (ap (λ y. cholesky w y (t % 6)) row ∙ ap (λ y. cholesky w r y) column)
          ];
      small = All-push (λ y. unsigned_abs y < 2 ^ 57) entries x e.small small;
      pivots = λ d dl lt.
          elim (cases_lt (7 * d) (6 * r + c)) [
            | inl before ↦ e.pivots d dl before
            | inr here ↦
                (let column : c ≡ d = omega arith in
                let P : ℕ → Type 0 = λ y. pos 1 ≤ℤ pivot w y in
                subst P column (pivots (omega arith)))
          ];
    }

-- what an entry answers
pub record IsEntryAnswer (left : ℤ) (entries : List ℤ) (r c : ℕ) (answer : Option ℤ) : Type 0 where
  pub above : r < c → answer ≡ Some (pos 0)
  pub own : r ≡ c → MatchOption answer (left_in_row left entries r c <ℤ pos 1) (λ e. (pos 1 ≤ℤ left_in_row left entries r c) × (e ≡ root_of (left_in_row left entries r c)))
  pub below : c < r → MatchOption answer (2 ^ 57 ≤ unsigned_abs (nearest_of (left_in_row left entries r c) (by_rows entries c c))) (λ e. (unsigned_abs e < 2 ^ 57) × (e ≡ nearest_of (left_in_row left entries r c) (by_rows entries c c)))

-- the diagonal of the node's own rows is small
abbrev pub IsBounded : (ℕ → ℕ → ℤ) → Type 0
IsBounded w = (c : ℕ) → c < 6 → w c c <ℤ pos (2 ^ 113)

pub entry_more : RecurrenceLaws → {w : ℕ → ℕ → ℤ} {entries : List ℤ} (r c : ℕ) (x : ℤ) → IsBounded w → IsEliminatedTo w (6 * r + c) entries → c < 6 → IsEntryAnswer (w r c) entries r c (Some x) → IsEliminatedTo w (6 * r + c + 1) (entries ++ x ∷ [])
entry_more laws {w} {entries} r c x bounded e cl answer =
    elim (cases_lt r c) [
      | inl above ↦ (let is : x ≡ pos 0 = some_is (answer.above above) in more r c x e cl (is ∙ sym (laws.entries.above w r c above)) (omega (arith, ap unsigned_abs is)) (λ q. absurd (omega arith)))
      | inr from ↦
          let left = left_is r c e cl from in
          elim (cases_eq r c) [
            | inl same ↦
                (let own = answer.own same in
                let pivot_is : left_in_row (w r c) entries r c ≡ pivot w c = left ∙ ap (λ y. left_after w c y c) same in
                let positive : pos 1 ≤ℤ pivot w c = rw pivot_is at own.0 in
                let value : x ≡ cholesky w r c = own.1 ∙ ap root_of pivot_is ∙ sym (laws.entries.diagonal w c positive) ∙ ap (λ y. cholesky w y c) (sym same) in
                let below = bounded c cl in
                let falls = laws.sizes.falls w c in
                let bounds = root_bounds (pivot w c) positive (omega (arith, int_sums)) in
                let root : x ≡ root_of (pivot w c) = own.1 ∙ ap root_of pivot_is in
                more r c x e cl value (omega (arith, int_sums, bounds.0, bounds.1)) (λ q. positive))
            | inr apart ↦
                let below = answer.below (omega arith) in
                let positive = e.pivots c cl (omega arith) in
                let value : x ≡ cholesky w r c =
                below.1 ∙ ap (λ y. nearest_of y (by_rows entries c c)) left ∙ ap (λ y. nearest_of (left_after w c r c) y) (row_entry e c c cl (omega arith))
                ∙ sym (laws.entries.below w r c (omega arith) positive)
                in
                more r c x e cl value below.0 (λ q. absurd (apart q))
          ]
    ]
  where
    some_is : {x y : ℤ} → Some x ≡ Some y → x ≡ y
    some_is h = cc

-- no entry: the pivot, or an entry that is too large
pub entry_none : RecurrenceLaws → {w : ℕ → ℕ → ℤ} {entries : List ℤ} (r c : ℕ) → IsEliminatedTo w (6 * r + c) entries → c < 6 → IsEntryAnswer (w r c) entries r c None → ((r ≡ c) × (pivot w c <ℤ pos 1)) ⊎ ((c < r) × (2 ^ 57 ≤ unsigned_abs (cholesky w r c)))
entry_none laws {w} {entries} r c e cl answer =
    elim (cases_lt r c) [
      | inl above ↦ (let none = answer.above above in absurd cc)
      | inr from ↦
          let left = left_is r c e cl from in
          elim (cases_eq r c) [
            | inl same ↦ inl (same, rw (left ∙ ap (λ y. left_after w c y c) same) at (answer.own same))
            | inr apart ↦
                let positive = e.pivots c cl (omega arith) in
                let value : nearest_of (left_in_row (w r c) entries r c) (by_rows entries c c) ≡ cholesky w r c =
                ap (λ y. nearest_of y (by_rows entries c c)) left ∙ ap (λ y. nearest_of (left_after w c r c) y) (row_entry e c c cl (omega arith))
                ∙ sym (laws.entries.below w r c (omega arith) positive)
                in
                inr (omega arith, rw (← value) (answer.below (omega arith)))
          ]
    ]

-- in the node's own rows that is a pivot below 1, in the row reached
pub pivot_broken : RecurrenceLaws → {w : ℕ → ℕ → ℤ} {entries : List ℤ} (r c : ℕ) → IsBounded w → IsEliminatedTo w (6 * r + c) entries → c < 6 → r < 6 → IsEntryAnswer (w r c) entries r c None → ((d : ℕ) → d < r → pos 1 ≤ℤ pivot w d) × (pivot w r <ℤ pos 1)
pivot_broken laws {w} r c bounded e cl rl answer = (
  λ d lt. e.pivots d (omega arith) (omega arith),
  elim (entry_none laws r c e cl answer) [
    | inl (same, low) ↦ (let P : ℕ → Type 0 = λ y. pivot w y <ℤ pos 1 in subst P (sym same) low)
    | inr (lt, large) ↦ laws.sizes.large w r c lt (bounded r rl) large
  ],
)

-- past them it is a large entry
pub wide_entry : RecurrenceLaws → {w : ℕ → ℕ → ℤ} {entries : List ℤ} (r c : ℕ) → IsEliminatedTo w (6 * r + c) entries → c < 6 → 6 ≤ r → IsEntryAnswer (w r c) entries r c None → 2 ^ 57 ≤ unsigned_abs (cholesky w r c)
wide_entry laws r c e cl from answer =
    elim (entry_none laws r c e cl answer) [ inl (same, low) ↦ absurd (omega arith) | inr (lt, large) ↦ large ]

-- a place by its row and column
place_is : (s : ℕ) → 6 * (s / 6) + s % 6 ≡ s
place_is s = omega arith

pub at_row : {w : ℕ → ℕ → ℤ} {entries : List ℤ} (s : ℕ) → IsEliminatedTo w s entries → IsEliminatedTo w (6 * (s / 6) + s % 6) entries
at_row {w} {entries} s e = let P : ℕ → Type 0 = λ n. IsEliminatedTo w n entries in subst P (sym (place_is s)) e

pub from_row : {w : ℕ → ℕ → ℤ} {entries : List ℤ} (s : ℕ) → IsEliminatedTo w (6 * (s / 6) + s % 6 + 1) entries → IsEliminatedTo w (s + 1) entries
from_row {w} {entries} s e = let P : ℕ → Type 0 = λ n. IsEliminatedTo w (n + 1) entries in subst P (place_is s) e

pub answer_at : {entries : List ℤ} {answer : Option ℤ} (work : List ℤ) (s : ℕ) (left : ℤ) → left ≡ get_or work s (pos 0) → IsEntryAnswer left entries (s / 6) (s % 6) answer → IsEntryAnswer (by_rows work (s / 6) (s % 6)) entries (s / 6) (s % 6) answer
answer_at {entries} {answer} work s left is h =
    let P : ℤ → Type 0 = λ x. IsEntryAnswer x entries (s / 6) (s % 6) answer in
    subst P (is ∙ ap (λ n. get_or work n (pos 0)) (sym (place_is s))) h

-- a node's pivot, read for a quotient
pub pivot_positive : RecurrenceLaws → {w : ℕ → ℕ → ℤ} {entries : List ℤ} (s : ℕ) → IsEliminatedTo w s entries → s % 6 < s / 6 → pos 1 ≤ℤ by_rows entries (s % 6) (s % 6)
pivot_positive laws {w} {entries} s e lt =
    let ok = e.pivots (s % 6) (omega arith) (omega arith) in
    rw (row_entry e (s % 6) (s % 6) (omega arith) (omega arith))
    (rw (laws.entries.diagonal w (s % 6) ok) ((root_of-is (pivot w (s % 6)) (omega (arith, int_sums))).greatest (pos 1) (omega (arith, int_sums))))

-- the entry that is put at the end is as it was computed
pub pushed_is : {w : ℕ → ℕ → ℤ} {s : ℕ} (entries : List ℤ) (x : ℤ) → IsEliminatedTo w s (entries ++ x ∷ []) → to_z w64 (of_z w64 x) ≡ x
pushed_is entries x e =
    let end = get_or_push entries x (pos 0) (length entries) refl in
    let small : unsigned_abs x < 2 ^ 57 = rw end at (e.small (length entries) (pos 0) (omega (arith, length_push entries x))) in
    narrow_is x (omega arith)
