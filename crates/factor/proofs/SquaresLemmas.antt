-- Totals of squares, row after row.
use Rattle.std.proofs.Common.{◌≡◌, ℕ, ◌+◌, ◌-◌, ◌*◌, ◌^◌, ◌<◌, ◌≤◌, List, length, get_or, set, take, drop, ◌∙◌, ap, sym, subst, arith, ◌⊎◌, inl, inr, ℤ, pos, ◌+ℤ◌, ◌≤ℤ◌, ◌<ℤ◌, to_z, of_z, true, false, int_le}
use Rattle.std.proofs.lemmas.Int.{ints}
use Rattle.std.specs.Int.{w128}
use Rattle.std.specs.Int.RustNames.{unsigned_abs}
use Rattle.std.proofs.lemmas.Bool.{cases_eq}
use Rattle.std.proofs.lemmas.List.{get_or-set_same, get_or-set_other, length-take, length-drop}
use Rattle.factor.specs.Panel.{partial_product}
use Rattle.factor.specs.Squares.{total_squares}
use Rattle.factor.proofs.EntryLemmas.{sliced_dot}
use Rattle.factor.proofs.GatherLemmas.{put_on}

-- the totals of the rows before r
pub record IsTotalledTo (old cur entries : List ℤ) (row : ℕ) : Type 0 where
  pub totals : (r : ℕ) → r < row → get_or cur r (pos 0) ≡ total_squares old entries r
  pub rest : (r : ℕ) → row ≤ r → get_or cur r (pos 0) ≡ get_or old r (pos 0)
  pub narrow : (r : ℕ) → 6 ≤ r → r < row → total_squares old entries r <ℤ pos (2 ^ 113)

-- a row's total, as it is computed
pub total_is : (old cur entries : List ℤ) (row : ℕ) (own : ℤ) → IsTotalledTo old cur entries row → 6 * row + 6 ≤ length entries → unsigned_abs (get_or old row (pos 0)) < 2 ^ 126 → own ≡ partial_product (length (take (6 * row + 6 - 6 * row) (drop (6 * row) entries))) (take (6 * row + 6 - 6 * row) (drop (6 * row) entries)) (take (6 * row + 6 - 6 * row) (drop (6 * row) entries)) → unsigned_abs own < 2 ^ 117 → to_z w128 (of_z w128 (to_z w128 (of_z w128 (get_or cur row (pos 0))) +ℤ to_z w128 (of_z w128 own))) ≡ total_squares old entries row
total_is old cur entries row own done in' small is own-small =
    let len : length (take (6 * row + 6 - 6 * row) (drop (6 * row) entries)) ≡ 6 = omega (arith, length-take (6 * row + 6 - 6 * row) (drop (6 * row) entries), length-drop (6 * row) entries, in') in
    let squares = is ∙ sliced_dot entries 6 (6 * row + 6 - 6 * row) (6 * row + 6 - 6 * row) (6 * row) (6 * row) len (omega arith) (omega arith) in
    let here = done.rest row (omega arith) in
    ap (λ z. to_z w128 (of_z w128 (to_z w128 (of_z w128 z) +ℤ to_z w128 (of_z w128 own)))) here
    ∙ put_on (get_or old row (pos 0)) own small (omega arith)
    ∙ ap (λ z. get_or old row (pos 0) +ℤ z) squares

pub totalled_more : (old cur entries : List ℤ) (row : ℕ) (y : ℤ) → row < length cur → IsTotalledTo old cur entries row → y ≡ total_squares old entries row → (row < 6) ⊎ (total_squares old entries row <ℤ pos (2 ^ 113)) → IsTotalledTo old (set cur row y) entries (row + 1)
totalled_more old cur entries row y in' done is side =
    record {
      totals = λ r lt.
          elim (cases_eq r row) [
            | inl e ↦ (let P : ℕ → Type 0 = λ x. get_or (set cur row y) x (pos 0) ≡ total_squares old entries x in subst P (sym e) (get_or-set_same cur row y (pos 0) in' ∙ is))
            | inr apart ↦ get_or-set_other cur row r y (pos 0) apart ∙ done.totals r (omega arith)
          ];
      rest = λ r le. get_or-set_other cur row r y (pos 0) (λ q. omega arith) ∙ done.rest r (omega arith);
      narrow = λ r from lt.
          elim (cases_eq r row) [
            | inl e ↦
                (let P : ℕ → Type 0 = λ x. total_squares old entries x <ℤ pos (2 ^ 113) in
                elim side [ inl own ↦ absurd (omega arith) | inr below ↦ subst P (sym e) below ])
            | inr apart ↦ done.narrow r from (omega arith)
          ];
    }

-- what the test of a total says
pub reached : (x exact : ℤ) → x ≡ exact → int_le (pos (2 ^ 113)) x ≡ true → pos (2 ^ 113) ≤ℤ exact
reached x exact is test = rw (← is) (omega (arith, ints))

pub not_reached : (x exact : ℤ) → x ≡ exact → int_le (pos (2 ^ 113)) x ≡ false → exact <ℤ pos (2 ^ 113)
not_reached x exact is test = rw (← is) (omega (arith, ints))
