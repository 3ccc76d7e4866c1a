-- A number put into a rising list where a search from a place on stops.
use Rattle.std.proofs.Common.{◌≡◌, ◌≢◌, ℕ, ◌+◌, ◌<◌, ◌≤◌, List, length, get_or, inl, inr, ◌∙◌, sym, arith}
use Rattle.std.specs.List.{insert}
use Rattle.std.proofs.lemmas.Bool.{cases_eq}
use Rattle.std.proofs.lemmas.List.{get_or_default}
use Rattle.std.proofs.lemmas.List.Edits.{length-insert, get_or-insert_at}
use Rattle.lists.specs.Rising.{IsRising}
use Rattle.lists.proofs.RisingLemmas.{IsPlace, IsRising-insert, Contains-insert, IsRising-le}
use Rattle.elim_order.specs.State.{InsertsUpTo}

-- up to a place of a rising list no number is greater than that there
up_to_place : (xs : List ℕ) (p n k : ℕ) → IsRising xs → p < length xs → get_or xs p 0 ≡ n → k < p + 1 → get_or xs k 0 ≤ n
up_to_place xs p n k up lt at kl = omega (arith, at, IsRising-le xs up k p (omega arith) lt)

pub already_there : (xs : List ℕ) (p n : ℕ) → IsRising xs → p < length xs → get_or xs p 0 ≡ n → InsertsUpTo xs xs n (p + 1)
already_there xs p n up lt at =
    record {
      rising = up;
      members = λ k. (λ h. inl h, λ h. elim h [ inl o ↦ o | inr e ↦ (p, lt, get_or_default xs p k 0 lt ∙ at ∙ sym e) ]);
      within = omega arith;
      up_to = λ k kl. up_to_place xs p n k up lt at kl;
    }

pub put_there : (xs : List ℕ) (p n : ℕ) → IsRising xs → p ≤ length xs → ((k : ℕ) → k < p → get_or xs k 0 < n) → ((k : ℕ) → p ≤ k → k < length xs → n ≤ get_or xs k 0) → (p < length xs → get_or xs p 0 ≢ n) → InsertsUpTo xs (insert xs p n) n (p + 1)
put_there xs p n up within below from free =
    let place : IsPlace xs p n = record { within = within; below = below; above = above } in
    let rising = IsRising-insert xs p n up place in
    let len = length-insert xs p n within in
    record {
      rising = rising;
      members = λ k. Contains-insert xs p n k within;
      within = omega arith;
      up_to = λ k kl. up_to_place (insert xs p n) p n k rising (omega arith) (get_or-insert_at xs p n 0 within) kl;
    }
  where
    above : (k : ℕ) → p ≤ k → k < length xs → n < get_or xs k 0
    above k pk kl =
        let pl : p < length xs = omega arith in
        elim (cases_eq (get_or xs p 0) n) [
          | inl e ↦ absurd (free pl e)
          | inr ne ↦ omega (arith, from p (omega arith) pl, IsRising-le xs up p k pk kl)
        ]
