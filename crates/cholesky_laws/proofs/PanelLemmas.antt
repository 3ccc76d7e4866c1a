-- A node's columns are the factor of what is left for its rows.
use Rattle.std.proofs.Common.{◌≡◌, ℕ, zero, suc, ◌+◌, ◌<◌, ◌≤◌, ◌∙◌, sym, ap, arith, subst, inl, inr, add-zero, add-suc, ℤ, pos, ◌-ℤ◌, ◌*ℤ◌, ◌≤ℤ◌}
use Rattle.std.proofs.lemmas.Bool.{cases_lt, cases_eq}
use Rattle.int_laws.proofs.Sums.{int_sums}
use Rattle.int_laws.specs.Division.{nearest_of}
use Rattle.int_laws.specs.Root.{root_of}
use Rattle.cholesky_laws.specs.Recurrence.{cholesky, left_after, pivot}
use Rattle.cholesky_laws.specs.Laws.{HoldsRemainder}
use Rattle.cholesky_laws.proofs.RecurrenceLemmas.{cases_pivot, cholesky-broken, cholesky-above, cholesky-diagonal, cholesky-below, left_after-none, left_after-next}

-- the same after c more columns
abbrev AgreesAfter : (a w : ℕ → ℕ → ℤ) (m rows : ℕ) (f : ℕ → ℕ) → ℕ → Type 0
AgreesAfter a w m rows f c = (r k : ℕ) → r < rows → k < 6 → k ≤ r → left_after w c r k ≡ left_after a (m + c) (f r) (m + k)

same_pivot : {a w : ℕ → ℕ → ℤ} {m rows : ℕ} {f : ℕ → ℕ} (p : HoldsRemainder a w m rows f) (c : ℕ) → c < 6 → AgreesAfter a w m rows f c → pivot w c ≡ pivot a (m + c)
same_pivot {a} {w} {m} {rows} {f} p c lt same =
    let wide = p.whole in
    same c c (omega arith) lt (omega arith) ∙ ap (λ i. left_after a (m + c) i (m + c)) (p.own c lt)

same_entry : {a w : ℕ → ℕ → ℤ} {m rows : ℕ} {f : ℕ → ℕ} (p : HoldsRemainder a w m rows f) (r c : ℕ) → r < rows → c < 6 → AgreesAfter a w m rows f c → cholesky w r c ≡ cholesky a (f r) (m + c)
same_entry {a} {w} {m} {rows} {f} p r c in' lt same =
    let pivots = same_pivot p c lt same in
    elim (cases_pivot (pivot a (m + c))) [
      | inl low ↦ cholesky-broken w r c (omega (arith, int_sums)) ∙ sym (cholesky-broken a (f r) (m + c) low)
      | inr ok ↦
          let w-ok : pos 1 ≤ℤ pivot w c = omega (arith, int_sums) in
          let diagonal : cholesky w c c ≡ cholesky a (m + c) (m + c) =
          cholesky-diagonal w c w-ok ∙ ap root_of pivots ∙ sym (cholesky-diagonal a (m + c) ok)
          in
          elim (cases_lt r c) [
            | inl above ↦
                let e = p.own r (omega arith) in
                cholesky-above w r c above ∙ sym (cholesky-above a (f r) (m + c) (omega arith))
            | inr from ↦
                elim (cases_eq r c) [
                  | inl e ↦
                      (let P : ℕ → Type 0 = λ x. cholesky w x c ≡ cholesky a (f x) (m + c) in
                      subst P (sym e) (diagonal ∙ ap (λ i. cholesky a i (m + c)) (sym (p.own c lt))))
                  | inr apart ↦
                      let past : m + c < f r =
                      elim (cases_lt r 6) [ inl own ↦ (let e = p.own r own in omega arith) | inr later ↦ (let e = p.later r later in' in omega arith) ]
                      in
                      cholesky-below w r c (omega arith) w-ok
                      ∙ ap (λ z. nearest_of z (cholesky w c c)) (same r c in' lt (omega arith))
                      ∙ ap (λ z. nearest_of (left_after a (m + c) (f r) (m + c)) z) diagonal
                      ∙ sym (cholesky-below a (f r) (m + c) past ok)
                ]
          ]
    ]

agrees : {a w : ℕ → ℕ → ℤ} {m rows : ℕ} {f : ℕ → ℕ} (p : HoldsRemainder a w m rows f) (c : ℕ) → c ≤ 6 → AgreesAfter a w m rows f c
agrees {a} {w} {m} {rows} {f} p zero le r k in' kl kr =
    left_after-none w r k ∙ p.left r k in' kl kr ∙ ap (λ x. left_after a x (f r) (m + k)) (sym (add-zero m))
agrees {a} {w} {m} {rows} {f} p (suc c) le r k in' kl kr =
    let before = agrees p c (omega arith) in
    let wide = p.whole in
    let here = before r k in' kl kr in
    let entry = same_entry p r c in' (omega arith) before in
    let entry' : cholesky w k c ≡ cholesky a (m + k) (m + c) =
    same_entry p k c (omega arith) (omega arith) before ∙ ap (λ i. cholesky a i (m + c)) (p.own k kl)
    in
    left_after-next w c r k
    ∙ ap (λ z. z -ℤ (cholesky w r c *ℤ cholesky w k c)) here
    ∙ ap (λ z. left_after a (m + c) (f r) (m + k) -ℤ (z *ℤ cholesky w k c)) entry
    ∙ ap (λ z. left_after a (m + c) (f r) (m + k) -ℤ (cholesky a (f r) (m + c) *ℤ z)) entry'
    ∙ sym (left_after-next a (m + c) (f r) (m + k))
    ∙ ap (λ x. left_after a x (f r) (m + k)) (sym (add-suc m c))

-- the columns of the panel are those of the factor
pub panel-entry : {a w : ℕ → ℕ → ℤ} {m rows : ℕ} {f : ℕ → ℕ} → HoldsRemainder a w m rows f → (r c : ℕ) → r < rows → c < 6 → cholesky w r c ≡ cholesky a (f r) (m + c)
panel-entry p r c in' lt = same_entry p r c in' lt (agrees p c (omega arith))

pub panel-pivot : {a w : ℕ → ℕ → ℤ} {m rows : ℕ} {f : ℕ → ℕ} → HoldsRemainder a w m rows f → (c : ℕ) → c < 6 → pivot w c ≡ pivot a (m + c)
panel-pivot p c lt = same_pivot p c lt (agrees p c (omega arith))
