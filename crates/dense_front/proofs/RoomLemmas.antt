-- Lists that grow at their end.
use Rattle.std.proofs.Common.{arith, ◌≡◌, ◌⊎◌, inl, inr, ℕ, ◌+◌, ◌<◌, ap, sym, ◌∙◌, subst, List, [], ◌∷◌, ◌++◌, length, get_or, length-append}
use Rattle.std.proofs.Math.Seq.{get_or-append_seam}
use Rattle.std.proofs.lemmas.Bool.{cases_lt}
use Rattle.std.proofs.lemmas.List.{get_or_append_left}

-- one item more, at the end
pub pushed : {X : Type 0} (P : ℕ → X → Type 0) (xs ys : List X) (x d : X) (n : ℕ) → length xs ≡ n → ys ≡ xs ++ x ∷ [] → P n x → ((s : ℕ) → s < n → P s (get_or xs s d)) →
    (length ys ≡ n + 1) × ((s : ℕ) → s < n + 1 → P s (get_or ys s d))
pushed {X} P xs ys x d n count is here before = (
  omega (arith, ap (λ (zs : List X). length zs) is, length-append xs (x ∷ []), count),
  λ s below.
      subst (λ (zs : List X). P s (get_or zs s d)) (sym is) (elim (cases_lt s n) [
        | inl less ↦ subst (P s) (sym (get_or_append_left xs (x ∷ []) d s (omega (arith, count, less)))) (before s less)
        | inr ge ↦
            (let last : s ≡ length xs = omega (arith, below, ge, count) in
            let Q : ℕ → Type 0 = λ k. P k (get_or (xs ++ x ∷ []) k d) in
            subst Q (sym last) (subst (P (length xs)) (sym (get_or-append_seam xs x [] d)) (subst (λ (k : ℕ). P k x) (sym count) here)))
      ]),
)
