-- The marks of the nodes left.
use Rattle.std.proofs.Common.{◌≡◌, ℕ, zero, suc, ◌+◌, ◌<◌, List, [], ◌∷◌, ◌++◌, length, set, replicate, Contains, inl, inr, ◌↔◌, ◌∙◌, sym, ap, arith, subst, refl, Bool, true, false}
use Rattle.std.proofs.lemmas.Bool.{cases_lt, cases_eq}
use Rattle.std.proofs.lemmas.List.{get_or_past, get_or-set_same, get_or-set_other, length_push}
use Rattle.std.proofs.lemmas.List.Elements.{Contains-append_left, Contains-push, Contains-push_cases}
use Rattle.elim_order.specs.Queue.{is_left, left_count, Marks}

false_true : {P : Type 0} → false ≡ true → P
false_true e = cc

-- only what is in the list is left
pub left_in_range : (left : List Bool) (n : ℕ) → is_left left n ≡ true → n < length left
left_in_range left n l =
    elim (cases_lt n (length left)) [ inl lt ↦ lt | inr past ↦ false_true (sym (get_or_past left n false past) ∙ l) ]

pub left_count-set : (left : List Bool) (n : ℕ) → is_left left n ≡ true → left_count (set left n false) + 1 ≡ left_count left
left_count-set [] n l = false_true l
left_count-set (true ∷ left) zero l = omega arith
left_count-set (false ∷ left) zero l = false_true l
left_count-set (true ∷ left) (suc n) l = omega (arith, left_count-set left n l)
left_count-set (false ∷ left) (suc n) l = left_count-set left n l

pub left_count-none : (left : List Bool) → ((n : ℕ) → is_left left n ≡ true → ⊥) → left_count left ≡ 0
left_count-none [] none = refl
left_count-none (true ∷ left) none = absurd (none zero refl)
left_count-none (false ∷ left) none = left_count-none left (λ n. none (suc n))

pub left_count-all : (n : ℕ) → left_count (replicate n true) ≡ n
left_count-all zero = refl
left_count-all (suc n) = ap suc (left_count-all n)

pub marks_more : (done : List ℕ) (node : ℕ) (old cur : List Bool) → ((n : ℕ) → Contains done n → n < node) → is_left old node ≡ true → Marks done old cur → Marks (done ++ node ∷ []) old (set cur node false)
marks_more done node old cur below l m =
    let here = (m.left node).1 (l, λ h. omega (arith, below node h)) in
    let gone : is_left (set cur node false) node ≡ false = get_or-set_same cur node false false (left_in_range cur node here) in
    record {
      left = λ n.
          elim (cases_eq n node) [
            | inl e ↦
                (let P : ℕ → Type 0 = λ z. (is_left (set cur node false) z ≡ true) ↔ ((is_left old z ≡ true) × (Contains (done ++ node ∷ []) z → ⊥)) in
                subst P (sym e) (λ h. false_true (sym gone ∙ h), λ (_, out). absurd (out (Contains-push done node))))
            | inr apart ↦
                let same = get_or-set_other cur node n false false apart in (
                  λ h.
                      let both = (m.left n).0 (sym same ∙ h) in
                      (both.0, λ d. elim (Contains-push_cases done node n d) [ inl before ↦ both.1 before | inr e ↦ apart (sym e) ]),
                  λ (h, out). same ∙ (m.left n).1 (h, λ d. out (Contains-append_left done (node ∷ []) n d)),
                )
          ];
      count = omega (arith, m.count, left_count-set cur node here, length_push done node);
    }
