-- Lists of numbers, as pairs are put in.
use Rattle.lists.specs.Lists.{list_of, LinksLists, ListsNumber}
use Rattle.std.proofs.Common.{◌≡◌, ℕ, List, [], ◌∷◌, ◌++◌, get_or, Contains, inl, inr, ◌↔◌, ◌∙◌, sym, ap, refl, arith, subst}
use Rattle.std.proofs.lemmas.List.Elements.{Contains-append_left, Contains-append_right, Contains-append_cases}
use Rattle.lists.specs.Rising.{IsRising}

-- a pair is listed alone
Contains-one : (a b n k : ℕ) → Contains {X = ℕ × ℕ} ((n, k) ∷ []) (a, b) ↔ ((a ≡ n) × (b ≡ k))
Contains-one a b n k = (
  λ (i, lt, is).
      let first : i ≡ 0 = omega arith in
      let pair : ℕ × ℕ = (n, k) in
      let other : ℕ × ℕ = (a, b) in
      let P : ℕ → Type 0 = λ x. get_or (pair ∷ []) x other ≡ other in
      let is' : pair ≡ other = subst P first is in
      (sym (ap (λ (p : ℕ × ℕ). p.0) is'), sym (ap (λ (p : ℕ × ℕ). p.1) is')),
  λ (e, f). (0, omega arith, cc),
)

pub LinksLists-both : (a b c : List (List ℕ)) (n k : ℕ) → ListsNumber a b n k → ListsNumber b c k n → LinksLists a c ((n, k) ∷ [])
LinksLists-both a b c n k f g =
    record {
      count = g.count ∙ f.count;
      rising = g.rising;
      members = λ x y. (
        λ h.
            elim ((g.members x y).0 h) [
              | inl h' ↦ elim ((f.members x y).0 h') [ inl old ↦ inl old | inr e ↦ inr (inl ((Contains-one x y n k).1 e)) ]
              | inr (e, e') ↦ inr (inr ((Contains-one y x n k).1 (e', e)))
            ],
        λ h.
            (g.members x y).1
            (elim h [
              | inl old ↦ inl ((f.members x y).1 (inl old))
              | inr (inl one) ↦ inl ((f.members x y).1 (inr ((Contains-one x y n k).0 one)))
              | inr (inr one) ↦ (let e = (Contains-one y x n k).0 one in inr (e.1, e.0))
            ]),
      );
    }

pub LinksLists-append : (a b c : List (List ℕ)) (ps qs : List (ℕ × ℕ)) → LinksLists a b ps → LinksLists b c qs → LinksLists a c (ps ++ qs)
LinksLists-append a b c ps qs f g =
    record {
      count = g.count ∙ f.count;
      rising = g.rising;
      members = λ x y. (
        λ h.
            elim ((g.members x y).0 h) [
              | inl h' ↦
                  elim ((f.members x y).0 h') [
                    | inl old ↦ inl old
                    | inr (inl p) ↦ inr (inl (Contains-append_left ps qs (x, y) p))
                    | inr (inr p) ↦ inr (inr (Contains-append_left ps qs (y, x) p))
                  ]
              | inr (inl q) ↦ inr (inl (Contains-append_right ps qs (x, y) q))
              | inr (inr q) ↦ inr (inr (Contains-append_right ps qs (y, x) q))
            ],
        λ h.
            (g.members x y).1
            (elim h [
              | inl old ↦ inl ((f.members x y).1 (inl old))
              | inr (inl one) ↦ elim (Contains-append_cases ps qs (x, y) one) [ inl p ↦ inl ((f.members x y).1 (inr (inl p))) | inr q ↦ inr (inl q) ]
              | inr (inr one) ↦ elim (Contains-append_cases ps qs (y, x) one) [ inl p ↦ inl ((f.members x y).1 (inr (inr p))) | inr q ↦ inr (inr q) ]
            ]),
      );
    }
