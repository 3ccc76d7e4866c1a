-- A number put into the lists that are named.
use Rattle.std.proofs.Common.{ℕ, List, [], ◌∷◌, ◌++◌, Contains, inl, inr, ◌∙◌, sym, refl, arith, subst}
use Rattle.std.proofs.lemmas.List.Elements.{Contains-append_left, Contains-push_cases, Contains-push}
use Rattle.lists.specs.Rising.{IsRising}
use Rattle.lists.specs.Lists.{list_of, ListsNumber, ListsInAll}

pub lists_none : (a : List (List ℕ)) (x : ℕ) → ((q : ℕ) → IsRising (list_of a q)) → ListsInAll a a [] x
lists_none a x up =
    record {
      count = refl;
      rising = up;
      members = λ q d. (λ h. inl h, λ h. elim h [ inl old ↦ old | inr ((k, lt, is), e) ↦ absurd (omega arith) ]);
    }

pub lists_more : (a b c : List (List ℕ)) (named : List ℕ) (n x : ℕ) → ListsInAll a b named x → ListsNumber b c n x → ListsInAll a c (named ++ n ∷ []) x
lists_more a b c named n x f g =
    record {
      count = g.count ∙ f.count;
      rising = g.rising;
      members = λ q d. (
        λ h.
            elim ((g.members q d).0 h) [
              | inl before ↦ elim ((f.members q d).0 before) [ inl old ↦ inl old | inr (m, e) ↦ inr (Contains-append_left named (n ∷ []) q m, e) ]
              | inr (e, same) ↦ (let P : ℕ → Type 0 = λ z. Contains (named ++ n ∷ []) z in inr (subst P (sym e) (Contains-push named n), same))
            ],
        λ h.
            (g.members q d).1
            (elim h [
              | inl old ↦ inl ((f.members q d).1 (inl old))
              | inr (m, same) ↦ elim (Contains-push_cases named n q m) [ inl before ↦ inl ((f.members q d).1 (inr (before, same))) | inr e ↦ inr (sym e, same) ]
            ]),
      );
    }
