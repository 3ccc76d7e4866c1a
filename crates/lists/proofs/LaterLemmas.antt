-- Numbers put into a rising list.
use Rattle.std.proofs.Common.{ℕ, ◌<◌, ◌≤◌, List, [], ◌∷◌, ◌++◌, Contains, ◌⊎◌, inl, inr, ◌↔◌, ◌≡◌, sym, arith, subst}
use Rattle.std.proofs.lemmas.List.Elements.{Contains-append_left, Contains-push_cases, Contains-push}
use Rattle.lists.specs.Rising.{IsRising, InsertsLater}

pub inserts_more : (old cur new ns : List ℕ) (y least : ℕ) → InsertsLater old cur ns least → IsRising new → ((x : ℕ) → Contains new x ↔ (Contains cur x ⊎ (x ≡ y))) → least < y → InsertsLater old new (ns ++ y ∷ []) least
inserts_more old cur new ns y least done up members above =
    record {
      rising = up;
      members = λ x. (
        λ h.
            elim ((members x).0 h) [
              | inl c ↦ elim ((done.members x).0 c) [ inl o ↦ inl o | inr (n, lt) ↦ inr (Contains-append_left ns (y ∷ []) x n, lt) ]
              | inr e ↦ (let P : ℕ → Type 0 = λ z. Contains old z ⊎ (Contains (ns ++ y ∷ []) z × (least < z)) in subst P (sym e) (inr (Contains-push ns y, above)))
            ],
        λ h.
            (members x).1
            (elim h [
              | inl o ↦ inl ((done.members x).1 (inl o))
              | inr (n, lt) ↦ elim (Contains-push_cases ns y x n) [ inl before ↦ inl ((done.members x).1 (inr (before, lt))) | inr e ↦ inr (sym e) ]
            ]),
      );
    }

pub inserts_skip : (old cur ns : List ℕ) (y least : ℕ) → InsertsLater old cur ns least → y ≤ least → InsertsLater old cur (ns ++ y ∷ []) least
inserts_skip old cur ns y least done low =
    record {
      rising = done.rising;
      members = λ x. (
        λ h. elim ((done.members x).0 h) [ inl o ↦ inl o | inr (n, lt) ↦ inr (Contains-append_left ns (y ∷ []) x n, lt) ],
        λ h.
            (done.members x).1
            (elim h [
              | inl o ↦ inl o
              | inr (n, lt) ↦ elim (Contains-push_cases ns y x n) [ inl before ↦ inr (before, lt) | inr e ↦ absurd (omega arith) ]
            ]),
      );
    }
