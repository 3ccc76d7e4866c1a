-- The lists of neighbours as a node is eliminated.
use Rattle.std.proofs.Common.{◌≡◌, ◌≢◌, ℕ, ◌<◌, List, [], ◌∷◌, ◌++◌, length, set, Contains, ◌⊎◌, inl, inr, ◌↔◌, ◌∙◌, sym, arith, subst}
use Rattle.std.proofs.lemmas.List.Elements.{Contains-append_left, Contains-push_cases, Contains-push}
use Rattle.std.proofs.lemmas.Bool.{cases_eq}
use Rattle.lists.specs.Rising.{IsRising}
use Rattle.lists.specs.Lists.{list_of}
use Rattle.elim_order.specs.Graph.{eliminated}
use Rattle.elim_order.specs.State.{AreNeighbourLists, told, IsGraph, TakesFront}
use Rattle.elim_order.proofs.ListLemmas.{contains_none, list_of-here, list_of-other}

pub joins_none : (old new : List ℕ) (gone own : ℕ) → IsRising new → ((k : ℕ) → Contains new k ↔ (Contains old k × (k ≢ gone))) → TakesFront old new [] gone own
joins_none old new gone own up members =
    record {
      rising = up;
      members = λ k. (λ h. inl ((members k).0 h), λ h. elim h [ inl o ↦ (members k).1 o | inr (none, _) ↦ absurd (contains_none none) ]);
    }

pub joins_more : (old cur new done : List ℕ) (gone own y : ℕ) → TakesFront old cur done gone own → IsRising new → ((k : ℕ) → Contains new k ↔ (Contains cur k ⊎ (k ≡ y))) → y ≢ own → TakesFront old new (done ++ y ∷ []) gone own
joins_more old cur new done gone own y j up members ne =
    record {
      rising = up;
      members = λ k. (
        λ h.
            elim ((members k).0 h) [
              | inl c ↦ elim ((j.members k).0 c) [ inl o ↦ inl o | inr (d, apart) ↦ inr (Contains-append_left done (y ∷ []) k d, apart) ]
              | inr e ↦ (let P : ℕ → Type 0 = λ z. Contains (done ++ y ∷ []) z × (z ≢ own) in inr (subst P (sym e) (Contains-push done y, ne)))
            ],
        λ h.
            (members k).1
            (elim h [
              | inl o ↦ inl ((j.members k).1 (inl o))
              | inr (d, apart) ↦ elim (Contains-push_cases done y k d) [ inl before ↦ inl ((j.members k).1 (inr (before, apart))) | inr e ↦ inr (sym e) ]
            ]),
      );
    }

pub joins_skip : (old cur done : List ℕ) (gone own y : ℕ) → TakesFront old cur done gone own → y ≡ own → TakesFront old cur (done ++ y ∷ []) gone own
joins_skip old cur done gone own y j same =
    record {
      rising = j.rising;
      members = λ k. (
        λ h. elim ((j.members k).0 h) [ inl o ↦ inl o | inr (d, apart) ↦ inr (Contains-append_left done (y ∷ []) k d, apart) ],
        λ h.
            (j.members k).1
            (elim h [
              | inl o ↦ inl o
              | inr (d, apart) ↦ elim (Contains-push_cases done y k d) [ inl before ↦ inr (before, apart) | inr e ↦ absurd (apart (sym e ∙ same)) ]
            ]),
      );
    }

-- of a front the nodes `done` have each other's lists joined, and lost the node
pub record JoinsSome (base cur : List (List ℕ)) (front done : List ℕ) (node : ℕ) : Type 0 where
  pub rising : (n : ℕ) → IsRising (list_of cur n)
  pub members : (n k : ℕ) → told cur n k ↔ ((told base n k × ((k ≡ node) × Contains done n → ⊥)) ⊎ (Contains done n × (k ≢ n) × Contains front k))

pub joins_some_none : (base : List (List ℕ)) (front : List ℕ) (node : ℕ) → ((n : ℕ) → IsRising (list_of base n)) → JoinsSome base base front [] node
joins_some_none base front node up =
    record {
      rising = up;
      members = λ n k. (λ h. inl (h, λ (_, none). contains_none none), λ h. elim h [ inl (b, _) ↦ b | inr (none, _, _) ↦ absurd (contains_none none) ]);
    }

pub joins_some_more : (base cur : List (List ℕ)) (front done new : List ℕ) (node m : ℕ) → m < length cur → JoinsSome base cur front done node → TakesFront (list_of cur m) new front node m → JoinsSome base (set cur m new) front (done ++ m ∷ []) node
joins_some_more base cur front done new node m lt before j =
    let here = list_of-here cur m new lt in
    record {
      rising = λ n.
          elim (cases_eq n m) [
            | inl e ↦ (let P : ℕ → Type 0 = λ z. IsRising (list_of (set cur m new) z) in subst P (sym e) (subst IsRising (sym here) j.rising))
            | inr apart ↦ subst IsRising (sym (list_of-other cur m n new apart)) (before.rising n)
          ];
      members = λ n k.
          elim (cases_eq n m) [
            | inl e ↦ (let P : ℕ → Type 0 = λ z. IsMember (set cur m new) z k in subst P (sym e) (let Q : List ℕ → Type 0 = λ xs. Contains xs k ↔ Target m k in subst Q (sym here) (at_own k)))
            | inr apart ↦ (let Q : List ℕ → Type 0 = λ xs. Contains xs k ↔ Target n k in subst Q (sym (list_of-other cur m n new apart)) (at_other n k apart))
          ];
    }
  where
    Target : ℕ → ℕ → Type 0
    Target n k = (told base n k × ((k ≡ node) × Contains (done ++ m ∷ []) n → ⊥)) ⊎ (Contains (done ++ m ∷ []) n × (k ≢ n) × Contains front k)

    IsMember : List (List ℕ) → ℕ → ℕ → Type 0
    IsMember lists n k = told lists n k ↔ Target n k

    at_own : (k : ℕ) → Contains new k ↔ Target m k
    at_own k = (
      λ h.
          elim ((j.members k).0 h) [
            | inl (c, ne) ↦
                elim ((before.members m k).0 c) [
                  | inl (b, _) ↦ inl (b, λ (e, _). ne e)
                  | inr (_, apart, f) ↦ inr (Contains-push done m, apart, f)
                ]
            | inr (f, apart) ↦ inr (Contains-push done m, apart, f)
          ],
      λ h.
          (j.members k).1
          (elim h [
            | inl (b, not_gone) ↦
                (let ne : k ≢ node = λ e. not_gone (e, Contains-push done m) in
                inl ((before.members m k).1 (inl (b, λ (e, _). ne e)), ne))
            | inr (_, apart, f) ↦ inr (f, apart)
          ]),
    )

    at_other : (n k : ℕ) → n ≢ m → told cur n k ↔ Target n k
    at_other n k apart =
        let back : Contains (done ++ m ∷ []) n → Contains done n = λ h. elim (Contains-push_cases done m n h) [ inl d ↦ d | inr e ↦ absurd (apart (sym e)) ] in (
          λ h.
              elim ((before.members n k).0 h) [
                | inl (b, not_gone) ↦ inl (b, λ (e, d). not_gone (e, back d))
                | inr (d, ne, f) ↦ inr (Contains-append_left done (m ∷ []) n d, ne, f)
              ],
          λ h.
              (before.members n k).1
              (elim h [
                | inl (b, not_gone) ↦ inl (b, λ (e, d). not_gone (e, Contains-append_left done (m ∷ []) n d))
                | inr (d, ne, f) ↦ inr (back d, ne, f)
              ]),
        )

-- once all of the front are done, the node is eliminated
pub joins_all : (old cur : List (List ℕ)) (node : ℕ) → node < length old → IsGraph old → JoinsSome (set old node []) cur (list_of old node) (list_of old node) node → AreNeighbourLists cur (eliminated (told old) node)
joins_all old cur node lt g j =
    record {
      rising = j.rising;
      members = λ n k. (
        λ h.
            elim ((j.members n k).0 h) [
              | inl (b, not_gone) ↦
                  (let ne : n ≢ node = from_base n k b in
                  let o = at_base n k ne b in
                  (ne, λ e. not_gone (e, g.converse n node (let P : ℕ → Type 0 = λ z. told old n z in subst P e o)), inl o))
              | inr (f, apart, f') ↦ (not_node n f, not_node k f', inr (λ e. apart (sym e), f, f'))
            ],
        λ (n-ne, k-ne, either).
            (j.members n k).1
            (elim either [
              | inl o ↦ inl (subst (λ (xs : List ℕ). Contains xs k) (sym (list_of-other old node n [] n-ne)) o, λ (e, _). k-ne e)
              | inr (apart, f, f') ↦ inr (f, λ e. apart (sym e), f')
            ]),
      );
    }
  where
    from_base : (n k : ℕ) → told (set old node []) n k → n ≢ node
    from_base n k b e =
        contains_none
        (subst (λ (xs : List ℕ). Contains xs k) (list_of-here old node [] lt)
        (let P : ℕ → Type 0 = λ z. told (set old node []) z k in subst P e b))

    at_base : (n k : ℕ) → n ≢ node → told (set old node []) n k → told old n k
    at_base n k ne b = subst (λ (xs : List ℕ). Contains xs k) (list_of-other old node n [] ne) b

    not_node : (n : ℕ) → told old node n → n ≢ node
    not_node n f e = g.apart node (let P : ℕ → Type 0 = λ z. told old node z in subst P e f)

-- what is left is a graph too
pub IsGraph-eliminated : (old new : List (List ℕ)) (node : ℕ) → length new ≡ length old → IsGraph old → AreNeighbourLists new (eliminated (told old) node) → IsGraph new
IsGraph-eliminated old new node count g lists =
    record {
      rising = lists.rising;
      in_range = λ n k h. omega (arith, count, elim ((lists.members n k).0 h).2 as (λ _. k < length old) [ inl o ↦ g.in_range n k o | inr (_, _, o) ↦ g.in_range node k o ]);
      converse = λ n k h.
          let both = (lists.members n k).0 h in
          (lists.members k n).1 (both.1, both.0, elim both.2 as (λ _. told old k n ⊎ ((k ≢ n) × told old node k × told old node n)) [ inl o ↦ inl (g.converse n k o) | inr (apart, o, o') ↦ inr (λ e. apart (sym e), o', o) ]);
      apart = λ n h. elim ((lists.members n n).0 h).2 as (λ _. ⊥) [ inl o ↦ g.apart n o | inr (apart, _, _) ↦ apart (λ i. n) ];
    }
