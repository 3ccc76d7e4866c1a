-- The queue of the nodes left.
use Rattle.std.proofs.Common.{◌≡◌, ℕ, ◌+◌, ◌<◌, List, [], ◌∷◌, ◌++◌, length, set, Contains, inl, inr, ◌∙◌, sym, ap, arith, subst, Bool, true}
use Rattle.std.specs.List.{filter}
use Rattle.std.proofs.lemmas.Bool.{cases_lt, cases_eq, and_parts, and_from, eqb-true, eq-eqb}
use Rattle.std.proofs.lemmas.List.Kept.{AllPairs-filter}
use Rattle.std.proofs.lemmas.List.Elements.{Contains-append_left, Contains-push_cases, Contains-push}
use Rattle.lists.specs.Rising.{IsRising}
use Rattle.lists.specs.Lists.{list_of, ListsNumber}
use Rattle.elim_order.specs.Queue.{key_of, is_left, is_current, IsQueue, IsLeastKey, Queues}
use Rattle.elim_order.proofs.ListLemmas.{contains_none, Contains-filter, list_of-here, list_of-other}

pub current_parts : (lists : List (List ℕ)) (left : List Bool) (key n : ℕ) → is_current lists left key n ≡ true → (is_left left n ≡ true) × (key_of lists n ≡ key)
current_parts lists left key n h =
    let both = and_parts (is_left left n) _ h in
    (both.0, eqb-true (key_of lists n) key both.1)

pub current_from : (lists : List (List ℕ)) (left : List Bool) (key n : ℕ) → is_left left n ≡ true → key_of lists n ≡ key → is_current lists left key n ≡ true
current_from lists left key n l e = and_from (is_left left n) _ l (eq-eqb (key_of lists n) key e)

-- one of the queue's lists keeps only those that belong there
pub queue_kept : (lists : List (List ℕ)) (left : List Bool) (queue : List (List ℕ)) (key : ℕ) (found : List ℕ) → key < length queue → IsQueue lists left queue → found ≡ filter (is_current lists left key) (list_of queue key) → IsQueue lists left (set queue key found)
queue_kept lists left queue key found lt q is =
    let test = is_current lists left key in
    let here : list_of (set queue key found) key ≡ filter test (list_of queue key) = list_of-here queue key found lt ∙ is in
    record {
      rising = λ d.
          elim (cases_eq d key) [
            | inl e ↦ (let P : ℕ → Type 0 = λ z. IsRising (list_of (set queue key found) z) in subst P (sym e) (subst IsRising (sym here) (AllPairs-filter (λ x y. x < y) test (list_of queue key) (q.rising key))))
            | inr apart ↦ subst IsRising (sym (list_of-other queue key d found apart)) (q.rising d)
          ];
      in_range = λ d n h.
          elim (cases_eq d key) [
            | inl e ↦
                (let P : ℕ → Type 0 = λ z. Contains (list_of (set queue key found) z) n in
                let Q : List ℕ → Type 0 = λ xs. Contains xs n in
                q.in_range key n ((Contains-filter test (list_of queue key) n).0 (subst Q here (subst P e h))).0)
            | inr apart ↦ (let Q : List ℕ → Type 0 = λ xs. Contains xs n in q.in_range d n (subst Q (list_of-other queue key d found apart) h))
          ];
      queued = λ n l.
          let Q : List ℕ → Type 0 = λ xs. Contains xs n in
          elim (cases_eq (key_of lists n) key) [
            | inl e ↦
                (let P : ℕ → Type 0 = λ z. Contains (list_of (set queue key found) z) n in
                let O : ℕ → Type 0 = λ z. Contains (list_of queue z) n in
                subst P (sym e) (subst Q (sym here) ((Contains-filter test (list_of queue key) n).1 (subst O e (q.queued n l), current_from lists left key n l e))))
            | inr apart ↦ subst Q (sym (list_of-other queue key (key_of lists n) found apart)) (q.queued n l)
          ];
    }

-- at the first list that is not empty the least key is met
pub least_met : (lists : List (List ℕ)) (left : List Bool) (queue : List (List ℕ)) (key : ℕ) (found : List ℕ) → key < length queue → IsQueue lists left queue → ((d : ℕ) → d < key → list_of queue d ≡ []) → found ≡ filter (is_current lists left key) (list_of queue key) → 0 < length found → IsLeastKey lists left (set queue key found) key
least_met lists left queue key found lt q passed is some =
    let test = is_current lists left key in
    let here = list_of-here queue key found lt in
    record {
      current = λ n.
          let Q : List ℕ → Type 0 = λ xs. Contains xs n in (
            λ h. current_parts lists left key n ((Contains-filter test (list_of queue key) n).0 (subst Q (here ∙ is) h)).1,
            λ (l, e).
                let O : ℕ → Type 0 = λ z. Contains (list_of queue z) n in
                subst Q (sym (here ∙ is)) ((Contains-filter test (list_of queue key) n).1 (subst O e (q.queued n l), current_from lists left key n l e)),
          );
      some = omega (arith, ap (λ (xs : List ℕ). length xs) here, some);
      least = λ n l.
          elim (cases_lt (key_of lists n) key) [
            | inl before ↦ (let Q : List ℕ → Type 0 = λ xs. Contains xs n in absurd (contains_none (subst Q (passed (key_of lists n) before) (q.queued n l))))
            | inr le ↦ le
          ];
    }

pub passed_more : (queue : List (List ℕ)) (key : ℕ) (found : List ℕ) → key < length queue → ((d : ℕ) → d < key → list_of queue d ≡ []) → found ≡ [] → (d : ℕ) → d < key + 1 → list_of (set queue key found) d ≡ []
passed_more queue key found lt passed none d le =
    elim (cases_eq d key) [
      | inl e ↦ (let P : ℕ → Type 0 = λ z. list_of (set queue key found) z ≡ [] in subst P (sym e) (list_of-here queue key found lt ∙ none))
      | inr apart ↦ list_of-other queue key d found apart ∙ passed d (omega arith)
    ]

-- one more node is queued
pub queues_more : (lists : List (List ℕ)) (done : List ℕ) (old cur new : List (List ℕ)) (key node : ℕ) → Queues lists done old cur → ListsNumber cur new key node → key ≡ key_of lists node → Queues lists (done ++ node ∷ []) old new
queues_more lists done old cur new key node q step is =
    record {
      rising = step.rising;
      members = λ d n. (
        λ h.
            elim ((step.members d n).0 h) [
              | inl c ↦ elim ((q.members d n).0 c) [ inl o ↦ inl o | inr (m, e) ↦ inr (Contains-append_left done (node ∷ []) n m, e) ]
              | inr (e, same) ↦ (let P : ℕ → Type 0 = λ z. Contains (done ++ node ∷ []) z × (d ≡ key_of lists z) in inr (subst P (sym same) (Contains-push done node, e ∙ is)))
            ],
        λ h.
            (step.members d n).1
            (elim h [
              | inl o ↦ inl ((q.members d n).1 (inl o))
              | inr (m, e) ↦
                  elim (Contains-push_cases done node n m) [
                    | inl before ↦ inl ((q.members d n).1 (inr (before, e)))
                    | inr same ↦ inr (e ∙ ap (λ (z : ℕ). key_of lists z) (sym same) ∙ sym is, sym same)
                  ]
            ]),
      );
    }
