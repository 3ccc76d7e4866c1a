-- The graph after some nodes are eliminated, and its fronts.
use Rattle.std.proofs.Common.{◌≡◌, ◌≢◌, ℕ, suc, ◌+◌, ◌<◌, List, [], ◌∷◌, ◌++◌, length, get_or, take, ◌⊎◌, inl, inr, ◌↔◌, ◌∙◌, sym, ap, arith, subst, refl}
use Rattle.std.proofs.lemmas.List.{take-append-le, get_or_append_left, get_or-append-add}
use Rattle.lists.specs.Lists.{list_of}
use Rattle.elim_order.specs.Graph.{eliminated, after, AreNeighbours}
use Rattle.elim_order.specs.Order.{AreFront, IsNarrowAt, IsBroadAt}
use Rattle.elim_order.specs.State.{AreNeighbourLists, told}

-- two graphs have the same neighbours
abbrev pub AreSame : (ℕ → ℕ → Type 0) → (ℕ → ℕ → Type 0) → Type 0
AreSame g h = (n k : ℕ) → g n k ↔ h n k

pub eliminated_same : (g h : ℕ → ℕ → Type 0) (m : ℕ) → AreSame g h → AreSame (eliminated g m) (eliminated h m)
eliminated_same g h m same n k = (
  λ (a, b, e). (a, b, elim e as (λ _. h n k ⊎ ((n ≢ k) × h m n × h m k)) [ inl x ↦ inl ((same n k).0 x) | inr (c, x, y) ↦ inr (c, (same m n).0 x, (same m k).0 y) ]),
  λ (a, b, e). (a, b, elim e as (λ _. g n k ⊎ ((n ≢ k) × g m n × g m k)) [ inl x ↦ inl ((same n k).1 x) | inr (c, x, y) ↦ inr (c, (same m n).1 x, (same m k).1 y) ]),
)

pub after_same : (g h : ℕ → ℕ → Type 0) (ms : List ℕ) → AreSame g h → AreSame (after g ms) (after h ms)
after_same g h [] same = same
after_same g h (m ∷ ms) same = after_same (eliminated g m) (eliminated h m) ms (eliminated_same g h m same)

pub after-append : (g : ℕ → ℕ → Type 0) (xs ys : List ℕ) (n k : ℕ) → after g (xs ++ ys) n k ≡ after (after g xs) ys n k
after-append g [] ys n k = refl
after-append g (x ∷ xs) ys n k = after-append (eliminated g x) xs ys n k

-- lists that tell what is left tell what is left after more
pub lists_after : (g : ℕ → ℕ → Type 0) (gone more : List ℕ) (old new : List (List ℕ)) → AreNeighbourLists old (after g gone) → AreNeighbourLists new (after (told old) more) → AreNeighbourLists new (after g (gone ++ more))
lists_after g gone more old new before step =
    record {
      rising = step.rising;
      members = λ n k.
          let same = after_same (told old) (after g gone) more before.members n k in
          let whole = after-append g gone more n k in (
            λ h. subst (λ (T : Type 0). T) (sym whole) (same.0 ((step.members n k).0 h)),
            λ h. (step.members n k).1 (same.1 (subst (λ (T : Type 0). T) whole h)),
          );
    }

pub lists_once : (g : ℕ → ℕ → Type 0) (gone : List ℕ) (node : ℕ) (old new : List (List ℕ)) → AreNeighbourLists old (after g gone) → AreNeighbourLists new (eliminated (told old) node) → AreNeighbourLists new (after g (gone ++ node ∷ []))
lists_once g gone node old new before step = lists_after g gone (node ∷ []) old new before step

-- a node's list has its neighbours
pub neighbours_of : (lists : List (List ℕ)) (g : ℕ → ℕ → Type 0) (n : ℕ) → AreNeighbourLists lists g → AreNeighbours g n (list_of lists n)
neighbours_of lists g n h = record { rising = h.rising n; members = h.members n }

-- a front stays as more nodes follow
pub front-append : (g : ℕ → ℕ → Type 0) (xs ys : List ℕ) (p : ℕ) (ns : List ℕ) → p < length xs → AreFront g xs p ns → AreFront g (xs ++ ys) p ns
front-append g xs ys p ns lt f =
    let P : List ℕ → ℕ → Type 0 = λ zs n. AreNeighbours (after g zs) n ns in
    subst (λ (zs : List ℕ). P zs (get_or (xs ++ ys) p 0)) (sym (take-append-le p xs ys (omega arith)))
    (subst (λ (n : ℕ). P (take p xs) n) (sym (get_or_append_left xs ys 0 p lt)) f)

pub narrow-append : (g : ℕ → ℕ → Type 0) (xs ys : List ℕ) (p : ℕ) → p < length xs → IsNarrowAt g xs p → IsNarrowAt g (xs ++ ys) p
narrow-append g xs ys p lt (ns, f, few) = (ns, front-append g xs ys p ns lt f, few)

take-append-add : (xs ys : List ℕ) (p : ℕ) → take (length xs + p) (xs ++ ys) ≡ xs ++ take p ys
take-append-add [] ys p = ap (λ (n : ℕ). take n ys) (let e : 0 + p ≡ p = omega arith in e)
take-append-add (x ∷ xs) ys p =
    ap (λ (n : ℕ). take n (x ∷ (xs ++ ys))) (let e : suc (length xs) + p ≡ suc (length xs + p) = omega arith in e)
    ∙ ap (λ (zs : List ℕ). x ∷ zs) (take-append-add xs ys p)

-- and where they go on, it is that of what is left
pub front-after : (g : ℕ → ℕ → Type 0) (lists : List (List ℕ)) (xs ys : List ℕ) (p : ℕ) (ns : List ℕ) → AreNeighbourLists lists (after g xs) → AreFront (told lists) ys p ns → AreFront g (xs ++ ys) (length xs + p) ns
front-after g lists xs ys p ns before f =
    let same = after_same (told lists) (after g xs) (take p ys) before.members in
    let node = get_or ys p 0 in
    let left : AreNeighbours (after g (xs ++ take p ys)) node ns =
    record {
      rising = f.rising;
      members = λ k.
          let whole = after-append g xs (take p ys) node k in (
            λ h. subst (λ (T : Type 0). T) (sym whole) ((same node k).0 ((f.members k).0 h)),
            λ h. (f.members k).1 ((same node k).1 (subst (λ (T : Type 0). T) whole h)),
          );
    }
    in
    let P : List ℕ → ℕ → Type 0 = λ zs n. AreNeighbours (after g zs) n ns in
    subst (λ (zs : List ℕ). P zs (get_or (xs ++ ys) (length xs + p) 0)) (sym (take-append-add xs ys p))
    (subst (λ (n : ℕ). P (xs ++ take p ys) n) (sym (get_or-append-add xs ys p 0)) left)

pub narrow-after : (g : ℕ → ℕ → Type 0) (lists : List (List ℕ)) (xs ys : List ℕ) (p : ℕ) → AreNeighbourLists lists (after g xs) → IsNarrowAt (told lists) ys p → IsNarrowAt g (xs ++ ys) (length xs + p)
narrow-after g lists xs ys p before (ns, f, few) = (ns, front-after g lists xs ys p ns before f, few)

pub broad-after : (g : ℕ → ℕ → Type 0) (lists : List (List ℕ)) (xs ys : List ℕ) (p : ℕ) → AreNeighbourLists lists (after g xs) → IsBroadAt (told lists) ys p → IsBroadAt g (xs ++ ys) (length xs + p)
broad-after g lists xs ys p before (ns, f, many) = (ns, front-after g lists xs ys p ns before f, many)
