-- The tree of an order keeps what every tree keeps.
use Rattle.std.proofs.Common.{◌≡◌, ℕ, ◌<◌, ◌≤◌, List, [], length, get_or, Contains, inl, inr, ◌∙◌, sym, ap, arith, subst, refl, Option, Some, None}
use Rattle.std.proofs.lemmas.Bool.{cases_lt, cases_eq}
use Rattle.std.proofs.lemmas.List.{get_or_past}
use Rattle.std.specs.Option.{IfSome}
use Rattle.lists.specs.Lists.{list_of}
use Rattle.lists.specs.Order.{IsOrder}
use Rattle.elimination.specs.Elimination.{IsLaterNeighbour, IsParent, IsTree, AreParents}
use Rattle.elim_tree.proofs.JoinedLemmas.{later_closed}
use Rattle.elim_order.specs.Order.{IsNarrowAt}
use Rattle.elim_tree.specs.Fronts.{Fronts, IsAssemblyTree, AreChildren, parent_in, parents_in, entries_of}
use Rattle.elim_tree.specs.Tree.{placed, AreLater, IsTreeOf}
use Rattle.elim_tree.specs.Parts.{fronts_of, ListsChildren}
use Rattle.elim_tree.proofs.HeadLemmas.{contains_none, head_contained, head_none, head_least, length-listed, listed_read}
use Rattle.elim_tree.proofs.FrontLemmas.{joined_in_range, later_narrow}

-- past the last place there is nothing
pub later_place : (later : List (List ℕ)) (p q : ℕ) → Contains (list_of later p) q → p < length later
later_place later p q h =
    elim (cases_lt p (length later)) [
      | inl lt ↦ lt
      | inr past ↦ (let P : List ℕ → Type 0 = λ xs. Contains xs q in absurd (contains_none (subst P (get_or_past later p [] past) h)))
    ]

-- all lists are short
pub all_narrow : (g : ℕ → ℕ → Type 0) (order : List ℕ) (later : List (List ℕ)) → IsOrder order → AreLater (placed g order) (length order) later → ((p : ℕ) → p < length order → IsNarrowAt g order p) → (f : ℕ) → length (list_of later f) ≤ 31
all_narrow g order later ok a narrow f =
    elim (cases_lt f (length order)) [
      | inl lt ↦ later_narrow g order later f ok a lt (narrow f lt)
      | inr past ↦ omega (arith, ap (λ (xs : List ℕ). length xs) (get_or_past later f [] (omega (arith, a.count))))
    ]

pub tree_shape : (g : ℕ → ℕ → Type 0) (order : List ℕ) (later : List (List ℕ)) → IsOrder order → length order ≤ 8000 → AreLater (placed g order) (length order) later → ((p : ℕ) → p < length order → IsNarrowAt g order p) → IsAssemblyTree (fronts_of order later)
tree_shape g order later ok few a narrow =
    record {
      permutation = ok;
      few = few;
      count = a.count;
      rising = a.rising;
      above = λ f q h.
          let is = later_of f q h in
          (is.0, (joined_in_range g order f f q is.1).1);
      narrow = all_narrow g order later ok a narrow;
      closed = λ f u q head h.
          let first = head_contained (list_of later f) u head in
          let least = head_least (list_of later f) u q (a.rising f) head h in
          elim (cases_eq q u) [
            | inl e ↦ inl e
            | inr ne ↦
                (let lu = later_of f u first in
                inr ((a.members u q (joined_in_range g order f f u lu.1).1).1 (later_closed (placed g order) f u q (omega (arith, least, ne)) lu (later_of f q h))))
          ];
    }
  where
    later_of : (f q : ℕ) → Contains (list_of later f) q → IsLaterNeighbour (placed g order) f q
    later_of f q h = (a.members f q (omega (arith, later_place later f q h, a.count))).0 h

-- a parent is a later front
pub parent_above : (t : Fronts) (f u : ℕ) → IsAssemblyTree t → parent_in t f ≡ Some u → (f < u) × (u < length t.order)
parent_above t f u a e = a.above f u (head_contained (list_of t.later f) u e)

pub parents_above : (t : Fronts) → IsAssemblyTree t → AreParents (parents_in t) (length t.order)
parents_above t a p lt =
    let read = listed_read (length t.order) (parent_in t) p None lt in
    let P : Option ℕ → Type 0 = λ o. IfSome o (λ u. (p < u) × (u < length t.order)) in
    subst P (sym read) (at (parent_in t p) refl)
  where
    at : (o : Option ℕ) → parent_in t p ≡ o → IfSome o (λ u. (p < u) × (u < length t.order))
    at None e = tt
    at (Some u) e = parent_above t p u a e

-- they are the parents of the elimination
pub parents_are : (linked : ℕ → ℕ → Type 0) (order : List ℕ) (t : Fronts) → IsTreeOf linked order t → IsTree linked (length order) (parents_in t)
parents_are linked order t is =
    let long = ap (λ (xs : List ℕ). length xs) is.order_is in
    record {
      length_is = length-listed (length t.order) (parent_in t) ∙ long;
      parent = λ p lt.
          let read = listed_read (length t.order) (parent_in t) p None (omega (arith, lt, long)) in
          let P : Option ℕ → Type 0 = λ o. IsParent linked p o in
          subst P (sym read) (at p lt (parent_in t p) refl);
    }
  where
    at : (p : ℕ) → p < length order → (o : Option ℕ) → parent_in t p ≡ o → IsParent linked p o
    at p lt None e =
        λ q h. let P : List ℕ → Type 0 = λ xs. Contains xs q in contains_none (subst P (head_none (list_of t.later p) e) ((is.later_are.members p q lt).1 h))
    at p lt (Some u) e = (
      (is.later_are.members p u lt).0 (head_contained (list_of t.later p) u e),
      λ q before h. let least = head_least (list_of t.later p) u q (is.later_are.rising p) e ((is.later_are.members p q lt).1 h) in omega (arith, least, before),
    )

-- the lists of the children
pub children_are : (t : Fronts) (parents : List (Option ℕ)) (children : List (List ℕ)) → parents ≡ parents_in t → ListsChildren parents (length parents) children → (f : ℕ) → AreChildren t f (list_of children f)
children_are t parents children is l f =
    let long : length parents ≡ length t.order = ap (λ (xs : List (Option ℕ)). length xs) is ∙ length-listed (length t.order) (parent_in t) in
    record {
      rising = l.rising f;
      members = λ c. (
        λ h. let both = (l.members f c).0 h in let cl : c < length t.order = omega (arith, long, both.0) in (cl, sym (read c cl) ∙ both.1),
        λ (cl, e). (l.members f c).1 (omega (arith, long, cl), read c cl ∙ e),
      );
    }
  where
    read : (c : ℕ) → c < length t.order → get_or parents c None ≡ parent_in t c
    read c cl = ap (λ (xs : List (Option ℕ)). get_or xs c None) is ∙ listed_read (length t.order) (parent_in t) c None cl

-- a parent in the list is a front
pub parent_in_range : (t : Fronts) (parents : List (Option ℕ)) (c f : ℕ) → IsAssemblyTree t → parents ≡ parents_in t → get_or parents c None ≡ Some f → f < length parents
parent_in_range t parents c f a is e =
    let long : length parents ≡ length t.order = ap (λ (xs : List (Option ℕ)). length xs) is ∙ length-listed (length t.order) (parent_in t) in
    elim (cases_lt c (length parents)) [
      | inl lt ↦
          (let cl : c < length t.order = omega arith in
          let read = ap (λ (xs : List (Option ℕ)). get_or xs c None) is ∙ listed_read (length t.order) (parent_in t) c None cl in
          omega (arith, long, (parent_above t c f a (sym read ∙ e)).1))
      | inr past ↦ none_some (sym (get_or_past parents c None past) ∙ e)
    ]
  where
    none_some : {b : ℕ} {Q : Type 0} → None ≡ Some b → Q
    none_some e = cc

-- the later places of a tree's order
pub tree_is : (g : ℕ → ℕ → Type 0) (order : List ℕ) (later : List (List ℕ)) (t : Fronts) → AreLater (placed g order) (length order) later → t ≡ fronts_of order later → entries_of later ≤ 33554432 → IsTreeOf (placed g order) order t
tree_is g order later t a is few =
    let P : Fronts → Type 0 = λ u. IsTreeOf (placed g order) order u in
    subst P (sym is) record { order_is = refl; later_are = a; few = few }
