use Rattle.std.proofs.Common.{◌≡◌, ◌∷◌, ℕ, List, Option, Vec, Global, length, Contains, ◌∙◌, ap, subst, arith}
use Rattle.std.specs.List.{slice_get}
use Rattle.lists.specs.Lists.{contents, list_of}
use Rattle.lists.specs.Listed.{listed}
use Rattle.lists.proofs.ListsLemmas.{length-contents}
use Rattle.elim_tree.specs.Fronts.{IsAssemblyTree, parents_in, front_rows, rows_at}
use Rattle.elim_tree.specs.Parts.{fronts_of, ListsChildren}
use Rattle.elim_tree.proofs.HeadLemmas.{length-listed}
use Rattle.elim_tree.proofs.ShapeLemmas.{children_are, parent_in_range}
use Rattle.elim_tree.proofs.fronts.Tree.of_later.Goals as goal

-- the parents that were found are the tree's
parents_found : (order : List ℕ) (later : List (Vec ℕ Global)) (parents : List (Option ℕ)) → IsAssemblyTree (fronts_of order (contents later)) → parents ≡ listed (length later) (λ f. slice_get (list_of (contents later) f) 0) → parents ≡ parents_in (fronts_of order (contents later))
parents_found order later parents t is =
    let count : length later ≡ length order = omega (arith, length-contents later, t.count) in
    is ∙ ap (λ (n : ℕ). listed n (λ f. slice_get (list_of (contents later) f) 0)) count

rows_found : (order : List ℕ) (later : List (Vec ℕ Global)) (rows : List (List ℕ)) → IsAssemblyTree (fronts_of order (contents later)) → rows ≡ listed (length later) (λ f. rows_at (f ∷ list_of (contents later) f)) → rows ≡ front_rows (fronts_of order (contents later))
rows_found order later rows t is =
    let count : length later ≡ length order = omega (arith, length-contents later, t.count) in
    is ∙ ap (λ (n : ℕ). listed n (λ f. rows_at (f ∷ list_of (contents later) f))) count

pub rows_of-requires-clause-small : goal.rows_of-requires-clause-small
rows_of-requires-clause-small c f q h =
    let P : List (Vec ℕ Global) → Type 0 = λ vs. Contains (list_of (contents vs) f) q in
    omega (arith, (c.requires.tree.above f q (subst P c.deref-2.ensures.value h)).1, c.requires.tree.few)

pub children_of-requires-clause-few : goal.children_of-requires-clause-few
children_of-requires-clause-few c =
    let t = c.requires.tree in
    let P : List (Vec ℕ Global) → Type 0 = λ vs. c.in_ok-parents.parents.items ≡ listed (length vs) (λ f. slice_get (list_of (contents vs) f) 0) in
    let found = parents_found c.args.order c.args.later.items c.in_ok-parents.parents.items t (subst P c.deref.ensures.value c.in_ok-parents.ensures) in
    omega (arith, t.few, ap (λ (xs : List (Option ℕ)). length xs) (c.deref-3.ensures.value ∙ found), length-listed (length c.args.order) (λ f. slice_get (list_of (contents c.args.later.items) f) 0))

pub children_of-requires-clause-in_range : goal.children_of-requires-clause-in_range
children_of-requires-clause-in_range c child f e =
    let t = c.requires.tree in
    let P : List (Vec ℕ Global) → Type 0 = λ vs. c.in_ok-parents.parents.items ≡ listed (length vs) (λ f. slice_get (list_of (contents vs) f) 0) in
    let found = parents_found c.args.order c.args.later.items c.in_ok-parents.parents.items t (subst P c.deref.ensures.value c.in_ok-parents.ensures) in
    parent_in_range (fronts_of c.args.order (contents c.args.later.items)) c.deref-3.result.now child f t (c.deref-3.ensures.value ∙ found) e

pub invariant_of-result : goal.invariant_of-result
invariant_of-result c =
    let t = c.requires.tree in
    let P : List (Vec ℕ Global) → Type 0 = λ vs. c.in_ok-parents.parents.items ≡ listed (length vs) (λ f. slice_get (list_of (contents vs) f) 0) in
    let found = parents_found c.args.order c.args.later.items c.in_ok-parents.parents.items t (subst P c.deref.ensures.value c.in_ok-parents.ensures) in
    let R : List (Vec ℕ Global) → Type 0 = λ vs. contents c.in_ok-rows.rows.items ≡ listed (length vs) (λ f. rows_at (f ∷ list_of (contents vs) f)) in
    let C : List (Option ℕ) → Type 0 = λ ps. ListsChildren ps (length ps) (contents c.in_ok-children.children.items) in
    record {
      tree = t;
      parents_are = found;
      rows_are = rows_found c.args.order c.args.later.items (contents c.in_ok-rows.rows.items) t (subst R c.deref-2.ensures.value c.in_ok-rows.ensures);
      children_are = children_are (fronts_of c.args.order (contents c.args.later.items)) c.in_ok-parents.parents.items (contents c.in_ok-children.children.items) found (subst C c.deref-3.ensures.value c.in_ok-children.ensures);
      entries_are = c.requires.entries;
    }
