use Rattle.std.proofs.Common.{◌≡◌, ◌≤◌, ℕ, List, Vec, Global, length, ◌∙◌, sym, ap, subst, arith}
use Rattle.lists.specs.Lists.{contents, list_of}
use Rattle.elim_order.specs.Graph.{links}
use Rattle.elim_tree.specs.Fronts.{IsAssemblyTree, entries_of}
use Rattle.elim_tree.specs.Tree.{placed, AreLater}
use Rattle.elim_tree.specs.Parts.{fronts_of}
use Rattle.elim_tree.proofs.ShapeLemmas.{all_narrow, tree_shape, tree_is}
use Rattle.elim_tree.proofs.build.tree.Goals as goal

pub entries_in-entries-requires-clause-narrow : goal.entries_in-entries-requires-clause-narrow
entries_in-entries-requires-clause-narrow c =
    let order = c.args.order.now in
    let is : c.in_ok-order.order ≡ order = c.in_ok-order.ensures ∙ c.in_ok-from_slice.ensures.items in
    let A : List ℕ → Type 0 = λ o. AreLater (placed (links c.args.pairs.now) o) (length o) (contents c.in_ok-later.later.items) in
    let P : List (Vec ℕ Global) → Type 0 = λ vs. (f : ℕ) → length (list_of (contents vs) f) ≤ 31 in
    subst P (sym c.deref.ensures.value) (all_narrow (links c.args.pairs.now) order (contents c.in_ok-later.later.items) c.requires.permutation (subst A is c.in_ok-later.ensures) c.requires.order.narrow)

pub of_later-requires-clause-tree : goal.of_later-requires-clause-tree
of_later-requires-clause-tree c =
    let order = c.args.order.now in
    let is : c.in_ok-order.order ≡ order = c.in_ok-order.ensures ∙ c.in_ok-from_slice.ensures.items in
    let A : List ℕ → Type 0 = λ o. AreLater (placed (links c.args.pairs.now) o) (length o) (contents c.in_ok-later.later.items) in
    let P : List ℕ → Type 0 = λ o. IsAssemblyTree (fronts_of o (contents c.in_ok-later.later.items)) in
    subst P (sym is) (tree_shape (links c.args.pairs.now) order (contents c.in_ok-later.later.items) c.requires.permutation c.requires.few (subst A is c.in_ok-later.ensures) c.requires.order.narrow)

pub returns : goal.returns
returns c =
    let order = c.args.order.now in
    let is : c.in_ok-order.order ≡ order = c.in_ok-order.ensures ∙ c.in_ok-from_slice.ensures.items in
    let later = contents c.in_ok-later.later.items in
    let A : List ℕ → Type 0 = λ o. AreLater (placed (links c.args.pairs.now) o) (length o) later in
    let few : entries_of later ≤ 33554432 = omega (arith, c.if-entries-gt-ENTRIES.false, c.entries_in-entries.ensures, ap (λ (vs : List (Vec ℕ Global)). entries_of (contents vs)) c.deref.ensures.value) in
    tree_is (links c.args.pairs.now) order later c.in_ok-of_later.field-0 (subst A is c.in_ok-later.ensures) (c.in_ok-of_later.ensures ∙ ap (λ (o : List ℕ). fronts_of o later) is) few
