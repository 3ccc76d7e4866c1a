use Rattle.std.proofs.Common.{List, ℕ, Option, length, ◌∙◌, sym, ap, subst}
use Rattle.elimination.specs.Elimination.{AreParents}
use Rattle.elim_tree.specs.Fronts.{Fronts, IsAssemblyTree, parents_in}
use Rattle.elim_tree.proofs.ShapeLemmas.{parents_above}
use Rattle.elim_tree.proofs.fronts.Tree.node_parents.Goals as goal

pub returns-clause-later : goal.returns-clause-later
returns-clause-later c =
    let tree = subst IsAssemblyTree c.self.view_is c.self.invariant.tree in
    let is = c.deref.ensures.value ∙ c.self.invariant.parents_are ∙ ap (λ (t : Fronts). parents_in t) c.self.view_is in
    let P : List (Option ℕ) → Type 0 = λ ps. AreParents ps (length c.args.self.now.order) in
    subst P (sym is) (parents_above c.args.self.now tree)
