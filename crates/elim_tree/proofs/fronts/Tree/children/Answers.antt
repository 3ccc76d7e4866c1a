use Rattle.std.proofs.Common.{List, ℕ, Vec, Global, ◌∙◌, sym, ap, subst}
use Rattle.lists.specs.Lists.{contents, list_of}
use Rattle.elim_tree.specs.Fronts.{Fronts, AreChildren}
use Rattle.elim_tree.proofs.fronts.Tree.children.Goals as goal

pub returns : goal.returns
returns c =
    let is = c.list_at.ensures ∙ ap (λ (vs : List (Vec ℕ Global)). list_of (contents vs) c.args.f) c.deref.ensures.value in
    let P : Fronts → Type 0 = λ t. AreChildren t c.args.f (list_of (contents c.self.inside.children.items) c.args.f) in
    let Q : List ℕ → Type 0 = λ xs. AreChildren c.args.self.now c.args.f xs in
    subst Q (sym is) (subst P c.self.view_is (c.self.invariant.children_are c.args.f))
