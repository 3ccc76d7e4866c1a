-- A model has a tree, or a reason why it has none.
use Rattle.std.proofs.Common.{◌≡◌, ℕ, List, length, ◌⊎◌, inl, inr, subst, sym}
use Rattle.elim_order.specs.Exist.{OrderOrBroadNode}
use Rattle.elim_tree.specs.Fronts.{Fronts}
use Rattle.elim_tree.specs.Laws.{TreeOrTooMany}
use Rattle.elim_tree.specs.Tree.{placed, IsTreeOf}
use Rattle.model_types.specs.Lists.{Lists}
use Rattle.accepted_text.specs.Accepted.{joined_nodes, model_graph, IsModelOrder, IsModelTree, TreeOrReason}
use Rattle.accepted_text.proofs.GraphLemmas.{pairs_in_range, pairs_apart}

model_tree : (m : Lists) (order : List ℕ) (t : Fronts) → IsModelOrder m order → IsTreeOf (placed (model_graph m) order) order t → IsModelTree m t
model_tree m order t is tree =
    record {
      order = subst (IsModelOrder m) (sym tree.order_is) is;
      tree = subst (λ o. IsTreeOf (placed (model_graph m) o) o t) (sym tree.order_is) tree;
    }

pub tree_or_reason : OrderOrBroadNode → TreeOrTooMany → TreeOrReason
tree_or_reason orders trees m model =
    elim (orders (length m.nodes) (joined_nodes m) (pairs_in_range m model) (pairs_apart m model)) [
      | inr broad ↦ inr (inl broad)
      | inl (order, is, _, _) ↦
          elim (trees (joined_nodes m) order) [ inl (t, tree) ↦ inl (t, model_tree m order t is tree) | inr many ↦ inr (inr (order, is, many)) ]
    ]
