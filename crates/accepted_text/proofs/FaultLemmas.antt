-- What a fault of a step says of the text.
use Rattle.std.proofs.Common.{◌≡◌, ◌<◌, ℕ, List, length, IsOkAnd, Result, Ok, Err, subst, refl, sym}
use Rattle.elim_order.specs.Graph.{links}
use Rattle.elim_order.specs.Order.{IsEliminationOrder, IsFirstBroad}
use Rattle.elim_tree.specs.Tree.{placed, HasManyEntries}
use Rattle.elim_tree.specs.declared.fault.TreeFault.{TreeFault}
use Rattle.elim_tree.specs.declared.fault.TreeFault.TheVariants as trees
use Rattle.model_text.specs.Grammar.{parsed, IsLineOf}
use Rattle.model_text.specs.declared.reader.TextFault.{TextFault}
use Rattle.model_text.specs.declared.reader.TextFault.TheVariants as texts
use Rattle.model_types.specs.Kinds.{node_kind}
use Rattle.model_types.specs.Lists.{Lists}
use Rattle.model_types.specs.declared.records.Node.{Node}
use Rattle.accepted_text.specs.Accepted.{joined_nodes, model_graph, IsModelOrder, IsRefusedBy, too_broad, too_many}
use Rattle.accepted_text.specs.Faults.{text_fault, tree_fault}
use Rattle.accepted_text.specs.declared.fault.AcceptFault.{AcceptFault}
use Rattle.accepted_text.specs.declared.fault.AcceptFault.TheVariants.{Refused}
use Rattle.accepted_text.proofs.GraphLemmas.{broad_in_range}

-- the grammar's refusal is told as it is
pub text_refused : (fault : TextFault) (number line : ℕ) → text_fault fault ≡ Refused number line → fault ≡ texts.Refused number line
text_refused (texts.Refused n l) number line e =
    let a : n ≡ number = cc in
    let b : l ≡ line = cc in
    rw (a, b) refl
text_refused texts.NoMemory number line e = cc

-- a tree's refusal is that of its entries
pub tree_refused : (fault : TreeFault) (number line : ℕ) → tree_fault fault ≡ Refused number line → (fault ≡ trees.Entries) × (16 ≡ number) × (1 ≡ line)
tree_refused trees.Entries number line e = (refl, cc, cc)
tree_refused trees.NoMemory number line e = cc

-- a refusal has one number and line
told : {A : Type 0} (n l number line : ℕ) → ◌≡◌ {A = Result A AcceptFault} (Err (Refused n l)) (Err (Refused number line)) → (n ≡ number) × (l ≡ line)
told n l number line e = (cc, cc)

module _ (text : List ℕ) (number line : ℕ) where
  pub refused_as : (n l : ℕ) → n ≡ number → l ≡ line → IsRefusedBy text n l → IsRefusedBy text number line
  refused_as n l a b refused = subst (λ k. IsRefusedBy text k line) a (subst (IsRefusedBy text n) b refused)

  pub refused_told : {A : Type 0} (n l : ℕ) → ◌≡◌ {A = Result A AcceptFault} (Err (Refused n l)) (Err (Refused number line)) → IsRefusedBy text n l → IsRefusedBy text number line
  refused_told n l e refused = let same = told n l number line e in refused_as n l same.0 same.1 refused

module _ (text : List ℕ) (m : Lists) (nodes : List Node) (pairs : List (ℕ × ℕ)) (is : parsed text ≡ Ok m) (nodes_are : nodes ≡ m.nodes) (pairs_are : pairs ≡ joined_nodes m) where
  order_of : (order : List ℕ) → IsEliminationOrder (length nodes) (links pairs) order → IsModelOrder m order
  order_of order by = subst (λ ns. IsEliminationOrder (length ns) (model_graph m) order) nodes_are (subst (λ ps. IsEliminationOrder (length nodes) (links ps) order) pairs_are by)

  broad_of : (node : ℕ) → IsFirstBroad (length nodes) (links pairs) node → IsFirstBroad (length m.nodes) (model_graph m) node
  broad_of node broad = subst (λ ns. IsFirstBroad (length ns) (model_graph m) node) nodes_are (subst (λ ps. IsFirstBroad (length nodes) (links ps) node) pairs_are broad)

  -- the node that is too broad is there
  pub broad_known : (node : ℕ) → IsFirstBroad (length nodes) (links pairs) node → IsOkAnd (parsed text) (λ model. node < length model.nodes)
  broad_known node broad = subst (λ r. IsOkAnd r (λ model. node < length model.nodes)) (sym is) (broad_in_range (length m.nodes) (model_graph m) node (broad_of node broad))

  pub broad_refused : (node line : ℕ) → IsFirstBroad (length nodes) (links pairs) node → IsLineOf text node_kind node line → IsRefusedBy text 16 line
  broad_refused node line broad here = too_broad m node line is (broad_of node broad) here

  pub many_refused : (order : List ℕ) → IsEliminationOrder (length nodes) (links pairs) order → (others : List (ℕ × ℕ)) (placed_order : List ℕ) → others ≡ joined_nodes m → placed_order ≡ order
      → HasManyEntries (placed (links others) placed_order) (length placed_order) → IsRefusedBy text 16 1
  many_refused order by others placed_order others_are order_is many =
      let here = subst (λ ps. HasManyEntries (placed (links ps) placed_order) (length placed_order)) others_are many in
      too_many m order is (order_of order by) (subst (λ o. HasManyEntries (placed (model_graph m) o) (length o)) order_is here)
