-- Which texts are accepted, with a model and its assembly tree, and by which number and at which line the others are refused.
use Rattle.std.specs.Prelude.{◌≡◌, ℕ, List, length, map, ◌⊎◌, Ok, Err}
use Rattle.elim_order.specs.Graph.{links}
use Rattle.elim_order.specs.Order.{IsEliminationOrder, IsFirstBroad}
use Rattle.elim_tree.specs.Fronts.{Fronts}
use Rattle.elim_tree.specs.Tree.{placed, IsTreeOf, HasManyEntries}
use Rattle.model_text.specs.Grammar.{parsed, IsLineOf}
use Rattle.model_types.specs.Kinds.{node_kind}
use Rattle.model_types.specs.Lists.{Lists}
use Rattle.model_types.specs.Rules.{IsModel}

-- the pairs of nodes that the elements of a model join
abbrev pub joined_nodes : Lists → List (ℕ × ℕ)
joined_nodes m = map (λ e. (e.from.0, e.to.0)) m.elements

-- two nodes of a model are neighbours where an element joins them
abbrev pub model_graph : Lists → ℕ → ℕ → Type 0
model_graph m = links (joined_nodes m)

-- the elimination order of a model's nodes
abbrev pub IsModelOrder : Lists → List ℕ → Type 0
IsModelOrder m order = IsEliminationOrder (length m.nodes) (model_graph m) order

-- the assembly tree of a model: that of its elimination order
pub record IsModelTree (m : Lists) (t : Fronts) : Type 0 where
  pub order : IsModelOrder m t.order
  pub tree : IsTreeOf (placed (model_graph m) t.order) t.order t

-- the text is accepted: the grammar has this model for it, and this is the model's tree
pub record IsAcceptedAs (text : List ℕ) (m : Lists) (t : Fronts) : Type 0 where
  pub text_is : parsed text ≡ Ok m
  pub tree : IsModelTree m t

-- the text is refused by a number at a line: by the grammar; or by 16, at the line of the first node in elimination order with over 31
-- neighbours left; or by 16 at line 1, where the tree of the elimination order would have too many entries
pub data IsRefusedBy (text : List ℕ) : ℕ → ℕ → Type 0 where
  by_grammar : (number line : ℕ) → parsed text ≡ Err (record { number = number; line = line }) → IsRefusedBy text number line
  too_broad : (m : Lists) (node line : ℕ) → parsed text ≡ Ok m → IsFirstBroad (length m.nodes) (model_graph m) node → IsLineOf text node_kind node line → IsRefusedBy text 16 line
  too_many : (m : Lists) (order : List ℕ) → parsed text ≡ Ok m → IsModelOrder m order → HasManyEntries (placed (model_graph m) order) (length order) → IsRefusedBy text 16 1

-- a model has an assembly tree; or a first node that is too broad; or an order whose tree would have too many entries
abbrev pub TreeOrReason : Type 0
TreeOrReason = (m : Lists) → IsModel m → ((t : Fronts) × IsModelTree m t) ⊎ (((node : ℕ) × IsFirstBroad (length m.nodes) (model_graph m) node)
    ⊎ ((order : List ℕ) × IsModelOrder m order × HasManyEntries (placed (model_graph m) order) (length order)))

-- a model has one assembly tree
abbrev pub OneModelTree : Type 0
OneModelTree = (m : Lists) (t u : Fronts) → IsModelTree m t → IsModelTree m u → t ≡ u

-- a text is accepted with one model and one tree
abbrev pub OneModelAndTree : Type 0
OneModelAndTree = (text : List ℕ) (m n : Lists) (t u : Fronts) → IsAcceptedAs text m t → IsAcceptedAs text n u → (m ≡ n) × (t ≡ u)

-- a text is refused by one number at one line
abbrev pub OneRefusal : Type 0
OneRefusal = (text : List ℕ) (number other line at : ℕ) → IsRefusedBy text number line → IsRefusedBy text other at → (number ≡ other) × (line ≡ at)

-- no text is accepted and refused
abbrev pub NeverAcceptedAndRefused : Type 0
NeverAcceptedAndRefused = (text : List ℕ) (m : Lists) (t : Fronts) (number line : ℕ) → IsAcceptedAs text m t → IsRefusedBy text number line → ⊥
