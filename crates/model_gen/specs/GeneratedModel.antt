-- The model of n expansion loops, which their text stands for.
use Rattle.std.specs.Prelude.{◌≡◌, ℕ, ◌+◌, ◌*◌, ◌≤◌, pos, neg_ℤ, false, [], ◌∷◌, ◌++◌, Some, None, Ok, codes}
use Rattle.accepted_text.specs.Accepted.{IsModelTree}
use Rattle.elim_tree.specs.Fronts.{Fronts}
use Rattle.lists.specs.Listed.{listed}
use Rattle.model_types.specs.declared.records.Material.{Material}
use Rattle.model_types.specs.declared.records.Section.{Section}
use Rattle.model_types.specs.declared.records.Node.{Node}
use Rattle.model_types.specs.declared.records.Element.{Element}
use Rattle.model_types.specs.declared.records.Shape.TheVariants.{Straight}
use Rattle.model_types.specs.declared.records.Restraint.{Restraint}
use Rattle.model_types.specs.declared.records.RestraintKind.TheVariants.{Anchor, Oneway}
use Rattle.model_types.specs.declared.records.Case.{Case}
use Rattle.model_types.specs.Lists.{Lists, no_records}
use Rattle.model_types.specs.Rules.{IsModel}
use Rattle.model_text.specs.Grammar.{parsed}
use Rattle.model_gen.specs.Text.{node_name, straight_name, anchor_name, support_name, east, north, generated}

-- the one material, a steel, and the one section, 6 inch pipe of schedule 40
abbrev pub steel : Material
steel = record { name = codes "m"; e = pos 200000; nu = pos 300; alpha = pos 12000; rho = pos 7850 }

abbrev pub pipe : Section
pipe = record { name = codes "s"; material = record { 0 = 0 }; d = pos 168300; t = pos 7110; allowance = pos 0; extra = pos 0 }

abbrev pub node : ℕ → Node
node i = record { name = node_name i; x = pos (east i); y = pos (north i); z = pos 0 }

abbrev pub straight : ℕ → Element
straight i = record { name = straight_name i; from = record { 0 = i }; to = record { 0 = i + 1 }; section = record { 0 = 0 }; shape = Straight }

abbrev pub anchor : ℕ → Restraint
anchor i = record { name = anchor_name i; node = record { 0 = 4 * i }; kind = Anchor None None }

abbrev pub support : ℕ → Restraint
support i = record { name = support_name i; node = record { 0 = 4 * i + 2 }; kind = Oneway (pos 0) (pos 0) (neg_ℤ (pos 1)) (pos 0) (Some (pos 100000000)) }

-- the case of its weight
abbrev pub weight : Case
weight = record { name = codes "w"; gx = pos 0; gy = pos 0; gz = neg_ℤ (pos 1000); hangers = false; dt = pos 0; p = pos 0 }

abbrev pub generated_model : ℕ → Lists
generated_model n = record no_records {
  materials = steel ∷ [];
  sections = pipe ∷ [];
  nodes = listed (4 * n + 1) node;
  elements = listed (4 * n) straight;
  restraints = listed (n + 1) anchor ++ listed n support;
  cases = weight ∷ [];
}

-- each generated text is read as the model of as many loops, which keeps all rules
pub record IsReadAs (n : ℕ) : Type 0 where
  pub accepted : parsed (generated n) ≡ Ok (generated_model n)
  pub model : IsModel (generated_model n)

abbrev pub GeneratedIsAccepted : Type 0
GeneratedIsAccepted = (n : ℕ) → 1 ≤ n → n ≤ 400 → IsReadAs n

-- each of these models has an assembly tree
abbrev pub GeneratedHasTree : Type 0
GeneratedHasTree = (n : ℕ) → 1 ≤ n → n ≤ 400 → (t : Fronts) × IsModelTree (generated_model n) t
