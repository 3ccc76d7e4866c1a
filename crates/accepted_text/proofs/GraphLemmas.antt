-- The graph of a model: its pairs are of two different nodes, and the order of its elimination has its nodes alone.
use Rattle.std.proofs.Common.{◌≡◌, ◌≢◌, ◌<◌, ℕ, ◌*◌, ◌++◌, List, [], ◌∷◌, length, get_or, slice_get, All, Contains, Some, ℤ, pos, ◌-ℤ◌, unsigned_abs, inl, inr, subst, sym, ap, arith}
use Rattle.std.proofs.lemmas.List.Elements.{All-map, Contains-get_or, Contains-append_cases}
use Rattle.std.proofs.lemmas.Int.{ints}
use Rattle.std.proofs.lemmas.Option.{slice_get-get_or}
use Rattle.elim_order.specs.Order.{LeadsTo, IsFirstBroad}
use Rattle.model_types.specs.declared.records.Element.{Element}
use Rattle.model_types.specs.declared.records.Node.{Node}
use Rattle.model_types.specs.declared.records.Record.TheVariants as record_of
use Rattle.model_types.specs.Lists.{Lists}
use Rattle.model_types.specs.Rules.{IsModel, Keeps, square_difference, square_distance}
use Rattle.accepted_text.specs.Accepted.{joined_nodes}

-- ---- the pairs

-- both nodes of each pair are there
pub pairs_in_range : (m : Lists) → IsModel m → All (λ p. (p.0 < length m.nodes) × (p.1 < length m.nodes)) (joined_nodes m)
pairs_in_range m model = All-map (λ (p : ℕ × ℕ). (p.0 < length m.nodes) × (p.1 < length m.nodes)) (λ (e : Element). (e.from.0, e.to.0)) m.elements
    (λ k d inside. let known = (model.kept.elements k d inside).known in (known.0, known.1.0))

no_difference : (a : ℤ) → unsigned_abs (a -ℤ a) ≡ 0
no_difference a = grind (arith, ints)

no_square : (a : ℤ) → square_difference a a ≡ 0
no_square a = ap (λ d. d * d) (no_difference a)

no_distance : (a : Node) → square_distance a a ≡ 0
no_distance a = omega (arith, no_square a.x, no_square a.y, no_square a.z)

-- two ends of an element lie at two places, so they are two nodes
ends_apart : (m : Lists) (e : Element) → Keeps m (record_of.Element e) → e.from.0 ≢ e.to.0
ends_apart m e keeps same =
    let none : Node = record { name = []; x = pos 0; y = pos 0; z = pos 0 } in
    let there = slice_get-get_or m.nodes e.from.0 none keeps.known.0 in
    let a = get_or m.nodes e.from.0 none in
    let span = keeps.own.span a a there (subst (λ n. slice_get m.nodes n ≡ Some a) same there) in
    omega (arith, span.apart, no_distance a)

pub pairs_apart : (m : Lists) → IsModel m → All (λ p. p.0 ≢ p.1) (joined_nodes m)
pairs_apart m model = All-map (λ (p : ℕ × ℕ). p.0 ≢ p.1) (λ (e : Element). (e.from.0, e.to.0)) m.elements (λ k d inside. ends_apart m (get_or m.elements k d) (model.kept.elements k d inside))

-- ---- the nodes of an order

contains_none : (n : ℕ) → Contains [] n → ⊥
contains_none n (i, inside, is) = omega (arith, inside)

module _ (nodes : ℕ) (graph : ℕ → ℕ → Type 0) where
  -- rounds have nodes of the graph alone
  leads_in_range : (gone : List ℕ) (rounds : List (List ℕ)) (order : List ℕ) → LeadsTo nodes graph gone rounds order → ((n : ℕ) → Contains gone n → n < nodes) → (n : ℕ) → Contains order n → n < nodes
  leads_in_range gone [] order same inside n there = inside n (subst (λ o. Contains o n) (sym same) there)
  leads_in_range gone (round ∷ rounds) order (is, leads) inside n there =
      leads_in_range (gone ++ round) rounds order leads (λ k among. elim (Contains-append_cases gone round k among) [
        | inl before ↦ inside k before
        | inr taken ↦ ((is.2.members k).0 taken).0.0
      ]) n there

  -- the node that is too broad is a node of the graph
  pub broad_in_range : (node : ℕ) → IsFirstBroad nodes graph node → node < nodes
  broad_in_range node (order, place, is) =
      let there : Contains order node = subst (Contains order) is.node_is (Contains-get_or order place 0 is.in_range) in
      leads_in_range [] is.by_rounds.0 order is.by_rounds.1 (λ n none. absurd (contains_none n none)) node there
