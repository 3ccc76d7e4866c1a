-- The middles of a model's structures lie in the rows of the fronts of its tree, whatever states its contacts have.
use Rattle.std.specs.Prelude.{◌≢◌, Contains, if◌then◌else◌, nat_lt}
use Rattle.std.proofs.Common.{◌≡◌, ℕ, zero, suc, ◌+◌, ◌*◌, ◌/◌, ◌<◌, inl, inr, refl, sym, ◌∙◌, ap, subst, arith, Bool, true, false, List, [], length, get_or, map, Ok, ℤ, pos}
use Rattle.std.proofs.Math.ListN.{get_or-map}
use Rattle.std.proofs.lemmas.Bool.{or_from, ne_eqb, cases_lt}
use Rattle.std.proofs.lemmas.List.{length-map, get_or_past}
use Rattle.std.proofs.lemmas.List.Elements.{Contains-get_or}
use Rattle.std.proofs.lemmas.List.FromFn.{length-map-range_with_len, get_or-map-range_with_len}
use Rattle.lists.specs.Lists.{list_of}
use Rattle.lists.specs.Order.{IsOrder, place_of}
use Rattle.lists.proofs.PlaceLemmas.{place-at}
use Rattle.elimination.specs.Elimination.{Joined}
use Rattle.cholesky_laws.specs.Fill.{IsOnPattern}
use Rattle.elim_order.specs.Graph.{links}
use Rattle.elim_tree.specs.Fronts.{Fronts}
use Rattle.elim_tree.specs.Laws.{StiffnessIsOnPattern}
use Rattle.elim_tree.specs.Tree.{placed, AreLater}
use Rattle.accepted_text.specs.Accepted.{joined_nodes, IsModelTree}
use Rattle.member_set.specs.declared.members.Built.{Built}
use Rattle.member_set.specs.declared.members.Member.{Member}
use Rattle.member_set.specs.Interval.{Outcome, found}
use Rattle.member_set.specs.Members.{nothing, no_member, member_of, members_at, Touches, IsBuilt, built_nodes}
use Rattle.member_set.specs.States.{is_included, absent, member_under, under, StaysBuilt}
use Rattle.flex_interval.specs.Operations.{middle_of}
use Rattle.assembly.specs.Stiffness.{entry_term, upper_entry, stiffness_at, middle}
use Rattle.model_types.specs.Lists.{Lists}
use Rattle.model_types.specs.declared.records.Element.{Element}
use Rattle.structure.specs.Elements.{element_at, no_element}
use Rattle.structure.specs.Laws.{LeadsWithin, MembersLeadWithin}
use Rattle.structure.specs.Structure.{IsStructureOf}
use Rattle.case_run.specs.Pattern.{IsOnTree, TakesModel}
use Rattle.case_run.proofs.GivenStructure.{apart_term, upper_nothing, middle_nothing}

-- ---- the rows of fronts

-- nodes that are linked are neighbours whatever was eliminated before
linked_joined : (linked : ℕ → ℕ → Type 0) (t p q : ℕ) → linked p q → Joined linked t p q
linked_joined linked zero p q is = is
linked_joined linked (suc t) p q is = inl (linked_joined linked t p q is)

-- what lies on a graph lies in the rows of its fronts
in_rows : (linked : ℕ → ℕ → Type 0) (t : Fronts) (a : ℕ → ℕ → ℤ) → AreLater linked (length t.order) t.later → IsOnPattern a linked (length t.order) →
    IsOnPattern a (λ p q. Contains (list_of t.later p) q) (length t.order)
in_rows linked t a later on i j inside before missing =
    on i j inside before (λ is. missing ((later.members (j / 6) (i / 6) (omega arith)).1 (before, linked_joined linked (j / 6) (j / 6) (i / 6) is)))

-- ---- the members

-- the element of that number joins its nodes
element_joins : (m : Lists) (n : ℕ) → n < length m.elements → Contains (joined_nodes m) ((element_at m n).from.0, (element_at m n).to.0)
element_joins m n inside =
    let ends : Element → ℕ × ℕ = λ e. (e.from.0, e.to.0) in
    let has = Contains-get_or m.elements n no_element inside in (
      has.0,
      omega (arith, has.1, length-map m.elements ends),
      get_or-map ends m.elements has.0 (element_at m n) ∙ ap ends has.2,
    )

abbrev pair : ℕ → ℕ → ℕ × ℕ
pair n k = (n, k)

pair_is : {a b c d : ℕ} → a ≡ c → b ≡ d → ◌≡◌ {A = ℕ × ℕ} (a, b) (c, d)
pair_is {a} {b} {c} {d} first second = ap (λ (x : ℕ). pair x b) first ∙ ap (λ (y : ℕ). pair c y) second

-- a member that leads within a node or along an element, and touches two nodes, is of an element that joins them
touching_linked : (m : Lists) (x : Member) (n k : ℕ) → LeadsWithin m x → n ≢ k → Touches x n → Touches x k → links (joined_nodes m) n k
touching_linked m x n k leads apart (inl first) (inl other) = absurd (apart (sym first ∙ other))
touching_linked m x n k leads apart (inr second) (inr other) = absurd (apart (sym second ∙ other))
touching_linked m x n k (inl same) apart (inl first) (inr second) = absurd (apart (sym first ∙ same ∙ second))
touching_linked m x n k (inl same) apart (inr second) (inl first) = absurd (apart (sym second ∙ sym same ∙ first))
touching_linked m x n k (inr along) apart (inl first) (inr second) =
    inl (subst (λ (p : ℕ × ℕ). Contains (joined_nodes m) p) (pair_is (sym along.2 ∙ first) (sym along.3 ∙ second)) (element_joins m along.0 along.1))
touching_linked m x n k (inr along) apart (inr second) (inl first) =
    inr (subst (λ (p : ℕ × ℕ). Contains (joined_nodes m) p) (pair_is (sym along.2 ∙ first) (sym along.3 ∙ second)) (element_joins m along.0 along.1))

-- a member that takes no part touches the same nodes
leads_under : (m : Lists) (b : Built) (closed : List Bool) (k : ℕ) → LeadsWithin m (member_of b k) → LeadsWithin m (member_under b closed k)
leads_under m b closed k leads =
    elim (is_included b closed k) as (λ t. LeadsWithin m (if t then member_of b k else absent (member_of b k))) [ true ↦ leads | false ↦ leads ]

all_lead : (m : Lists) (b : Built) (closed : List Bool) → ((k : ℕ) → k < length b.members → LeadsWithin m (member_of b k)) →
    (k : ℕ) → k < length b.members → LeadsWithin m (member_of (under b closed) k)
all_lead m b closed lead k inside =
    subst (LeadsWithin m) (sym (get_or-map-range_with_len (member_under b closed) 0 (length b.members) k k no_member inside (omega arith))) (leads_under m b closed k (lead k inside))

-- ---- the entries

upper_apart : (m : Lists) (b : Built) (row col : ℕ) → IsBuilt b → ((k : ℕ) → k < length b.members → LeadsWithin m (member_of b k)) →
    row / 6 ≢ col / 6 → (links (joined_nodes m) (row / 6) (col / 6) → ⊥) → upper_entry b row col ≡ Ok nothing
upper_apart m b row col built lead apart unlinked = upper_nothing b row col term
  where
    term : (t : ℕ) → t < length (members_at b (row / 6)) → entry_term b row col t ≡ Ok nothing
    term t listed = elim (cases_lt (row / 6) (built_nodes b)) [
      | inl inside ↦
          let k = get_or (members_at b (row / 6)) t 0 in
          let known = (built.touching (row / 6) k inside).0 (Contains-get_or (members_at b (row / 6)) t 0 listed) in
          apart_term b row col t (λ touching. unlinked (touching_linked m (member_of b k) (row / 6) (col / 6) (lead k known.0) apart known.1 touching))
      | inr outside ↦ absurd (omega (arith, listed, ap (λ (xs : List ℕ). length xs) (get_or_past b.at (row / 6) [] (omega arith))))
    ]

linked_back : (m : Lists) (n k : ℕ) → links (joined_nodes m) n k → links (joined_nodes m) k n
linked_back m n k (inl has) = inr has
linked_back m n k (inr has) = inl has

middle_apart : (m : Lists) (b : Built) → IsBuilt b → ((k : ℕ) → k < length b.members → LeadsWithin m (member_of b k)) → (i j : ℕ) →
    i / 6 ≢ j / 6 → (links (joined_nodes m) (i / 6) (j / 6) → ⊥) → middle b i j ≡ pos 0
middle_apart m b built lead i j apart unlinked =
    let one = upper_apart m b i j built lead apart unlinked in
    let other = upper_apart m b j i built lead (λ same. apart (sym same)) (λ is. unlinked (linked_back m (j / 6) (i / 6) is)) in
    ap (λ (o : Outcome). middle_of (found o)) (either (nat_lt j i) one other) ∙ middle_nothing
  where
    either : (t : Bool) {x y : Outcome} → y ≡ Ok nothing → x ≡ Ok nothing → (if t then x else y) ≡ Ok nothing
    either true one other = other
    either false one other = one

-- ---- the model

pub takes_model : StiffnessIsOnPattern → MembersLeadWithin → StaysBuilt → (m : Lists) (t : Fronts) → IsModelTree m t → IsOrder t.order → TakesModel (IsOnTree t) m
takes_model on_pattern lead stays m t tree ordered b structure closed shift =
    let own = under b closed in
    let members = all_lead m b closed (λ k inside. lead m b k structure inside) in
    let all : (k : ℕ) → k < length own.members → LeadsWithin m (member_of own k) =
    λ k inside. members k (omega (arith, inside, length-map-range_with_len (member_under b closed) 0 (length b.members))) in
    in_rows (placed (links (joined_nodes m)) t.order) t _ tree.tree.later_are
    (on_pattern (joined_nodes m) t.order (middle own) shift (middle_apart m own (stays b closed structure.built) all)
    (λ p q p_in q_in same. sym (place-at t.order p ordered p_in) ∙ ap (λ (x : ℕ). place_of x t.order) same ∙ place-at t.order q ordered q_in))
