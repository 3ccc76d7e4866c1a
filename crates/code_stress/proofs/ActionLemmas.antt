-- What acts at an end of an element: which members hold there, and what the parts of an action are.
use Rattle.std.proofs.Common.{◌≡◌, ◌∙◌, sym, ap, subst, refl, arith, add-one, ℕ, zero, suc, ◌+◌, ◌*◌, ◌<◌, ◌≤◌, inl, inr, Bool, true, false, if◌then◌else◌, List, [], ◌∷◌, length, All, Option, Some, None, Ok, Result}
use Rattle.std.specs.Prelude.{is_some, IfSome}
use Rattle.std.specs.List.{slice_index_or}
use Rattle.std.proofs.lemmas.Bool.{cases_eq}
use Rattle.std.proofs.lemmas.List.Elements.{All-head, All-tail}
use Rattle.flex_interval.specs.Ends.{Ends}
use Rattle.flex_interval.specs.Fraction.{Fraction, Within}
use Rattle.flex_interval.specs.Operations.{add_of, mul_of}
use Rattle.flex_interval.specs.declared.fault.IvFault.{IvFault}
use Rattle.lists.specs.Results.{and_then}
use Rattle.member_set.specs.Interval.{Outcome}
use Rattle.member_set.specs.Members.{nothing, no_member, member_of, shape_at, force_of, law_of}
use Rattle.member_set.specs.Realisation.{Stiffness, IsStiffnessOf, IsMemberWithin}
use Rattle.member_set.specs.declared.members.Built.{Built}
use Rattle.member_set.specs.declared.members.Law.{Law}
use Rattle.member_set.specs.declared.members.Member.{Member}
use Rattle.model_types.specs.Lists.{Lists}
use Rattle.model_types.specs.MemberCounts.{shape_member_count}
use Rattle.model_types.specs.declared.records.CheckKind.{CheckKind}
use Rattle.model_types.specs.declared.records.Element.{Element}
use Rattle.load_vectors.specs.NodeLoads.{NodeLoad, node_at, weight_load}
use Rattle.load_vectors.specs.Totals.{ArePartsOf}
use Rattle.structure.specs.Elements.{element_at, member_count_below}
use Rattle.structure.specs.Structure.{IsStructureOf, model_members}
use Rattle.code_stress.specs.Actions.{Place, EncloseParts, sum_held, held_of, six, action_range_of, action_of}
use Rattle.code_stress.specs.Checks.{CaseForces, cases_of, forces_in, forces_or_none, is_certified, first_uncertified}
use Rattle.code_stress.specs.Meaning.{EnclosesAction}
use Rattle.code_stress.specs.Rules.{IsCheckOf, AreForcesOf}

-- ---- the members of an element

-- those of an element stand before those of a later one
pub count_rises : (m : Lists) (n k : ℕ) → n < k → member_count_below m n + shape_member_count (element_at m n).shape ≤ member_count_below m k
count_rises m n zero below = absurd (omega arith)
count_rises m n (suc k) below =
    elim (cases_eq n k) [
      | inl same ↦ subst (λ (j : ℕ). member_count_below m n + shape_member_count (element_at m n).shape ≤ member_count_below m (suc j)) same (omega arith)
      | inr apart ↦ let before = count_rises m n k (omega arith) in omega (arith, before)
    ]

pub node_inside : (e : Element) (at_to : Bool) (n : ℕ) → e.from.0 < n → e.to.0 < n → node_at e at_to < n
node_inside e false n from to = from
node_inside e true n from to = to

-- two structures of a model have the same members
same_members : (m : Lists) (b c : Built) → IsStructureOf m b → IsStructureOf m c → c.members ≡ b.members
same_members m b c one other = same b.members c.members (model_members m) one.members other.members
  where
    same : (x y : List Member) (o : Result (List Member) ℕ) → o ≡ Ok x → o ≡ Ok y → y ≡ x
    same x y o p q = cc

-- and so a stiffness of one is one of the other
pub stiffness_of_both : (m : Lists) (b c : Built) (laws : List Law) (s : Stiffness) → IsStructureOf m b → IsStructureOf m c → IsStiffnessOf c laws s → IsStiffnessOf b laws s
stiffness_of_both m b c laws s one other stiffness =
    let same = same_members m b c one other in
    record {
      positive = stiffness.positive;
      all_rows = stiffness.all_rows ∙ ap (λ (n : ℕ). 6 * n) (other.nodes ∙ sym one.nodes);
      all_members = stiffness.all_members ∙ ap (λ (xs : List Member). length xs) same;
      member_within = λ k inside. subst (λ (xs : List Member). IsMemberWithin s.denominator (slice_index_or xs k no_member) (law_of laws k) (s.member k)) same (stiffness.member_within k inside);
    }

-- ---- what they hold

-- one member more, whatever it gives
pub sum_held-next : (b : Built) (forces : List Ends) (first part row : ℕ) (m : Member) (force total : Ends) (r : Outcome) → m ≡ member_of b (first + part) → force ≡ force_of forces (first + part) →
    sum_held b forces first part row ≡ Ok total → r ≡ and_then (mul_of (shape_at m row) force 56) (add_of total) → sum_held b forces first (part + 1) row ≡ r
sum_held-next b forces first part row m force total r member_is force_is before is = rw (add-one part, before, is, member_is, force_is) refl

-- ---- parts

-- what holds in each freedom
in_each : (P : ℕ → Type 0) → P 0 → P 1 → P 2 → P 3 → P 4 → P 5 → (freedom : ℕ) → freedom < 6 → P freedom
in_each P a b c d e f zero below = a
in_each P a b c d e f (suc zero) below = b
in_each P a b c d e f (suc (suc zero)) below = c
in_each P a b c d e f (suc (suc (suc zero))) below = d
in_each P a b c d e f (suc (suc (suc (suc zero)))) below = e
in_each P a b c d e f (suc (suc (suc (suc (suc zero))))) below = f
in_each P a b c d e f (suc (suc (suc (suc (suc (suc n)))))) below = absurd (omega arith)

-- six intervals that each hold a part
pub six_enclose : (a b c d e f : Ends) (acts : ℕ → Fraction) → Within a (acts 0) → Within b (acts 1) → Within c (acts 2) → Within d (acts 3) → Within e (acts 4) → Within f (acts 5) →
    EncloseParts (a ∷ b ∷ c ∷ d ∷ e ∷ f ∷ []) acts
six_enclose a b c d e f acts p q r s t u = in_each (λ k. Within (force_of (a ∷ b ∷ c ∷ d ∷ e ∷ f ∷ []) k) (acts k)) p q r s t u

pub action_parts : (f : List Ends) (acts : ℕ → Fraction) → EnclosesAction f acts → EncloseParts f acts
action_parts f acts within =
    in_each (λ k. Within (force_of f k) (acts k))
    (within.force.x nothing) (within.force.y nothing) (within.force.z nothing) (within.moment.x nothing) (within.moment.y nothing) (within.moment.z nothing)

-- the six parts of a load
load_parts : (load : NodeLoad) (parts : List Ends) → ArePartsOf load parts →
    six load.part ≡ Ok (force_of parts 0 ∷ force_of parts 1 ∷ force_of parts 2 ∷ force_of parts 3 ∷ force_of parts 4 ∷ force_of parts 5 ∷ [])
load_parts load parts are =
    rw (are.value 0 (omega arith), are.value 1 (omega arith), are.value 2 (omega arith), are.value 3 (omega arith), are.value 4 (omega arith), are.value 5 (omega arith)) refl

pub action_is : (m : Lists) (case : ℕ) (b : Built) (forces held weight : List Ends) (p : Place) (r : Result (List Ends) IvFault) → Ok held ≡ six (held_of m b forces p) →
    ArePartsOf (weight_load m case (element_at m p.element) p.at_to) weight → r ≡ action_range_of held weight → r ≡ action_of m case b forces p
action_is m case b forces held weight p r held_is weight_is is =
    rw (← held_is, load_parts (weight_load m case (element_at m p.element) p.at_to) weight weight_is) is

-- ---- the cases of a check

pub first_there : (m : Lists) (kind : CheckKind) (case : ℕ) (cases : List ℕ) → cases_of kind ≡ case ∷ cases → IsCheckOf m kind → case < length m.cases
first_there m kind case cases are check = All-head (λ (n : ℕ). n < length m.cases) case cases (subst (All (λ (n : ℕ). n < length m.cases)) are check.cases)

pub second_there : (m : Lists) (kind : CheckKind) (first case : ℕ) (cases : List ℕ) → cases_of kind ≡ first ∷ case ∷ cases → IsCheckOf m kind → case < length m.cases
second_there m kind first case cases are check =
    All-head (λ (n : ℕ). n < length m.cases) case cases
    (All-tail (λ (n : ℕ). n < length m.cases) first (case ∷ cases) (subst (All (λ (n : ℕ). n < length m.cases)) are check.cases))

pub certified : (forces : CaseForces) (case : ℕ) (cases : List ℕ) → first_uncertified forces (case ∷ cases) ≡ None → (is_certified forces case ≡ true) × (first_uncertified forces cases ≡ None)
certified forces case cases none = at (is_certified forces case) none
  where
    at : (t : Bool) → (if t then first_uncertified forces cases else Some case) ≡ None → (t ≡ true) × (first_uncertified forces cases ≡ None)
    at true is = (refl, is)
    at false is = absurd (cc)

-- a certified case has a force for each member
pub forces_there : (m : Lists) (b : Built) (forces : CaseForces) (case : ℕ) → AreForcesOf m b forces → case < length m.cases → is_certified forces case ≡ true →
    length (forces_in forces case) ≡ length b.members
forces_there m b forces case are inside certified = at (slice_index_or forces case None) (are.one_a_member case None (rw are.one_each inside)) certified
  where
    at : (o : Option (List Ends)) → IfSome o (λ f. length f ≡ length b.members) → is_some o ≡ true → length (forces_or_none o) ≡ length b.members
    at None one some = absurd (cc)
    at (Some f) one some = one
