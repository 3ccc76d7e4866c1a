-- What acts at an end of an element: what its members hold there by their forces, less the load of its own weight on this end.
use Rattle.std.specs.Prelude.{ℕ, ◌+◌, ◌*◌, ◌<◌, Bool, List, [], ◌∷◌, Ok, Result, ℤ, ◌*ℤ◌}
use Rattle.flex_interval.specs.Ends.{Ends}
use Rattle.flex_interval.specs.Fraction.{Fraction, Within, minus}
use Rattle.flex_interval.specs.Operations.{add_of, mul_of, sub_of}
use Rattle.flex_interval.specs.declared.fault.IvFault.{IvFault}
use Rattle.int_laws.specs.Matrices.{Vector}
use Rattle.int_laws.specs.Sums.{sum_below}
use Rattle.lists.specs.Results.{and_then}
use Rattle.member_set.specs.Interval.{Outcome, in_turn}
use Rattle.member_set.specs.Members.{nothing, member_of, shape_at, force_of}
use Rattle.member_set.specs.Realisation.{Realisation, force_in, pull_fraction}
use Rattle.member_set.specs.declared.members.Built.{Built}
use Rattle.model_types.specs.Lists.{Lists}
use Rattle.model_types.specs.MemberCounts.{shape_member_count}
use Rattle.load_vectors.specs.NodeLoads.{Reading, node_at, weight_load}
use Rattle.structure.specs.Elements.{element_at, member_count_below}

-- an end of an element of a model, `to` where `at_to`
pub record Place : Type 0 where
  pub element : ℕ
  pub at_to : Bool

abbrev pub place : ℕ → Bool → Place
place element at_to = record { element = element; at_to = at_to }

-- the row of a freedom of the node at an end
abbrev pub row_at : Lists → Place → ℕ → ℕ
row_at m p freedom = 6 * node_at (element_at m p.element) p.at_to + freedom

-- the first member of the element, and how many it has
abbrev pub first_at : Lists → Place → ℕ
first_at m p = member_count_below m p.element

abbrev pub count_at : Lists → Place → ℕ
count_at m p = shape_member_count (element_at m p.element).shape

-- ---- exact

-- the sum of W_row F over so many members from `first` on
abbrev pub exact_held : Realisation → Vector → ℕ → ℕ → ℕ → ℤ
exact_held r u first count row = sum_below count (λ k. (r.stiffness.member (first + k)).shape row *ℤ force_in r u (first + k))

-- that over the members of the element
abbrev pub exact_hold : Lists → Realisation → Vector → Place → ℕ → ℤ
exact_hold m r u p freedom = exact_held r u (first_at m p) (count_at m p) (row_at m p freedom)

-- the exact force or moment in a freedom at an end, in 2^-40 N or N m, by the weight of a reading
abbrev pub exact_action : Lists → ℕ → Realisation → Vector → Reading → Place → ℕ → Fraction
exact_action m case r u x p freedom =
    minus (pull_fraction r.stiffness.denominator (exact_hold m r u p freedom)) ((weight_load m case (element_at m p.element) p.at_to).exact x freedom)

-- each exact part of a force and a moment lies in its interval
abbrev pub EncloseParts : List Ends → (ℕ → Fraction) → Type 0
EncloseParts f acts = (freedom : ℕ) → freedom < 6 → Within (force_of f freedom) (acts freedom)

-- ---- rounded

-- what a member holds on a row by its force: w_row times it
abbrev pub hold_of : Built → List Ends → ℕ → ℕ → Outcome
hold_of b forces row k = mul_of (shape_at (member_of b k) row) (force_of forces k) 56

-- the sum over so many members from `first` on, in order
abbrev pub sum_held : Built → List Ends → ℕ → ℕ → ℕ → Outcome
sum_held b forces first count row = in_turn add_of nothing (λ k. hold_of b forces row (first + k)) count

-- that over the members of the element
abbrev pub held_of : Lists → Built → List Ends → Place → ℕ → Outcome
held_of m b forces p freedom = sum_held b forces (first_at m p) (count_at m p) (row_at m p freedom)

-- the load of the element's weight on the end
abbrev pub weight_of : Lists → ℕ → Place → ℕ → Outcome
weight_of m case p freedom = (weight_load m case (element_at m p.element) p.at_to).part freedom

-- the six parts of a force and a moment, where each is there
abbrev pub six : (ℕ → Outcome) → Result (List Ends) IvFault
six part =
    and_then (part 0) (λ fx. and_then (part 1) (λ fy. and_then (part 2) (λ fz.
    and_then (part 3) (λ mx. and_then (part 4) (λ my. and_then (part 5) (λ mz.
    Ok (fx ∷ fy ∷ fz ∷ mx ∷ my ∷ mz ∷ [])))))))

-- by how much one action is more than another, part by part
abbrev pub range_part_of : List Ends → List Ends → ℕ → Outcome
range_part_of first second freedom = sub_of (force_of first freedom) (force_of second freedom)

abbrev pub action_range_of : List Ends → List Ends → Result (List Ends) IvFault
action_range_of first second = six (range_part_of first second)

-- what acts at an end, by the forces of all members: what is held, less the weight
abbrev pub action_of : Lists → ℕ → Built → List Ends → Place → Result (List Ends) IvFault
action_of m case b forces p =
    and_then (six (held_of m b forces p)) (λ held. and_then (six (weight_of m case p)) (λ weight. action_range_of held weight))
