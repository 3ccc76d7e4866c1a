-- The contact state of each one-way member over the bounds of the displacements, and what of its force the state lets through.
use Rattle.std.specs.Prelude.{ℕ, ◌<◌, ◌≡◌, ◌⊎◌, ⊤, nat_lt, int_le, Bool, true, false, if◌then◌else◌, Option, Some, None, is_none, unwrap_or, option_map, List, All, length, slice_index_or, ℤ, pos, ◌≤ℤ◌, Result, Ok, Err, IsOk, IsErr, is_err}
use Rattle.lists.specs.Listed.{listed}
use Rattle.lists.specs.Order.{place_of}
use Rattle.lists.specs.Results.{and_then, named, unless}
use Rattle.lists.specs.Search.{any_below, first_below, IsFirst}
use Rattle.flex_interval.specs.Ends.{Ends}
use Rattle.flex_interval.specs.Operations.{max_of}
use Rattle.int_laws.specs.Matrices.{Vector}
use Rattle.member_set.specs.declared.members.Built.{Built}
use Rattle.member_set.specs.Members.{System, IsBuilt, HasStates, IsModerate, AreStiff, nothing, member_of, force_of, row_count}
use Rattle.member_set.specs.Realisation.{Realisation, IsRealisation, IsEquilibrium, IsInState}
use Rattle.member_set.specs.Interval.{Outcome, found, reach_of, intervals}
use Rattle.member_set.specs.States.{state_member, state_reach_of}
use Rattle.certificate.specs.declared.bounds.Enclosure.{Enclosure}
use Rattle.certificate.specs.declared.fault.EncloseFault.{EncloseFault}
use Rattle.certificate.specs.declared.fault.EncloseFault.TheVariants as faults
use Rattle.certificate.specs.Bounds.{AreBounds, HasNoBounds, HasLimitedEnds, EnclosesEquilibrium, IsDefiniteStiffness, bounds_around}
use Rattle.certificate.specs.Widening.{only}

-- ---- states

-- by how much the reach of the member of a state number is past its gap, over bounds of the displacements
abbrev pub state_past : System → List Ends → ℕ → Outcome
state_past s bounds number =
    and_then (reach_of (member_of s.structure (state_member s.structure number)) (intervals bounds)) (state_reach_of s.structure s.laws number)

-- open where that is wholly at most 0, else closed where it is wholly at least 0
abbrev pub judged : Ends → Option Bool
judged past = if int_le past.hi (pos 0) then Some false else if int_le (pos 0) past.lo then Some true else None

-- it lies on neither side
abbrev pub IsBetween : Outcome → Type 0
IsBetween past = judged (found past) ≡ None

-- the interval that there is lies on the side of the state
pub record IsSettled (past : Outcome) (closed : Bool) : Type 0 where
  pub interval : Ends
  pub value : past ≡ Ok interval
  pub side : judged interval ≡ Some closed

-- each state is that of its member
pub record AreSettled (s : System) (bounds : List Ends) (closed : List Bool) : Type 0 where
  pub one_each : length closed ≡ length s.structure.unilateral
  pub state : (number : ℕ) → number < length s.structure.unilateral → IsSettled (state_past s bounds number) (slice_index_or closed number false)

-- ---- forces

-- an open member has no force, and a closed one none below 0
abbrev pub held : Bool → Ends → Ends
held false force = nothing
held true force = max_of nothing force

-- the force of a member, held where it has a state
abbrev pub held_force : Built → List Bool → ℕ → Ends → Ends
held_force b closed k force =
    if nat_lt (place_of k b.unilateral) (length b.unilateral) then held (slice_index_or closed (place_of k b.unilateral) false) force else force

-- each force is
pub record AreHeld (b : Built) (closed : List Bool) (old new : List Ends) : Type 0 where
  pub one_each : length new ≡ length b.members
  pub force : (k : ℕ) → k < length b.members → force_of new k ≡ held_force b closed k (force_of old k)

-- ---- the bounds with states as a function

-- why there are none: a number leaves its limit; the state of a number, the first such, lies on neither side
pub data Unbounded : Type 0 where
  too_wide : Unbounded
  unsettled : ℕ → Unbounded

-- the reach of some member with a state leaves its limit
abbrev pub reach_fails : System → List Ends → Bool
reach_fails s bounds = any_below (length s.structure.unilateral) (λ number. is_err (state_past s bounds number))

-- the state of a number over bounds of the displacements, where it lies on a side
abbrev pub state_at : System → List Ends → ℕ → Option Bool
state_at s bounds number = judged (found (state_past s bounds number))

-- the first state number without one
abbrev pub first_between : System → List Ends → Option ℕ
first_between s bounds = first_below (length s.structure.unilateral) (λ number. is_none (state_at s bounds number))

-- the state of each number
abbrev pub states_over : System → List Ends → List Bool
states_over s bounds = listed (length s.structure.unilateral) (λ number. unwrap_or (state_at s bounds number) false)

-- bounds with the states over them, and with the forces held
abbrev pub in_states : System → Enclosure → Enclosure
in_states s e =
    record {
      u = e.u;
      force = listed (length s.structure.members) (λ k. held_force s.structure (states_over s e.u) k (force_of e.force k));
      closed = states_over s e.u;
    }

-- the same, where each state has a reach and a side
abbrev pub settled : System → Enclosure → Result Enclosure Unbounded
settled s e = if reach_fails s e.u then Err too_wide else unless (option_map unsettled (first_between s e.u)) (in_states s e)

-- the bounds around displacements u, in which each one-way member is open or closed
abbrev pub states_around : System → List ℤ → ℤ → Result Enclosure Unbounded
states_around s u lambda = and_then (named (λ _. too_wide) (bounds_around s u lambda)) (settled s)

-- what a fault says of that
abbrev pub told : EncloseFault → Option Unbounded
told faults.Wide = Some too_wide
told (faults.State number) = Some (unsettled number)
told faults.NoMemory = None

-- ---- the same as relations

-- the bounds around displacements u; over those of the displacements each one-way member has its state, and the forces are held
pub record AreBoundsInStates (s : System) (u : List ℤ) (lambda : ℤ) (e : Enclosure) : Type 0 where
  pub outer : List Ends
  pub bounds : AreBounds s u lambda (only e.u outer)
  pub states : AreSettled s e.u e.closed
  pub forces : AreHeld s.structure e.closed outer e.force

-- a member with a state has no reach over the bounds
pub record HasNoReach (s : System) (u : List ℤ) (lambda : ℤ) : Type 0 where
  pub bounds : List Ends
  pub outer : List Ends
  pub are : AreBounds s u lambda (only bounds outer)
  pub number : ℕ
  pub inside : number < length s.structure.unilateral
  pub none : IsErr (state_past s bounds number)

-- all reaches are there, and the state is the first that lies on neither side
pub record IsUnsettled (s : System) (u : List ℤ) (lambda : ℤ) (number : ℕ) : Type 0 where
  pub bounds : List Ends
  pub outer : List Ends
  pub are : AreBounds s u lambda (only bounds outer)
  pub reaches : (n : ℕ) → n < length s.structure.unilateral → IsOk (state_past s bounds n)
  pub first : IsFirst (length s.structure.unilateral) (λ n. IsBetween (state_past s bounds n)) number

-- what each fault says
abbrev pub TellsFault : System → List ℤ → ℤ → EncloseFault → Type 0
TellsFault s u lambda faults.Wide = HasNoBounds s u lambda ⊎ HasNoReach s u lambda
TellsFault s u lambda (faults.State number) = IsUnsettled s u lambda number
TellsFault s u lambda faults.NoMemory = ⊤

-- ---- what they mean

-- each one-way member is in its state
abbrev pub HoldsStates : Built → Enclosure → Realisation → Vector → Type 0
HoldsStates b e r exact = (number : ℕ) → number < length b.unilateral →
    IsInState r exact (state_member b number) (slice_index_or e.closed number false)

-- bounds with states hold where the stiffness is definite: each displacement and force of an equilibrium, and each state
abbrev pub StatesHold : Type 0
StatesHold = (s : System) (u : List ℤ) (lambda : ℤ) (e : Enclosure) (r : Realisation) (exact : Vector) →
    IsBuilt s.structure → HasStates s.structure s.laws → AreStiff s.structure → pos 1 ≤ℤ lambda → states_around s u lambda ≡ Ok e →
    IsRealisation s r → IsDefiniteStiffness r.stiffness lambda → IsEquilibrium r exact →
    EnclosesEquilibrium e r exact × HoldsStates s.structure e r exact

-- those around moderate displacements are below 2^67 in size
abbrev pub StatesAreLimited : Type 0
StatesAreLimited = (s : System) (u : List ℤ) (lambda : ℤ) (e : Enclosure) →
    pos 1 ≤ℤ lambda → length u ≡ row_count s.structure → IsModerate u → states_around s u lambda ≡ Ok e →
    All HasLimitedEnds e.u × All HasLimitedEnds e.force
