-- The search for the states of a model's contacts as a function: turn by turn from given states, until the displacements under
-- them violate none. A state is `true` where its contact is closed.
use Rattle.std.specs.Prelude.{ℕ, zero, suc, ◌&&◌, ◌||◌, nat_le, Bool, false, not, List, length, slice_index_or, if◌then◌else◌, Result, Ok, Err, is_err, ℤ, pos, int_lt}
use Rattle.int_laws.specs.Matrices.{Entries}
use Rattle.flex_interval.specs.declared.fault.Wide.{Wide}
use Rattle.flex_interval.specs.Operations.{middle_of}
use Rattle.lists.specs.Listed.{listed}
use Rattle.lists.specs.Results.{and_then, named}
use Rattle.lists.specs.Search.{any_below}
use Rattle.member_set.specs.declared.members.Built.{Built}
use Rattle.member_set.specs.Members.{System, member_of}
use Rattle.member_set.specs.Interval.{Outcome, found, reach_of, points}
use Rattle.member_set.specs.States.{state_member, state_reach_of, under}
use Rattle.assembly.specs.Stiffness.{matrices_of}
use Rattle.solve.specs.Refinement.{problem}
use Rattle.solve.specs.Turns.{turns_of, unless_wide}
use Rattle.model_types.specs.declared.answers.Cause.TheVariants as causes
use Rattle.case_run.specs.Causes.{Plan}
use Rattle.case_run.specs.Reasons.{Reason, because, matrix_reason, factor_at}

-- ---- turns

-- a trial of some states in a turn: the displacements under them, and which of the states those violate
pub record Trial : Type 0 where
  pub u : List ℤ
  pub violated : List Bool

abbrev pub trial : List ℤ → List Bool → Trial
trial u violated = record { u = u; violated = violated }

-- the state of that number
abbrev pub state_at : List Bool → ℕ → Bool
state_at states number = slice_index_or states number false

-- whether some state is violated
abbrev pub some_violated : List Bool → Bool
some_violated violated = any_below (length violated) (state_at violated)

-- what flips in a turn: whatever is violated in the first eight turns, later the least number that is
abbrev pub flips : ℕ → List Bool → ℕ → Bool
flips turn violated number = state_at violated number && (nat_le turn 8 || not (any_below number (state_at violated)))

-- the states after a turn
abbrev pub flipped : ℕ → List Bool → List Bool → List Bool
flipped turn violated states =
    listed (length states) (λ number. if flips turn violated number then not (state_at states number) else state_at states number)

-- why a search ends without states: in each of 200 turns a state was violated
abbrev pub endless_reason : Reason
endless_reason = because causes.Turns

-- the displacements under the first states of which they violate none, from a turn on with so many left; or why there are none
abbrev pub search_from : (ℕ → List Bool → Result Trial Reason) → ℕ → ℕ → List Bool → Result (List ℤ) Reason
search_from tries turn zero states = Err endless_reason
search_from tries turn (suc left) states =
    and_then (tries turn states) (λ t. if some_violated t.violated then search_from tries (suc turn) left (flipped turn t.violated states) else Ok t.u)

-- the search of at most 200 turns
unfoldable pub search_of : (ℕ → List Bool → Result Trial Reason) → List Bool → Result (List ℤ) Reason
search_of tries start = search_from tries 1 200 start

-- ---- a trial

-- a number of the refinement leaves its limit in that turn of the search
abbrev pub solve_reason : ℕ → Reason
solve_reason turn = because (causes.WidthSolve turn)

-- the factor of the middles of the members that take part under given states
abbrev pub factor_under : Plan → Built → List Bool → Result Entries Reason
factor_under p b closed = and_then (named matrix_reason (matrices_of (under b closed))) (λ matrices. factor_at p matrices.0 (pos 0))

-- the displacements after eight turns of refinement under given states
abbrev pub candidate_under : Plan → System → ℕ → List Bool → Result (List ℤ) Reason
candidate_under p s turn closed =
    and_then (factor_under p s.structure closed) (λ factor. named (λ _. solve_reason turn) (turns_of (problem s closed p.order factor) 8))

-- by how much displacements reach past the gap of the contact of a state number
abbrev pub past_at : System → List ℤ → ℕ → Outcome
past_at s u number = and_then (reach_of (member_of s.structure (state_member s.structure number)) (points u)) (state_reach_of s.structure s.laws number)

-- whether so much violates a state: a closed one where it is below 0, an open one where it is above
abbrev pub violates : Bool → ℤ → Bool
violates closed past = if closed then int_lt past (pos 0) else int_lt (pos 0) past

-- which states displacements violate, by the middles of the intervals; a reach that leaves its limit is too wide
abbrev pub violated_by : System → List ℤ → List Bool → Result (List Bool) Wide
violated_by s u closed =
    unless_wide (any_below (length s.structure.unilateral) (λ number. is_err (past_at s u number)))
    (listed (length s.structure.unilateral) (λ number. violates (state_at closed number) (middle_of (found (past_at s u number)))))

-- the trial of some states in a turn, or why it has none
abbrev pub trial_in : Plan → System → ℕ → List Bool → Result Trial Reason
trial_in p s turn closed =
    and_then (candidate_under p s turn closed) (λ u.
    and_then (named (λ _. solve_reason turn) (violated_by s u closed)) (λ violated. Ok (trial u violated)))
