-- Iterative refinement of displacements: eight turns, each of which solves for the middles of the residuals, scaled so that
-- the solution keeps its digits, and adds the solution. Units: residuals in 2^-40 N, displacements in 2^-56 m, the entries
-- of the factor in 2^-36 of the root of N/m, so that p + q = 88 digits of scaling bring G G^T z = 2^88 r back to z.
use Rattle.std.specs.Prelude.{ℕ, zero, suc, ◌-◌, ◌*◌, ◌^◌, ◌<◌, ◌≤◌, ◌≡◌, Bool, List, length, replicate, ℤ, pos, ◌+ℤ◌, ◌*ℤ◌, unsigned_abs, Ok, IsErr}
use Rattle.flex_interval.specs.Ends.{Ends}
use Rattle.flex_interval.specs.Operations.{middle_of}
use Rattle.member_set.specs.Members.{row_count, IsModerate, System}
use Rattle.member_set.specs.Interval.{Outcome, residual_with}
use Rattle.member_set.specs.States.{trial_forces_of}
use Rattle.lists.specs.Rows.{freedom_at}
use Rattle.solve.specs.Substitution.{at, IsForward, ForwardBreaks, IsBackward, BackwardBreaks}
use Rattle.int_laws.specs.Matrices.{Vector, Entries}

-- m is the middle of the interval that there is
pub record IsMiddle (r : Outcome) (m : ℤ) : Type 0 where
  pub interval : Ends
  pub found : r ≡ Ok interval
  pub middle : m ≡ middle_of interval

-- the middles of the residuals of all rows
pub record AreMiddles (size : ℕ) (residual : ℕ → Outcome) (r : List ℤ) : Type 0 where
  pub one_each : length r ≡ size
  pub middle : (row : ℕ) → row < size → IsMiddle (residual row) (at r row)

-- some row has no residual: an operation is wide, or a member's force reaches 2^66
pub record HasNoResidual (size : ℕ) (residual : ℕ → Outcome) : Type 0 where
  pub row : ℕ
  pub inside : row < size
  pub none : IsErr (residual row)

-- 2^digits times each number is below 2^106 in size
abbrev pub HasDigits : List ℤ → ℕ → Type 0
HasDigits r digits = (i : ℕ) → i < length r → unsigned_abs (at r i) * 2 ^ digits < 2 ^ 106

-- the most digits, of at most 56, for which there is room
pub record IsScaling (r : List ℤ) (digits : ℕ) : Type 0 where
  pub at_most : digits ≤ 56
  pub room : HasDigits r digits
  pub greatest : (d : ℕ) → d ≤ 56 → HasDigits r d → d ≤ digits

-- a number is so large that there is no room at all
pub record HasNoRoom (r : List ℤ) : Type 0 where
  pub row : ℕ
  pub inside : row < length r
  pub large : 2 ^ 106 ≤ unsigned_abs (at r row)

-- the middles in the order of elimination, scaled
abbrev pub forward_side : List ℕ → List ℤ → ℕ → Vector
forward_side order r digits j = at r (freedom_at order j) *ℤ pos (2 ^ digits)

-- the rest of the 88 digits
abbrev pub backward_side : List ℤ → ℕ → Vector
backward_side y digits j = at y j *ℤ pos (2 ^ (88 - digits))

-- v is u with the solution added
pub record IsMoved (size : ℕ) (order : List ℕ) (u z v : List ℤ) : Type 0 where
  pub one_each : length v ≡ size
  pub sum : (j : ℕ) → j < size → at v (freedom_at order j) ≡ at u (freedom_at order j) +ℤ at z j

-- a displacement passes 2^60
pub record MovesTooFar (size : ℕ) (order : List ℕ) (u z : List ℤ) : Type 0 where
  pub position : ℕ
  pub inside : position < size
  pub passes : 2 ^ 60 < unsigned_abs (at u (freedom_at order position) +ℤ at z position)

-- ---- a turn

-- the residual of a row at displacements u, where the forces are those under given states
abbrev pub trial_residual_of : System → List Bool → List ℤ → ℕ → Outcome
trial_residual_of s closed u row = residual_with s.structure s.loads (trial_forces_of s.structure s.laws closed u) row

-- what is to be solved: a system under given states, and the entries of the factor of its middle stiffness matrix under them,
-- whose rows and columns stand in the order of elimination
pub record Problem : Type 0 where
  pub system : System
  pub closed : List Bool
  pub order : List ℕ
  pub factor : Entries

abbrev pub problem : System → List Bool → List ℕ → Entries → Problem
problem system closed order factor = record { system = system; closed = closed; order = order; factor = factor }

abbrev pub size_of : Problem → ℕ
size_of p = row_count p.system.structure

abbrev pub problem_residual : Problem → List ℤ → ℕ → Outcome
problem_residual p u row = trial_residual_of p.system p.closed u row

-- the steps of a turn from displacements u: the middles of the residuals, their scale, and the two substitutions
abbrev pub HasMiddles : Problem → List ℤ → List ℤ → Type 0
HasMiddles p u r = AreMiddles (size_of p) (problem_residual p u) r

abbrev pub SolvesForward : Problem → List ℤ → ℕ → List ℤ → Type 0
SolvesForward p r digits y = IsForward (size_of p) p.factor (forward_side p.order r digits) y

abbrev pub SolvesBackward : Problem → ℕ → List ℤ → List ℤ → Type 0
SolvesBackward p digits y z = IsBackward (size_of p) p.factor (backward_side y digits) z

-- one turn takes u to v
pub record IsTurn (p : Problem) (u v : List ℤ) : Type 0 where
  pub r : List ℤ
  pub digits : ℕ
  pub y : List ℤ
  pub z : List ℤ
  pub middles : HasMiddles p u r
  pub scale : IsScaling r digits
  pub forward : SolvesForward p r digits y
  pub backward : SolvesBackward p digits y z
  pub moved : IsMoved (size_of p) p.order u z v
  pub moderate : IsModerate v

-- a turn from u is too wide: its first step that can't be done
pub data TurnBreaks (p : Problem) (u : List ℤ) : Type 0 where
  no_residual : HasNoResidual (size_of p) (problem_residual p u) → TurnBreaks p u
  no_room : (r : List ℤ) → HasMiddles p u r → HasNoRoom r → TurnBreaks p u
  forward_broad : (r : List ℤ) (digits : ℕ) → HasMiddles p u r → IsScaling r digits →
      ForwardBreaks (size_of p) p.factor (forward_side p.order r digits) → TurnBreaks p u
  backward_broad : (r : List ℤ) (digits : ℕ) (y : List ℤ) → HasMiddles p u r → IsScaling r digits → SolvesForward p r digits y →
      BackwardBreaks (size_of p) p.factor (backward_side y digits) → TurnBreaks p u
  too_far : (r : List ℤ) (digits : ℕ) (y z : List ℤ) → HasMiddles p u r → IsScaling r digits → SolvesForward p r digits y →
      SolvesBackward p digits y z → MovesTooFar (size_of p) p.order u z → TurnBreaks p u

-- ---- the turns

-- so many turns from rest lead to v
abbrev pub LeadTo : Problem → ℕ → List ℤ → Type 0
LeadTo p zero v = v ≡ replicate (size_of p) (pos 0)
LeadTo p (suc n) v = (u : List ℤ) × LeadTo p n u × IsTurn p u v

-- the displacements after eight turns
abbrev pub IsCandidate : Problem → List ℤ → Type 0
IsCandidate p u = LeadTo p 8 u

-- one of the eight turns is too wide
pub record IsTooWide (p : Problem) : Type 0 where
  pub turns : ℕ
  pub u : List ℤ
  pub before : turns < 8
  pub reached : LeadTo p turns u
  pub breaks : TurnBreaks p u
