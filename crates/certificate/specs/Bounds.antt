-- The bounds that are computed of every equilibrium: given displacements u and the members' forces there, each wider by a
-- radius. The radii come from lambda and from the length of what u leaves of the loads, by the law of certified bounds.
use Rattle.std.specs.Prelude.{ℕ, ◌^◌, ◌<◌, ◌≡◌, List, [], length, slice_index_or, ℤ, pos, ◌≤ℤ◌, ◌<ℤ◌, unsigned_abs, All, Ok, Err, IsOk, IsErr, is_err, Bool, ◌||◌, Result, if◌then◌else◌, int_le}
use Rattle.int_laws.specs.Root.{root_up_of}
use Rattle.lists.specs.Listed.{listed}
use Rattle.lists.specs.Search.{any_below}
use Rattle.flex_interval.specs.declared.fault.Wide.{Wide}
use Rattle.flex_interval.specs.Ends.{Ends}
use Rattle.flex_interval.specs.Fraction.{Within}
use Rattle.member_set.specs.Members.{nothing, member_of, force_of, row_count, IsModerate, System, IsBuilt, AreStiff}
use Rattle.member_set.specs.Realisation.{Realisation, force_in, fraction, force_fraction, Stiffness, IsRealisation, IsEquilibrium}
use Rattle.member_set.specs.Interval.{found, forces_of, residual_of}
use Rattle.certificate.specs.declared.bounds.Enclosure.{Enclosure}
use Rattle.int_laws.specs.Matrices.{Vector, squared_norm}
use Rattle.bound_laws.specs.Definiteness.{SymmetricFractions, IsDefiniteWith}
use Rattle.bound_laws.specs.Nearness.{IsStiffnessMatrix, widened, alone, greater_size, displacement_radius_of, force_radius_of}

-- ---- what is asked of a stiffness

-- its matrix is definite with lambda, in units of 2^-20 N/m
abbrev pub IsDefiniteStiffness : Stiffness → ℤ → Type 0
IsDefiniteStiffness s lambda = (k : SymmetricFractions s.rows) → IsStiffnessMatrix s k → IsDefiniteWith s.rows lambda k

-- ---- what displacements u leave of the loads, in units of 2^-40 N or N m

-- the interval of what is left of a row's load
abbrev pub residual_at : System → List ℤ → ℕ → Ends
residual_at s u row = found (residual_of s u row)

-- the sum over the rows of the square of the residual's greater size
abbrev pub sum_of_squares : System → List ℤ → ℤ
sum_of_squares s u = squared_norm (row_count s.structure) (λ row. greater_size (residual_at s u row))

-- the length of what is left: the root of the sum of squares, rounded up
abbrev pub residual_length : System → List ℤ → ℤ
residual_length s u = root_up_of (sum_of_squares s u)

-- ---- the radii, in units of 2^-56 m or rad and of 2^-40 N or N m

-- of every displacement
abbrev pub displacement_radius : System → List ℤ → ℤ → ℤ
displacement_radius s u lambda = displacement_radius_of lambda (residual_length s u)

-- of a member's force
abbrev pub force_radius : System → List ℤ → ℤ → ℕ → ℤ
force_radius s u lambda k = force_radius_of lambda (residual_length s u) (member_of s.structure k).kappa.hi

-- ---- the bounds, or why there are none

-- every row has a residual
abbrev pub HasResiduals : System → List ℤ → Type 0
HasResiduals s u = (row : ℕ) → row < row_count s.structure → IsOk (residual_of s u row)

-- all intervals are there, and no number reaches its limit
pub record HasBounds (s : System) (u : List ℤ) (lambda : ℤ) : Type 0 where
  pub residuals : HasResiduals s u
  pub forces : (k : ℕ) → k < length s.structure.members → IsOk (forces_of s.structure s.laws u k)
  pub short : sum_of_squares s u <ℤ pos (2 ^ 126)
  pub near : displacement_radius s u lambda <ℤ pos (2 ^ 60)
  pub steady : (k : ℕ) → k < length s.structure.members → force_radius s u lambda k <ℤ pos (2 ^ 60)

-- some interval isn't there, or some number reaches its limit
abbrev pub bounds_fail : System → List ℤ → ℤ → Bool
bounds_fail s u lambda =
    any_below (row_count s.structure) (λ row. is_err (residual_of s u row))
    || (any_below (length s.structure.members) (λ k. is_err (forces_of s.structure s.laws u k))
    || (int_le (pos (2 ^ 126)) (sum_of_squares s u)
    || (int_le (pos (2 ^ 60)) (displacement_radius s u lambda)
    || any_below (length s.structure.members) (λ k. int_le (pos (2 ^ 60)) (force_radius s u lambda k)))))

-- each displacement of u, and each member's force there, wider by its radius on both sides; no member has a state
abbrev pub enclosure_of : System → List ℤ → ℤ → Enclosure
enclosure_of s u lambda =
    record {
      u = listed (row_count s.structure) (λ row. widened (alone (slice_index_or u row (pos 0))) (displacement_radius s u lambda));
      force = listed (length s.structure.members) (λ k. widened (found (forces_of s.structure s.laws u k)) (force_radius s u lambda k));
      closed = [];
    }

-- the bounds around displacements u, where there are any
abbrev pub bounds_around : System → List ℤ → ℤ → Result Enclosure Wide
bounds_around s u lambda = if bounds_fail s u lambda then Err (record {}) else Ok (enclosure_of s u lambda)

-- each displacement of u, and each member's force there, wider by its radius on both sides; no member has a state
pub record AreBounds (s : System) (u : List ℤ) (lambda : ℤ) (e : Enclosure) : Type 0 where
  pub exist : HasBounds s u lambda
  pub one_displacement_each : length e.u ≡ row_count s.structure
  pub displacement : (row : ℕ) → row < row_count s.structure →
      slice_index_or e.u row nothing ≡ widened (alone (slice_index_or u row (pos 0))) (displacement_radius s u lambda)
  pub one_force_each : length e.force ≡ length s.structure.members
  pub force : (k : ℕ) → k < length s.structure.members →
      force_of e.force k ≡ widened (found (forces_of s.structure s.laws u k)) (force_radius s u lambda k)
  pub no_states : e.closed ≡ []

-- why there are none: a row has no residual, the sum of squares is too long, the displacements are too far, or a force is too
-- unsteady
pub data HasNoBounds (s : System) (u : List ℤ) (lambda : ℤ) : Type 0 where
  no_residual : (row : ℕ) → row < row_count s.structure → IsErr (residual_of s u row) → HasNoBounds s u lambda
  long : pos (2 ^ 126) ≤ℤ sum_of_squares s u → HasNoBounds s u lambda
  far : pos (2 ^ 60) ≤ℤ displacement_radius s u lambda → HasNoBounds s u lambda
  unsteady : (k : ℕ) → k < length s.structure.members → pos (2 ^ 60) ≤ℤ force_radius s u lambda k → HasNoBounds s u lambda

-- ---- what they mean

-- each displacement and each force of the equilibrium is in its interval
pub record EnclosesEquilibrium (e : Enclosure) (r : Realisation) (exact : Vector) : Type 0 where
  pub displacement : (row : ℕ) → row < r.stiffness.rows → Within (slice_index_or e.u row nothing) (fraction (exact row) r.stiffness.denominator)
  pub force : (k : ℕ) → k < r.stiffness.members → Within (force_of e.force k) (force_fraction r.stiffness.denominator (force_in r exact k))

-- the bounds around displacements hold where the stiffness is definite: how the displacements were found is no premise
abbrev pub BoundsHold : Type 0
BoundsHold = (s : System) (u : List ℤ) (lambda : ℤ) (e : Enclosure) (r : Realisation) (exact : Vector) →
    IsBuilt s.structure → AreStiff s.structure → pos 1 ≤ℤ lambda → bounds_around s u lambda ≡ Ok e →
    IsRealisation s r → IsDefiniteStiffness r.stiffness lambda → IsEquilibrium r exact → EnclosesEquilibrium e r exact

-- both ends of an interval are below 2^67 in size
abbrev pub HasLimitedEnds : Ends → Type 0
HasLimitedEnds e = (unsigned_abs e.lo < 2 ^ 67) × (unsigned_abs e.hi < 2 ^ 67)

-- bounds around moderate displacements are below 2^67 in size
abbrev pub BoundsAreLimited : Type 0
BoundsAreLimited = (s : System) (u : List ℤ) (lambda : ℤ) (e : Enclosure) →
    pos 1 ≤ℤ lambda → length u ≡ row_count s.structure → IsModerate u → bounds_around s u lambda ≡ Ok e →
    All HasLimitedEnds e.u × All HasLimitedEnds e.force
