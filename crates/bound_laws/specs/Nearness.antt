-- How near every equilibrium is to given displacements, by what they leave of the loads and by the definiteness of the
-- stiffness. How the displacements were found is no premise, nor is any factor or matrix of a computation.
--
-- With lambda a lower bound of the stiffness and |r| the length of what is left of the loads, each displacement is within
-- |r| / lambda of the given one, and each member's force within |r| sqrt(kappa / lambda) of its force there.
use Rattle.std.specs.Prelude.{ℕ, ◌^◌, ◌<◌, ◌≡◌, List, length, slice_index_or, ℤ, pos, ◌+ℤ◌, ◌-ℤ◌, ◌*ℤ◌, ◌≤ℤ◌}
use Rattle.std.specs.Int.{int_max}
use Rattle.int_laws.specs.Sums.{sum_below}
use Rattle.int_laws.specs.Division.{ceil_of}
use Rattle.int_laws.specs.Root.{root_up_of}
use Rattle.flex_interval.specs.Ends.{Ends}
use Rattle.flex_interval.specs.Fraction.{Within}
use Rattle.member_set.specs.declared.members.Built.{Built}
use Rattle.member_set.specs.declared.members.Law.{Law}
use Rattle.member_set.specs.Members.{member_of, System}
use Rattle.member_set.specs.Realisation.{Stiffness, IsStiffnessOf, Realisation, IsRealisation, IsEquilibrium, entry_unit, linear_members, exact_entry, force_in, exact_residual, displaced, fraction, force_fraction}
use Rattle.int_laws.specs.Matrices.{Vector, Entries, absolute, squared_norm}
use Rattle.bound_laws.specs.Definiteness.{SymmetricFractions, IsDefiniteWith}

-- ---- the matrix of a stiffness

-- k is the matrix of the stiffnesses that take part at all displacements, those of linear laws, in units of 2^-20 N/m
pub record IsStiffnessMatrix (s : Stiffness) (k : SymmetricFractions s.rows) : Type 0 where
  pub entry : (i j : ℕ) → i < s.rows → j < s.rows → k.numerator i j ≡ exact_entry (linear_members s) s i j
  pub unit : k.denominator ≡ entry_unit s.denominator

-- no stiffness has a lower end below 0
abbrev pub NoNegativeStiffness : Built → Type 0
NoNegativeStiffness b = (k : ℕ) → k < length b.members → pos 0 ≤ℤ (member_of b k).kappa.lo

-- ---- an equilibrium against displacements u in whole units

-- how far the equilibrium is from u, over the denominator
abbrev pub displacement_error : Realisation → List ℤ → Vector → Vector
displacement_error r u exact row = exact row -ℤ displaced r.stiffness.denominator u row

-- how far a member's force in the equilibrium is from its force at u: 2^92 q^3 times the difference
abbrev pub force_error : Realisation → List ℤ → Vector → ℕ → ℤ
force_error r u exact k = force_in r exact k -ℤ force_in r (displaced r.stiffness.denominator u) k

-- what u leaves of each row's load: 2^148 q^4 times the residual
abbrev pub left_over : Realisation → List ℤ → Vector
left_over r u row = (exact_residual r (displaced r.stiffness.denominator u) row).num

-- lambda |e| ≤ |r|, and lambda f^2 ≤ kappa |r|^2 for each member, as whole numbers
pub record IsNear (r : Realisation) (lambda : ℤ) (u : List ℤ) (exact : Vector) : Type 0 where
  pub displacements :
      (((lambda *ℤ entry_unit r.stiffness.denominator) *ℤ (lambda *ℤ entry_unit r.stiffness.denominator)) *ℤ squared_norm r.stiffness.rows (displacement_error r u exact))
      ≤ℤ squared_norm r.stiffness.rows (left_over r u)
  pub forces : (k : ℕ) → k < r.stiffness.members →
      ((lambda *ℤ entry_unit r.stiffness.denominator) *ℤ (force_error r u exact k *ℤ force_error r u exact k))
      ≤ℤ ((r.stiffness.member k).stiffness *ℤ squared_norm r.stiffness.rows (left_over r u))

-- ---- the law

-- every stiffness has its matrix
abbrev pub StiffnessMatrixExists : Type 0
StiffnessMatrixExists = (b : Built) (laws : List Law) (s : Stiffness) → IsStiffnessOf b laws s →
    (k : SymmetricFractions s.rows) × IsStiffnessMatrix s k

-- where a realisation's stiffness is definite with lambda, every equilibrium is near to any displacements, whatever the laws
abbrev pub EquilibriaAreNear : Type 0
EquilibriaAreNear = (s : System) (r : Realisation) (k : SymmetricFractions r.stiffness.rows)
    (lambda : ℤ) (u : List ℤ) (exact : Vector) →
    NoNegativeStiffness s.structure → IsRealisation s r → IsStiffnessMatrix r.stiffness k → IsDefiniteWith r.stiffness.rows lambda k → pos 1 ≤ℤ lambda →
    IsEquilibrium r exact → IsNear r lambda u exact

-- ---- the same as intervals, in the units of the enclosures

-- 2^148 q^4: what is left of a load is so many times its value in 2^-40 N or N m
abbrev pub residual_unit : Realisation → ℤ
residual_unit r = pos (2 ^ 148) *ℤ (((r.stiffness.denominator *ℤ r.stiffness.denominator) *ℤ r.stiffness.denominator) *ℤ r.stiffness.denominator)

-- what u leaves of the loads is at most so long, in 2^-40 N
abbrev pub IsResidualLength : Realisation → List ℤ → ℤ → Type 0
IsResidualLength r u size =
    squared_norm r.stiffness.rows (left_over r u) ≤ℤ ((residual_unit r *ℤ size) *ℤ (residual_unit r *ℤ size))

-- a radius of the displacements of at least 2^36 |r| / lambda, and one for each force of at least |r| sqrt(kappa / lambda)
pub record AreRadii (b : Built) (lambda size radius : ℤ) (force_radius : ℕ → ℤ) : Type 0 where
  pub displacement : (pos (2 ^ 36) *ℤ size) ≤ℤ (lambda *ℤ radius)
  pub force : (k : ℕ) → k < length b.members →
      ((member_of b k).kappa.hi *ℤ (size *ℤ size)) ≤ℤ (lambda *ℤ (force_radius k *ℤ force_radius k))
  pub not_negative : (k : ℕ) → k < length b.members → pos 0 ≤ℤ force_radius k

-- the interval, wider by a radius on both sides
abbrev pub widened : Ends → ℤ → Ends
widened e radius = record { lo = e.lo -ℤ radius; hi = e.hi +ℤ radius }

-- the number alone
abbrev pub alone : ℤ → Ends
alone z = record { lo = z; hi = z }

-- each force at u is within its interval
abbrev pub AreForcesWithin : Realisation → List ℤ → (ℕ → Ends) → Type 0
AreForcesWithin r u force = (k : ℕ) → k < r.stiffness.members →
    Within (force k) (force_fraction r.stiffness.denominator (force_in r (displaced r.stiffness.denominator u) k))

-- each displacement and each force of the equilibrium is within the radius of that at u
pub record IsEnclosed (r : Realisation) (u : List ℤ) (force_at : ℕ → Ends) (radius : ℤ) (force_radius : ℕ → ℤ) (exact : Vector) : Type 0 where
  pub displacement : (row : ℕ) → row < r.stiffness.rows →
      Within (widened (alone (slice_index_or u row (pos 0))) radius) (fraction (exact row) r.stiffness.denominator)
  pub force : (k : ℕ) → k < r.stiffness.members →
      Within (widened (force_at k) (force_radius k)) (force_fraction r.stiffness.denominator (force_in r exact k))

-- what is near is within the radii
abbrev pub NearIsEnclosed : Type 0
NearIsEnclosed = (s : System) (r : Realisation) (lambda : ℤ) (u : List ℤ) (exact : Vector)
    (force : ℕ → Ends) (size radius : ℤ) (force_radius : ℕ → ℤ) →
    NoNegativeStiffness s.structure → IsRealisation s r → pos 1 ≤ℤ lambda → IsNear r lambda u exact →
    pos 0 ≤ℤ size → IsResidualLength r u size → AreRadii s.structure lambda size radius force_radius → AreForcesWithin r u force →
    IsEnclosed r u force radius force_radius exact

-- ---- a length and radii that are enough, in whole numbers

-- the greater size of an interval's ends
abbrev pub greater_size : Ends → ℤ
greater_size e = int_max (absolute e.lo) (absolute e.hi)

-- each residual at u is within its interval
abbrev pub AreResidualsWithin : Realisation → List ℤ → (ℕ → Ends) → Type 0
AreResidualsWithin r u residual = (row : ℕ) → row < r.stiffness.rows →
    Within (residual row) (exact_residual r (displaced r.stiffness.denominator u) row)

-- a number whose square is at least the sum of the squares of the greater sizes is a length of what is left
abbrev pub SizesGiveLength : Type 0
SizesGiveLength = (r : Realisation) (u : List ℤ) (residual : ℕ → Ends) (size : ℤ) → AreResidualsWithin r u residual →
    squared_norm r.stiffness.rows (λ row. greater_size (residual row)) ≤ℤ (size *ℤ size) → IsResidualLength r u size

-- so is the root of that sum, rounded up, and it isn't negative
abbrev pub RootIsLength : Type 0
RootIsLength = (r : Realisation) (u : List ℤ) (residual : ℕ → Ends) → AreResidualsWithin r u residual →
    (pos 0 ≤ℤ root_up_of (squared_norm r.stiffness.rows (λ row. greater_size (residual row))))
    × IsResidualLength r u (root_up_of (squared_norm r.stiffness.rows (λ row. greater_size (residual row))))

-- 2^36 size / lambda, rounded up
abbrev pub displacement_radius_of : ℤ → ℤ → ℤ
displacement_radius_of lambda size = ceil_of (size *ℤ pos (2 ^ 36)) lambda

-- size times the root of 2^40 kappa / lambda, over 2^20: each step rounded up
abbrev pub force_radius_of : ℤ → ℤ → ℤ → ℤ
force_radius_of lambda size kappa = ceil_of (size *ℤ root_up_of (ceil_of (kappa *ℤ pos (2 ^ 40)) lambda)) (pos (2 ^ 20))

-- what is rounded up is enough
abbrev pub RoundedRadiiAreEnough : Type 0
RoundedRadiiAreEnough = (b : Built) (lambda size : ℤ) → pos 1 ≤ℤ lambda → pos 0 ≤ℤ size →
    ((k : ℕ) → k < length b.members → pos 0 ≤ℤ (member_of b k).kappa.hi) →
    AreRadii b lambda size (displacement_radius_of lambda size) (λ k. force_radius_of lambda size (member_of b k).kappa.hi)

-- no radius of a length is negative, where lambda is positive
abbrev pub RadiiAreNotNegative : Type 0
RadiiAreNotNegative = (lambda squares kappa : ℤ) → pos 1 ≤ℤ lambda →
    (pos 0 ≤ℤ displacement_radius_of lambda (root_up_of squares)) × (pos 0 ≤ℤ force_radius_of lambda (root_up_of squares) kappa)
