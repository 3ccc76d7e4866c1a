-- What the intervals of reach, force and residual enclose, as laws of the definitions: of no call.
use Rattle.std.specs.Prelude.{◌≡◌, ℕ, ◌+◌, ◌*◌, ◌/◌, ◌<◌, ◌≤◌, List, length, slice_index, ℤ, pos, ◌*ℤ◌, ◌<ℤ◌, Ok}
use Rattle.int_laws.specs.Sums.{sum_below}
use Rattle.flex_interval.specs.Ends.{Ends}
use Rattle.flex_interval.specs.Fraction.{Within}
use Rattle.int_laws.specs.Matrices.{Vector}
use Rattle.member_set.specs.declared.members.Member.{Member}
use Rattle.member_set.specs.declared.members.Built.{Built}
use Rattle.member_set.specs.Members.{IsBuilt, System, shape_at, row_count, member_of, members_at, nothing}
use Rattle.member_set.specs.Realisation.{ExactMember, Realisation, IsRealisation, exact_reach, reach_in, past_in, force_in, displaced, fraction, reach_fraction, force_fraction, exact_residual}
use Rattle.member_set.specs.States.{state_member, state_reach_of}
use Rattle.member_set.specs.Interval.{Outcome, reach_of, forces_of, residual_with}

-- the interval of a reach holds the reach of all displacements within theirs
abbrev pub ReachHolds : Type 0
ReachHolds = (m : Member) (displacement : ℕ → Ends) (rows : ℕ) (e : Ends) (q : ℤ) (x : ExactMember) (u : Vector) →
    6 * m.n1 + 6 ≤ rows → 6 * m.n2 + 6 ≤ rows → pos 0 <ℤ q →
    ((row : ℕ) → Within (shape_at m row) (fraction (x.shape row) q)) →
    ((row : ℕ) → row < rows → Within (displacement row) (fraction (u row) q)) →
    reach_of m displacement ≡ Ok e → Within e (reach_fraction q (exact_reach rows x u))

-- the interval of a member's force holds that of each realisation
abbrev pub ForcesHold : Type 0
ForcesHold = (s : System) (r : Realisation) (u : List ℤ) (k : ℕ) (e : Ends) →
    IsBuilt s.structure → IsRealisation s r → k < r.stiffness.members →
    forces_of s.structure s.laws u k ≡ Ok e →
    Within e (force_fraction r.stiffness.denominator (force_in r (displaced r.stiffness.denominator u) k))

-- the interval of what is left of a row's load holds that of each realisation, where the intervals of the forces do
abbrev pub ResidualsHold : Type 0
ResidualsHold = (s : System) (r : Realisation) (force : ℕ → Outcome) (u : Vector) (row : ℕ) (e : Ends) →
    IsBuilt s.structure → IsRealisation s r → row < row_count s.structure →
    ((k : ℕ) (f : Ends) → k < r.stiffness.members → force k ≡ Ok f → Within f (force_fraction r.stiffness.denominator (force_in r u k))) →
    residual_with s.structure s.loads force row ≡ Ok e → Within e (exact_residual r u row)

-- the interval of what is past the gap of a state's member holds that of each realisation
abbrev pub PastsHold : Type 0
PastsHold = (s : System) (r : Realisation) (u : Vector) (number : ℕ) (x e : Ends) →
    IsBuilt s.structure → IsRealisation s r → number < length s.structure.unilateral →
    Within x (reach_fraction r.stiffness.denominator (reach_in r.stiffness u (state_member s.structure number))) →
    state_reach_of s.structure s.laws number x ≡ Ok e →
    Within e (reach_fraction r.stiffness.denominator (past_in r u (state_member s.structure number)))

-- the numbers of the members at a row's node are numbers of members
abbrev pub NumbersAreInRange : Type 0
NumbersAreInRange = (b : Built) (row t : ℕ) → IsBuilt b → row < row_count b → t < length (members_at b (row / 6)) →
    slice_index (members_at b (row / 6)) t < length b.members

-- a sum over all members is one over those at a row's node, where no other has a part in it
abbrev pub NodesSuffice : Type 0
NodesSuffice = (b : Built) (row : ℕ) (weight force : ℕ → ℤ) → IsBuilt b → row < row_count b →
    ((k : ℕ) → k < length b.members → shape_at (member_of b k) row ≡ nothing → weight k ≡ pos 0) →
    sum_below (length (members_at b (row / 6))) (λ t. weight (slice_index (members_at b (row / 6)) t) *ℤ force (slice_index (members_at b (row / 6)) t))
    ≡ sum_below (length b.members) (λ k. weight k *ℤ force k)
