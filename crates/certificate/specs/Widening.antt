-- The steps by which bounds are put around displacements and forces.
use Rattle.std.specs.Prelude.{ℕ, ◌^◌, ◌<◌, ◌≤◌, ◌≡◌, Bool, List, [], length, slice_index_or, ℤ, pos, ◌≤ℤ◌, ◌<ℤ◌, unsigned_abs}
use Rattle.flex_interval.specs.Ends.{Ends}
use Rattle.member_set.specs.declared.members.Built.{Built}
use Rattle.member_set.specs.Members.{nothing, member_of, force_of}
use Rattle.certificate.specs.declared.bounds.Enclosure.{Enclosure}
use Rattle.bound_laws.specs.Nearness.{widened, alone, force_radius_of}

-- the answer with these intervals and states
abbrev pub enclosure : List Ends → List Ends → List Bool → Enclosure
enclosure u force closed = record { u = u; force = force; closed = closed }

-- the same without states
abbrev pub only : List Ends → List Ends → Enclosure
only u force = enclosure u force []

-- a force is at most 2^66 in size
pub record IsLimited (e : Ends) : Type 0 where
  pub lower : unsigned_abs e.lo ≤ 2 ^ 66
  pub upper : unsigned_abs e.hi ≤ 2 ^ 66

abbrev pub AreLimited : List Ends → Type 0
AreLimited forces = (k : ℕ) → k < length forces → IsLimited (force_of forces k)

-- each displacement alone, wider by the radius
pub record AreAroundDisplacements (u : List ℤ) (radius : ℤ) (bounds : List Ends) : Type 0 where
  pub one_each : length bounds ≡ length u
  pub around : (row : ℕ) → row < length u → slice_index_or bounds row nothing ≡ widened (alone (slice_index_or u row (pos 0))) radius

-- each force wider by its radius, which is below the limit
pub record AreWidened (b : Built) (lambda size : ℤ) (old new : List Ends) : Type 0 where
  pub one_each : length new ≡ length b.members
  pub wider : (k : ℕ) → k < length b.members → force_of new k ≡ widened (force_of old k) (force_radius_of lambda size (member_of b k).kappa.hi)
  pub steady : (k : ℕ) → k < length b.members → force_radius_of lambda size (member_of b k).kappa.hi <ℤ pos (2 ^ 60)

-- a force's radius reaches the limit
pub record IsTooUnsteady (b : Built) (lambda size : ℤ) : Type 0 where
  pub member : ℕ
  pub inside : member < length b.members
  pub unsteady : pos (2 ^ 60) ≤ℤ force_radius_of lambda size (member_of b member).kappa.hi
