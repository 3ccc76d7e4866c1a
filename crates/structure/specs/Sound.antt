-- What the members of a structure keep.
use Rattle.std.specs.Prelude.{◌≡◌, ℕ, ◌^◌, ◌<◌, ◌≤◌, List, length, All, Ok, pos, ◌≤ℤ◌, ◌<ℤ◌}
use Rattle.member_set.specs.declared.members.Member.{Member}
use Rattle.model_types.specs.Lists.{Lists}
use Rattle.structure.specs.Structure.{model_members}

-- the member's nodes are among so many nodes, and its stiffness is at least 1 and below 2^61, in units of 2^-20 N/m
pub record IsSound (nodes : ℕ) (m : Member) : Type 0 where
  pub first_node : m.n1 < nodes
  pub second_node : m.n2 < nodes
  pub low : pos 1 ≤ℤ m.kappa.lo
  pub high : m.kappa.hi <ℤ pos (2 ^ 61)

-- the members of a model, each sound, and few enough for numbers of 32 bits
pub record AreMembers (m : Lists) (members : List Member) : Type 0 where
  pub value : model_members m ≡ Ok members
  pub sound : All (IsSound (length m.nodes)) members
  pub few : length members ≤ 2 ^ 32
