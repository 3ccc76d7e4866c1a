-- For each node the numbers of the members that touch it.
use Rattle.std.specs.Prelude.{◌≡◌, ℕ, ◌<◌, ◌⊎◌, ◌↔◌, List, length, slice_index_or, Contains}
use Rattle.lists.specs.Rising.{IsRising}
use Rattle.lists.specs.Lists.{list_of}
use Rattle.member_set.specs.declared.members.Member.{Member}
use Rattle.member_set.specs.Members.{Touches, no_member}

-- each node's list is rising, and has the numbers below n of the members that touch the node
pub record ListsTouching (members : List Member) (n : ℕ) (lists : List (List ℕ)) : Type 0 where
  pub rising : (node : ℕ) → IsRising (list_of lists node)
  pub touching : (node k : ℕ) → Contains (list_of lists node) k ↔ ((k < n) × Touches (slice_index_or members k no_member) node)

-- a member's number k is put into the lists of its nodes, and the lists stay in order
pub record ListsMember (old new : List (List ℕ)) (m : Member) (k : ℕ) : Type 0 where
  pub count : length new ≡ length old
  pub rising : (node : ℕ) → IsRising (list_of new node)
  pub members : (node b : ℕ) → Contains (list_of new node) b ↔ (Contains (list_of old node) b ⊎ (Touches m node × (b ≡ k)))
