-- Members that hold one node.
use Rattle.std.specs.Prelude.{◌≡◌}
use Rattle.member_set.specs.declared.members.Member.{Member}
use Rattle.member_set.specs.Members.{IsStiff}

-- a member whose both nodes are the only one, with a stiffness
abbrev pub IsAnchor : Member → Type 0
IsAnchor m = (m.n1 ≡ 0) × (m.n2 ≡ 0) × IsStiff m.kappa
