-- How many members the elements and the restraints of a model have, and how many of them have a state.
use Rattle.std.specs.Prelude.{ℕ, pos, List, if◌then◌else◌}
use Rattle.std.specs.List.{sum_by}
use Rattle.std.specs.Ordering.{int_eq}
use Rattle.model_types.specs.declared.records.Shape.{Shape}
use Rattle.model_types.specs.declared.records.Shape.TheVariants.{Straight, Bend}
use Rattle.model_types.specs.declared.records.Restraint.{Restraint}
use Rattle.model_types.specs.declared.records.RestraintKind.{RestraintKind}
use Rattle.model_types.specs.declared.records.RestraintKind.TheVariants.{Anchor, Linear, Twist, Oneway, Gap, Hanger}

-- how many members an element of a shape has
abbrev pub shape_member_count : Shape → ℕ
shape_member_count Straight = 8
shape_member_count (Bend r angle x y z) = 6

-- how many members, and so how many loads, a restraint of a kind has: an anchor holds all six freedoms of its node, and a
-- gap that isn't 0 has one member a side
abbrev pub restraint_member_count : RestraintKind → ℕ
restraint_member_count (Anchor kt kr) = 6
restraint_member_count (Linear dx dy dz k) = 1
restraint_member_count (Twist dx dy dz k) = 1
restraint_member_count (Oneway dx dy dz gap k) = 1
restraint_member_count (Gap dx dy dz gap k) = if int_eq gap (pos 0) then 1 else 2
restraint_member_count (Hanger rate load) = 1

-- how many members, and so how many loads, restraints have together
abbrev pub restraints_member_count : List Restraint → ℕ
restraints_member_count restraints = sum_by (λ r. restraint_member_count r.kind) restraints

-- how many of them are open or closed: that of a one-way support, and those of a gap that isn't 0
abbrev pub restraint_state_count : RestraintKind → ℕ
restraint_state_count (Anchor kt kr) = 0
restraint_state_count (Linear dx dy dz k) = 0
restraint_state_count (Twist dx dy dz k) = 0
restraint_state_count (Oneway dx dy dz gap k) = 1
restraint_state_count (Gap dx dy dz gap k) = if int_eq gap (pos 0) then 0 else 2
restraint_state_count (Hanger rate load) = 0

-- how many members of restraints are open or closed
abbrev pub restraints_state_count : List Restraint → ℕ
restraints_state_count restraints = sum_by (λ r. restraint_state_count r.kind) restraints
