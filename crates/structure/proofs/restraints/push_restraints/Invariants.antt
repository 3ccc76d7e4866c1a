use Rattle.std.proofs.Common.{◌≡◌, ◌++◌, take, All}
use Rattle.std.specs.List.{flat_map}
use Rattle.restraint_law.specs.Restraints.{restraint_members}
use Rattle.structure.specs.Enclosure.{HoldsRestraint}
use Rattle.structure.proofs.restraints.push_restraints.Given as goal

abbrev pub invariant-loop-r : goal.invariant-loop-r
invariant-loop-r l = record {
  value : l.members.items ≡ l.fn.members.items ++ flat_map restraint_members (take l.r-index l.restraints);
  holds : All HoldsRestraint (take l.r-index l.restraints);
}
