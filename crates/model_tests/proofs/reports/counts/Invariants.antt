use Rattle.std.proofs.Common.{◌≡◌, ◌≤◌, length, take}
use Rattle.model_types.specs.MemberCounts.{restraints_member_count, restraints_state_count}
use Rattle.model_tests.proofs.reports.counts.Given as goal

abbrev pub invariant-loop-restraint : goal.invariant-loop-restraint
invariant-loop-restraint g l = record {
  inside : l.restraint-index ≤ length l.m.restraints;
  loads : l.loads ≡ restraints_member_count (take l.restraint-index l.m.restraints);
  states : l.states ≡ restraints_state_count (take l.restraint-index l.m.restraints);
}
