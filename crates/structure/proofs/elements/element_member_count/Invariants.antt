use Rattle.std.proofs.Common.{◌≡◌, ◌*◌, ◌≤◌}
use Rattle.structure.specs.Elements.{member_count_below}
use Rattle.structure.proofs.elements.element_member_count.Given as goal

abbrev pub invariant-loop-number : goal.invariant-loop-number
invariant-loop-number l = record {
  value : l.count ≡ member_count_below l.model l.number;
  few : l.count ≤ 8 * l.number;
}
