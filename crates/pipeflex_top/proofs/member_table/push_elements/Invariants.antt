use Rattle.std.proofs.Common.{◌≡◌, ◌++◌, take}
use Rattle.std.specs.List.{All, flat_map}
use Rattle.pipeflex_top.specs.Enclosure.{PrintsElement}
use Rattle.pipeflex_top.specs.MemberTable.{element_text}
use Rattle.pipeflex_top.proofs.member_table.push_elements.Given as goal

abbrev pub invariant-loop-element : goal.invariant-loop-element
invariant-loop-element l = record {
  written : l.out.items ≡ l.initial.out.items ++ flat_map (element_text l.model) (take l.element-index l.elements);
  enclosed : All (PrintsElement l.model) (take l.element-index l.elements);
}
