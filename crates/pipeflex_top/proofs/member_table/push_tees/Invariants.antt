use Rattle.std.proofs.Common.{◌≡◌, ◌++◌, take}
use Rattle.std.specs.List.{All, flat_map}
use Rattle.pipeflex_top.specs.Enclosure.{PrintsTee}
use Rattle.pipeflex_top.specs.MemberTable.{tee_text}
use Rattle.pipeflex_top.proofs.member_table.push_tees.Given as goal

abbrev pub invariant-loop-tee : goal.invariant-loop-tee
invariant-loop-tee l = record {
  written : l.out.items ≡ l.initial.out.items ++ flat_map (tee_text l.model) (take l.tee-index l.tees);
  told : All (PrintsTee l.model) (take l.tee-index l.tees);
}
