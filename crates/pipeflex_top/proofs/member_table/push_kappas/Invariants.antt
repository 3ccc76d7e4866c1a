use Rattle.std.proofs.Common.{◌≡◌, ◌+◌, ◌++◌, take}
use Rattle.std.specs.List.{flat_map}
use Rattle.pipeflex_top.specs.MemberTable.{kappa_lines}
use Rattle.text_words.specs.Fields.{line}
use Rattle.pipeflex_top.proofs.member_table.push_kappas.Given as goal

abbrev pub invariant-loop-member : goal.invariant-loop-member
invariant-loop-member l = record {
  counted : l.number ≡ l.member-index + 1;
  written : l.out.items ≡ l.initial.out.items ++ flat_map line (kappa_lines 1 (take l.member-index l.members));
}
