use Rattle.std.proofs.Common.{◌≡◌, ◌++◌}
use Rattle.std.specs.Io.{StartsWith}
use Rattle.std.specs.List.{flat_map, slice_index_or}
use Rattle.lists.specs.Listed.{listed}
use Rattle.model_types.specs.declared.answers.StationAnswer.TheVariants.{Wide}
use Rattle.text_words.specs.Fields.{line}
use Rattle.report.specs.Checks.{element_lines}
use Rattle.report.proofs.stations.push_stations.Given as goal

abbrev pub invariant-loop-n : goal.invariant-loop-n
invariant-loop-n l = record {
  written : l.out.items ≡ l.fn.out.items ++ flat_map line (flat_map (λ lines. lines) (listed l.n (element_lines l.m (λ k. slice_index_or l.answers k Wide))));
  kept : StartsWith l.out.items l.fn.out.items;
}
