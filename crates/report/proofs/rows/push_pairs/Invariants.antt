use Rattle.std.proofs.Common.{◌≡◌, ◌≤◌, ◌++◌, length}
use Rattle.std.specs.List.{flat_map}
use Rattle.lists.specs.Listed.{listed}
use Rattle.report.specs.Rows.{told_pair}
use Rattle.report.specs.Words.{spaced}
use Rattle.report.proofs.rows.push_pairs.Given as goal

abbrev pub invariant-loop-f : goal.invariant-loop-f
invariant-loop-f l = record {
  inside : l.f ≤ length l.bounds;
  written : l.out.items ≡ l.fn.out.items ++ spaced (flat_map (λ words. words) (listed l.f (told_pair l.n l.m l.states l.bounds)));
}
