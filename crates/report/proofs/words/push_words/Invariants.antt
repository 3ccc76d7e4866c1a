use Rattle.std.proofs.Common.{◌≡◌, ◌++◌, map, drop}
use Rattle.std.specs.Io.{StartsWith}
use Rattle.report.specs.Words.{spaced}
use Rattle.report.proofs.words.push_words.Given as goal

abbrev pub invariant-loop-word : goal.invariant-loop-word
invariant-loop-word l = record {
  written : l.out.items ++ spaced (map (λ word. word.now) (drop l.word-index l.words)) ≡ l.fn.out.items ++ spaced (map (λ word. word.now) l.words);
  kept : StartsWith l.out.items l.fn.out.items;
}
