use Rattle.std.proofs.Common.{◌≡◌, ◌++◌, take}
use Rattle.model_text.specs.Canonical.{record_lines}
use Rattle.model_text.proofs.writer.put_all.Given as goal

abbrev pub invariant-loop-r : goal.invariant-loop-r
invariant-loop-r g l = l.out.items ≡ l.initial.out.items ++ record_lines l.model g.T.Lined.as_record (take l.r-index l.records)
