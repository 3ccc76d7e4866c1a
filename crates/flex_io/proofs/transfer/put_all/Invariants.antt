use Rattle.std.proofs.Common.{◌≡◌, ◌++◌, ℕ, List, [], length}
use Rattle.std.specs.Io.KnownBytes.{Appends}
use Rattle.flex_io.specs.Sink.{room_after}
use Rattle.flex_io.proofs.transfer.put_all.Given as goal

-- what came before the rest is written, and its room is used
abbrev pub invariant-loop-rest : goal.invariant-loop-rest
invariant-loop-rest g l = record {
  written : (part : List ℕ) × Appends (g.K.Sink.held l.fn.k) (g.K.Sink.held l.k) part × (l.fn.bytes ≡ part ++ l.rest) × (g.K.Sink.room l.k ≡ room_after (g.K.Sink.room l.fn.k) (length part));
  steady : g.K.Sink.faults l.k ≡ g.K.Sink.faults l.fn.k;
  untouched : l.fn.bytes ≡ [] → l.k ≡ l.fn.k;
}

abbrev pub decreases-loop-rest : goal.decreases-loop-rest
decreases-loop-rest g l = length l.rest
