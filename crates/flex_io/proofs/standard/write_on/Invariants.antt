use Rattle.std.specs.Io.KnownBytes.{Keeps}
use Rattle.flex_io.proofs.standard.write_on.Given as goal

-- an interrupted write adds nothing
abbrev pub invariant-loop : goal.invariant-loop
invariant-loop g l = Keeps (g.W.Write.contents l.fn.writer) (g.W.Write.contents l.writer)
