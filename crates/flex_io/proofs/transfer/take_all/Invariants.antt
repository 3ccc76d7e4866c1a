use Rattle.std.proofs.Common.{◌≡◌, ◌+◌, ◌-◌, ◌≤◌, take, vec_len, vec_items}
use Rattle.std.specs.Io.KnownBytes.{Consumes}
use Rattle.flex_io.proofs.transfer.take_all.Given as goal

-- what is filled was taken from the source, within the limit and one byte
abbrev pub invariant-loop-filled : goal.invariant-loop-filled
invariant-loop-filled g l = record {
  filled : l.filled ≤ vec_len l.bytes;
  most : vec_len l.bytes ≤ l.limit + 1;
  taken : Consumes (g.S.Source.left l.fn.s) (g.S.Source.left l.s) (take l.filled (vec_items l.bytes));
  steady : g.S.Source.faults l.s ≡ g.S.Source.faults l.fn.s;
}

abbrev pub decreases-loop-filled : goal.decreases-loop-filled
decreases-loop-filled g l = (l.limit + 1) - l.filled
