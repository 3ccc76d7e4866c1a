use Rattle.std.proofs.Common.{ℕ, ◌+◌, ◌*◌, ◌<◌, ◌≤◌}
use Rattle.member_set.specs.States.{under}
use Rattle.assembly.specs.Filling.{IsFilled, KeepsFilled}
use Rattle.assembly.proofs.filling.fill_block.Given as goal

abbrev pub invariant-loop-freedom : goal.invariant-loop-freedom
invariant-loop-freedom l =
    record {
      kept : KeepsFilled (under l.row.b.now l.row.closed.now) l.initial.middles l.initial.radii l.middles l.radii;
      filled : (f : ℕ) → f < l.freedom → l.row.number ≤ 6 * l.node + f → IsFilled (under l.row.b.now l.row.closed.now) l.middles l.radii l.row.number (6 * l.node + f);
    }
