use Rattle.std.proofs.Common.{◌≡◌, ℕ, ◌/◌, ◌<◌, ◌≤◌, slice_index}
use Rattle.sym_blocks.specs.Matrix.{pattern_of}
use Rattle.member_set.specs.States.{under}
use Rattle.assembly.specs.Filling.{IsFilled, KeepsFilled}
use Rattle.assembly.proofs.filling.fill_blocks.Given as goal

abbrev pub invariant-loop-t : goal.invariant-loop-t
invariant-loop-t l =
    record {
      kept : KeepsFilled (under l.row.b.now l.row.closed.now) l.initial.middles l.initial.radii l.middles l.radii;
      filled : (s col : ℕ) → s < l.t → slice_index (pattern_of l.initial.middles (l.row.number / 6)) s ≡ col / 6 → l.row.number ≤ col →
          IsFilled (under l.row.b.now l.row.closed.now) l.middles l.radii l.row.number col;
    }
