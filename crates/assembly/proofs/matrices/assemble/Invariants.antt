use Rattle.std.proofs.Common.{◌≡◌, ℕ, length, ◌/◌, ◌<◌, ◌≤◌}
use Rattle.sym_blocks.specs.Matrix.{HasBlock}
use Rattle.member_set.specs.States.{under}
use Rattle.assembly.specs.Stiffness.{HasPatternOf}
use Rattle.assembly.specs.Filling.{IsFilled}
use Rattle.assembly.proofs.matrices.assemble.Given as goal

abbrev pub invariant-loop-row : goal.invariant-loop-row
invariant-loop-row l =
    record {
      one_each : length l.scaled.items ≡ length l.b.members;
      middles_pattern : HasPatternOf l.middles (under l.b l.closed);
      radii_pattern : HasPatternOf l.radii (under l.b l.closed);
      filled : (i j : ℕ) → i < l.row → i ≤ j → HasBlock l.middles (i / 6) (j / 6) → IsFilled (under l.b l.closed) l.middles l.radii i j;
    }
