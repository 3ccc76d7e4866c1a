use Rattle.std.proofs.Common.{pos, ◌≡◌, ℕ, ◌<◌}
use Rattle.int_laws.specs.Matrices.{absolute}
use Rattle.flex_num.specs.Guarded.{value_at, size_at}
use Rattle.solve.specs.Refinement.{forward_side}
use Rattle.solve.proofs.refinement.scale_sides.Given as goal

abbrev pub invariant-loop-j : goal.invariant-loop-j
invariant-loop-j l =
    record {
      sides : (j : ℕ) → j < l.j → value_at l.left j ≡ forward_side l.order l.r l.digits j;
      whole : (j : ℕ) → j < l.j → pos (size_at l.left j) ≡ absolute (value_at l.left j);
    }
