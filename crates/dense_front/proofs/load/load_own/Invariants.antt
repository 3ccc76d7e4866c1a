use Rattle.std.proofs.Common.{◌≡◌, ℕ, ◌*◌, ◌<◌, ◌≤◌, length, pos}
use Rattle.sym_blocks.specs.Matrix.{entry}
use Rattle.cholesky_laws.specs.Recurrence.{scaled_stiffness}
use Rattle.dense_front.specs.Square.{at_square}
use Rattle.dense_front.proofs.load.load_own.Given as goal

abbrev pub invariant-loop-column : goal.invariant-loop-column
invariant-loop-column l =
    (length l.square ≡ length l.initial.square)
    × ((r c : ℕ) → c < l.column → r < 6 * length l.nodes → at_square (6 * length l.nodes) l.square r c ≡ scaled_stiffness (entry l.k) l.nodes l.shift r c)
    × ((r c : ℕ) → l.column ≤ c → r < 6 * length l.nodes → at_square (6 * length l.nodes) l.square r c ≡ pos 0)
