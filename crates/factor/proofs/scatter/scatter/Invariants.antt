use Rattle.std.proofs.Common.{◌≡◌, ℕ, ◌+◌, ◌*◌, ◌/◌, ◌%◌, ◌<◌, length, get_or, pos}
use Rattle.factor.specs.State.{shifted_matrix}
use Rattle.factor.proofs.scatter.scatter.Given as goal

abbrev pub invariant-loop-s : goal.invariant-loop-s
invariant-loop-s l =
    (length l.work.items ≡ l.s)
    × ((s : ℕ) → s < l.s → get_or l.work.items s (pos 0) ≡ shifted_matrix l.problem.matrix.now l.problem.order.now l.problem.shift (6 * get_or l.nodes (s / 36) 0 + s % 36 / 6) (6 * l.node + s % 6))
