use Rattle.std.proofs.Common.{◌≡◌, ℕ, length}
use Rattle.lists.specs.Lists.{contents, list_of}
use Rattle.factor.specs.State.{shifted_matrix, ArePanels, IsRowPattern}
use Rattle.factor.proofs.recurrence.eliminate_all.Given as goal

abbrev pub invariant-loop-node : goal.invariant-loop-node
invariant-loop-node l =
    ArePanels (shifted_matrix l.problem.matrix.now l.problem.order.now l.problem.shift) l.problem.parents.now (length l.problem.order.now) l.node l.panels.items
    × (length (contents l.row_patterns.items) ≡ length l.problem.order.now)
    × ((q : ℕ) → IsRowPattern l.panels.items l.node q (list_of (contents l.row_patterns.items) q))
