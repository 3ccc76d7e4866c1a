use Rattle.std.proofs.Common.{◌≡◌, ℕ, ◌*◌, length}
use Rattle.factor.specs.State.{shifted_matrix, HoldsChildren}
use Rattle.factor.proofs.GapLemmas.{IsGap}
use Rattle.factor.proofs.panel.child_sums.Given as goal

abbrev pub invariant-loop-earlier : goal.invariant-loop-earlier
invariant-loop-earlier l =
    (length l.sums.items ≡ 6 * length l.nodes)
    × ((m : ℕ) → IsGap l.row_pattern l.node l.earlier-index m → HoldsChildren (shifted_matrix l.problem.matrix.now l.problem.order.now l.problem.shift) l.problem.parents.now (length l.problem.order.now) l.node l.nodes l.sums.items m)
