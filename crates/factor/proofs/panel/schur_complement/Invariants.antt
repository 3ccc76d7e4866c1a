use Rattle.std.proofs.Common.{◌≡◌, ℕ, ◌*◌, length}
use Rattle.factor.specs.State.{shifted_matrix, HoldsLeft}
use Rattle.factor.proofs.GapLemmas.{IsGap}
use Rattle.factor.proofs.panel.schur_complement.Given as goal

abbrev pub invariant-loop-earlier : goal.invariant-loop-earlier
invariant-loop-earlier l =
    (length l.work.items ≡ 36 * length l.nodes)
    × ((m : ℕ) → IsGap l.row_pattern l.node l.earlier-index m → HoldsLeft (shifted_matrix l.problem.matrix.now l.problem.order.now l.problem.shift) (length l.problem.order.now) l.node l.nodes l.work.items m)
