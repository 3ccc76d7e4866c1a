use Rattle.std.proofs.Common.{take}
use Rattle.factor.specs.State.{IsFront}
use Rattle.factor.proofs.panel.front.Given as goal

abbrev pub invariant-loop-earlier : goal.invariant-loop-earlier
invariant-loop-earlier l = IsFront l.problem.matrix.now l.problem.order.now l.problem.parents.now l.panels (take l.earlier-index l.row_pattern) l.node l.nodes.items
