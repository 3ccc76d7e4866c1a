use Rattle.std.proofs.Common.{ℕ, ◌<◌}
use Rattle.std.specs.Prelude.{IsErr}
use Rattle.sym_blocks.specs.Matrix.{entry}
use Rattle.case_run.specs.Answers.{margin_at}
use Rattle.case_run.specs.Certified.{shift_of}
use Rattle.case_run.proofs.margin.margin_of.Given as goal

abbrev pub invariant-loop-place : goal.invariant-loop-place
invariant-loop-place g l = (i : ℕ) → i < l.place → IsErr (margin_at (g.M.Maker.plan l.maker) (entry l.middles) (entry l.radii) (shift_of i))
