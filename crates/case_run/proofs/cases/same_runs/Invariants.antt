use Rattle.std.proofs.Common.{◌≡◌, [], None}
use Rattle.std.specs.Prelude.{replicate}
use Rattle.model_types.specs.declared.answers.CaseAnswer.TheVariants.{Uncertified}
use Rattle.case_run.proofs.cases.same_runs.Given as goal

abbrev pub invariant-loop-case : goal.invariant-loop-case
invariant-loop-case l = record {
  answers : l.answers.items ≡ replicate l._case (Uncertified l.cause []);
  forces : l.forces.items ≡ replicate l._case None;
}
