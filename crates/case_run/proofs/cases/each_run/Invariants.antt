use Rattle.std.proofs.Common.{◌≡◌}
use Rattle.structure.specs.Elements.{element_member_count}
use Rattle.lists.specs.Listed.{listed}
use Rattle.case_run.specs.Answers.{base, enclosure_in, answer_with}
use Rattle.case_run.specs.Runs.{forces_with}
use Rattle.case_run.proofs.cases.each_run.Given as goal

abbrev pub invariant-loop-case : goal.invariant-loop-case
invariant-loop-case g l = record {
  answers : l.answers.items ≡ listed l.case (λ case. answer_with (element_member_count l.m) (enclosure_in l.m (g.M.Maker.plan l.maker) case (base l.shared.b l.shared.lambda)));
  forces : l.forces.items ≡ listed l.case (λ case. forces_with (enclosure_in l.m (g.M.Maker.plan l.maker) case (base l.shared.b l.shared.lambda)));
}
