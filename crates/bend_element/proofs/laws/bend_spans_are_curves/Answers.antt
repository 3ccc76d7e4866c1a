use Rattle.bend_element.proofs.CurveLaw.{spans_are_curves}
use Rattle.bend_element.proofs.laws.bend_spans_are_curves.Goals as goal

pub returns : goal.returns
returns c = spans_are_curves
