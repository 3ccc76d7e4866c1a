use Rattle.bend_element.proofs.ArcLaw.{patterns_apart}
use Rattle.bend_element.proofs.laws.patterns_work_apart.Goals as goal

pub returns : goal.returns
returns c = patterns_apart
