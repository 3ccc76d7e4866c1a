use Rattle.bend_element.proofs.CurveLaw as curve
use Rattle.bend_element.proofs.laws.ways_cross.Goals as goal

pub returns : goal.returns
returns c = curve.ways_cross
