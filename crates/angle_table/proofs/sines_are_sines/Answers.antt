use Rattle.angle_table.proofs.SineLaw.{sines_law}
use Rattle.angle_table.proofs.sines_are_sines.Goals as goal

pub returns : goal.returns
returns c = sines_law
