use Rattle.std.proofs.Common.{arith}
use Rattle.std.proofs.lemmas.Int.{ints}
use Rattle.certificate.proofs.margin.margin.Goals as goal

pub returns-then-margin-lt-SCALE : goal.returns-then-margin-lt-SCALE
returns-then-margin-lt-SCALE c = omega (arith, ints)

pub returns-else-margin-lt-SCALE : goal.returns-else-margin-lt-SCALE
returns-else-margin-lt-SCALE c = (omega (arith, ints), omega arith)
