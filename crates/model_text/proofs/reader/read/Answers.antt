use Rattle.model_text.proofs.LineLemmas.{parsed-refused, if_stands}
use Rattle.model_text.proofs.reader.read.Goals as goal

pub returns-clause-fault : goal.returns-clause-fault
returns-clause-fault c = λ number line e. parsed-refused c.args.text.now (record { number = number; line = line }) (c.read_lines.ensures.refused number line e)

pub returns-clause-stands : goal.returns-clause-stands
returns-clause-stands c = if_stands c.args.text.now (λ m. m) c.read_lines.result c.read_lines.ensures.model
