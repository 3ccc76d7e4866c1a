use Rattle.model_text.proofs.LineLaws.{lines_are_determined, lines_are_told}
use Rattle.model_text.proofs.reader.lines_are_determined.Goals as goal

pub returns-clause-one : goal.returns-clause-one
returns-clause-one c = lines_are_determined

pub returns-clause-told : goal.returns-clause-told
returns-clause-told c = lines_are_told
