use Rattle.model_text.proofs.LineLemmas.{refusals_are_reasons, models_are_accepted}
use Rattle.model_text.proofs.reader.grammar_is_told.Goals as goal

pub returns-clause-refused : goal.returns-clause-refused
returns-clause-refused c = refusals_are_reasons

pub returns-clause-accepted : goal.returns-clause-accepted
returns-clause-accepted c = models_are_accepted
