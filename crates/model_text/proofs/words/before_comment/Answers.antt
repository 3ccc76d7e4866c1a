use Rattle.model_text.proofs.WordLemmas.{before_first-Some, before_first-None}
use Rattle.model_text.specs.Words.{starts_comment}
use Rattle.model_text.proofs.words.before_comment.Goals as goal

pub returns-in-Some : goal.returns-in-Some
returns-in-Some c = before_first-Some starts_comment c.args.line.now c.in-Some.at c.in-Some.ensures

pub returns-in-None : goal.returns-in-None
returns-in-None c = before_first-None starts_comment c.args.line.now c.in-None.ensures
