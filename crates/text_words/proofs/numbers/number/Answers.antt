use Rattle.std.proofs.Common.{◌∙◌}
use Rattle.text_words.proofs.NumberLemmas.{if_read, number_of-IsNumber, number_of-long}
use Rattle.text_words.proofs.numbers.number.Goals as goal

pub returns-clause-form : goal.returns-clause-form
returns-clause-form c = if_read c.args.word.now c.represented.result c.represented.ensures

pub returns-clause-only : goal.returns-clause-only
returns-clause-only c n is = c.represented.ensures ∙ number_of-IsNumber c.args.word.now n is

pub returns-clause-long : goal.returns-clause-long
returns-clause-long c = number_of-long c.args.word.now c.represented.result c.represented.ensures
