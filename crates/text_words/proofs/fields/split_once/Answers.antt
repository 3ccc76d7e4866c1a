use Rattle.std.proofs.Common.{◌+◌, sym}
use Rattle.std.proofs.lemmas.List.{take_rest}
use Rattle.text_words.proofs.FieldLemmas.{lacks_from_none, split_from_some}
use Rattle.text_words.proofs.fields.split_once.Goals as goal

pub returns-in_err-at-clause-parts : goal.returns-in_err-at-clause-parts
returns-in_err-at-clause-parts c = rw c.from_residual.ensures (lacks_from_none c.args.end c.args.bytes.now (sym c.in_err-at.ensures))

pub returns-clause-parts : goal.returns-clause-parts
returns-clause-parts c =
    rw (take_rest c.args.bytes.now (c.in_ok-at.at + 1)) (split_from_some c.args.end c.args.bytes.now c.in_ok-at.at (sym c.in_ok-at.ensures))
