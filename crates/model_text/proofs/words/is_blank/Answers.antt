use Rattle.std.proofs.Common.{◌==◌, ◌||◌, sym, ap}
use Rattle.std.proofs.lemmas.Bool.{ne_eqb}
use Rattle.model_text.proofs.words.is_blank.Goals as goal

pub returns-else-byte-eq32 : goal.returns-else-byte-eq32
returns-else-byte-eq32 c = ap (λ b. b || c.args.byte == 9) (sym (ne_eqb c.args.byte 32 c.if-byte-eq32.false))
