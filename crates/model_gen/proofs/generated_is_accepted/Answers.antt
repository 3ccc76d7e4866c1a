use Rattle.std.proofs.Common.{◌≡◌, ◌≤◌, length, Ok, subst, sym}
use Rattle.model_text.specs.Grammar.{parsed}
use Rattle.model_gen.specs.GeneratedModel.{generated_model}
use Rattle.model_gen.proofs.Canonical.{is_canonical}
use Rattle.model_gen.proofs.Lengths.{is_short}
use Rattle.model_gen.proofs.Rules.{is_model}
use Rattle.model_gen.proofs.generated_is_accepted.Goals as goal

pub returns : goal.returns
returns c = λ n some few.
    let model = is_model n few in
    record {
      accepted = subst (λ text. length text ≤ 4194304 → parsed text ≡ Ok (generated_model n)) (sym (is_canonical n)) (c.canonical_reads_back.ensures (generated_model n) model) (is_short n few);
      model = model;
    }
