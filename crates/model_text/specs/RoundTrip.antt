-- A model's canonical text is read as the model.
use Rattle.std.specs.Prelude.{◌≡◌, ◌≤◌, length, Ok}
use Rattle.model_types.specs.Lists.{Lists}
use Rattle.model_types.specs.Rules.{IsModel}
use Rattle.model_text.specs.Canonical.{canonical}
use Rattle.model_text.specs.declared.reader.TheConstants.{LONGEST_TEXT}
use Rattle.model_text.specs.Grammar.{parsed}

-- each model's canonical text is read as the model, if it isn't too long
abbrev pub CanonicalReadsBack : Type 0
CanonicalReadsBack = (m : Lists) → IsModel m → length (canonical m) ≤ LONGEST_TEXT → parsed (canonical m) ≡ Ok m
