use Rattle.std.proofs.Common.{sym, subst}
use Rattle.model_types.specs.Rules.{KeepsRules}
use Rattle.model_types.proofs.GrowthLemmas.{no_records_keep}
use Rattle.model_types.proofs.drafts.Draft.new.Goals as goal

pub invariant_of-result : goal.invariant_of-result
invariant_of-result c = subst KeepsRules (sym c.new-lists.ensures) no_records_keep
