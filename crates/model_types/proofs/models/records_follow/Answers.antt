use Rattle.model_types.specs.Kinds.{as_record, before}
use Rattle.model_types.proofs.GrowthLemmas.{MayBeNext-record}
use Rattle.model_types.proofs.TestLemmas.{refused_none}
use Rattle.model_types.proofs.models.records_follow.Goals as goal

pub returns : goal.returns
returns c = λ m rules k i x at. refused_none (before m k i) (as_record k x) (MayBeNext-record m rules k i x at)
