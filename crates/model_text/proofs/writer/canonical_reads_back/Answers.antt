use Rattle.model_text.proofs.RoundTrip.{canonical_reads_back}
use Rattle.model_text.proofs.writer.canonical_reads_back.Goals as goal

pub returns : goal.returns
returns c = canonical_reads_back c.records_follow.ensures c.tees_are_judged.ensures
