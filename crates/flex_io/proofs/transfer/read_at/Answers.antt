use Rattle.flex_io.proofs.transfer.read_at.Goals as goal

pub returns-clause-end : goal.returns-clause-end
returns-clause-end g c = c.read.ensures.end
