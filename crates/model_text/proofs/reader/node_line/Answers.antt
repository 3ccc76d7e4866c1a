use Rattle.std.proofs.Common.{◌<◌, length}
use Rattle.model_text.proofs.LineLemmas.{accepted-short, accepted-lines}
use Rattle.model_text.proofs.reader.node_line.Goals as goal

pub record_line-requires-clause-short : goal.record_line-requires-clause-short
record_line-requires-clause-short c = accepted-short (λ model. c.args.node.0 < length model.nodes) c.args.text.now c.requires

pub record_line-requires-clause-there : goal.record_line-requires-clause-there
record_line-requires-clause-there c = accepted-lines (λ model. c.args.node.0 < length model.nodes) c.args.text.now c.requires
