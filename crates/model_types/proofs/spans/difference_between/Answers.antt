use Rattle.model_types.proofs.SpanLemmas.{coordinates_differ}
use Rattle.model_types.proofs.spans.difference_between.Goals as goal

pub returns : goal.returns
returns c =
    let from = c.requires.from in
    let to = c.requires.to in
    rw (coordinates_differ c.args.to.now.x c.args.from.now.x to.x from.x, coordinates_differ c.args.to.now.y c.args.from.now.y to.y from.y, coordinates_differ c.args.to.now.z c.args.from.now.z to.z from.z)
