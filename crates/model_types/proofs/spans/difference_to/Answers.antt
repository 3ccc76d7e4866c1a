use Rattle.model_types.proofs.SpanLemmas.{corner_differs}
use Rattle.model_types.proofs.spans.difference_to.Goals as goal

pub returns : goal.returns
returns c =
    let from = c.requires.from in
    rw (corner_differs c.args.x c.args.from.now.x c.requires.x from.x, corner_differs c.args.y c.args.from.now.y c.requires.y from.y, corner_differs c.args.z c.args.from.now.z c.requires.z from.z)
