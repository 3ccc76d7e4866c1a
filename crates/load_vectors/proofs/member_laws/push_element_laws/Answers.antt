use Rattle.load_vectors.specs.Laws.{law_along}
use Rattle.load_vectors.proofs.Listing.{listed_onto}
use Rattle.load_vectors.proofs.member_laws.push_element_laws.Goals as goal

pub loop-part-preserved : goal.loop-part-preserved
loop-part-preserved c =
    listed_onto c.loop-part.part (law_along c.args.shape.now c.args.delta) c.args.laws.now.items _ _ _ c.in_ok-push.ensures.items c.loop-part.invariant c.law_along.ensures
