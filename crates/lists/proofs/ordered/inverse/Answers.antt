use Rattle.std.proofs.Common.{arith}
use Rattle.lists.proofs.PlaceLemmas.{places-written}
use Rattle.lists.proofs.ordered.inverse.Goals as goal

pub returns : goal.returns
returns c =
    places-written c.args.numbers.now c.loop-place.places.items c.requires.order c.loop-place.invariant.written-length
    (λ p lt. c.loop-place.invariant.written p (omega arith))
