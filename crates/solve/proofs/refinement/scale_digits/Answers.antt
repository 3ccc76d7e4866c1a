use Rattle.std.proofs.Common.{arith}
use Rattle.solve.proofs.Scaling.{scaled-step, scale-greatest, room-most, no_room-reached}
use Rattle.solve.proofs.refinement.scale_digits.Goals as goal

pub loop-digits-preserved : goal.loop-digits-preserved
loop-digits-preserved c =
    record {
      value = scaled-step c.largest-scaled.result c.loop-digits.scaled c.loop-digits.digits c.loop-digits.invariant.value;
      room = omega arith;
      at_most = omega arith;
    }

pub returns-then-scaled-ge-ROOM-clause-no_room : goal.returns-then-scaled-ge-ROOM-clause-no_room
returns-then-scaled-ge-ROOM-clause-no_room c = no_room-reached c.args.r.now c.largest-scaled.result c.largest-scaled.ensures.reached c.if-scaled-ge-ROOM.true

pub returns-else-scaled-clause-scale : goal.returns-else-scaled-clause-scale
returns-else-scaled-clause-scale c =
    record {
      at_most = c.loop-digits.invariant.at_most;
      room = room-most c.args.r.now c.largest-scaled.result c.loop-digits.scaled c.loop-digits.digits c.largest-scaled.ensures.bound c.loop-digits.invariant.value c.loop-digits.invariant.room;
      greatest = λ d _ room.
          scale-greatest c.args.r.now c.largest-scaled.result c.loop-digits.scaled c.loop-digits.digits d c.largest-scaled.ensures.reached c.loop-digits.invariant.value c.if-scaled.false room;
    }
