use Rattle.std.proofs.Common.{◌+◌, ◌∷◌, [], arith, true, false}
use Rattle.load_vectors.specs.NodeLoads.{weight_load}
use Rattle.load_vectors.proofs.SumLemmas.{adds_both, adds_load}
use Rattle.load_vectors.proofs.AddingLemmas.{more_room}
use Rattle.load_vectors.proofs.elements.add_weight.Goals as goal

pub add_parts-requires-clause-room : goal.add_parts-requires-clause-room
add_parts-requires-clause-room c = more_room 19999 20000 c.args.loads.now (omega arith) c.requires.room

pub add_parts-requires-2-clause-room : goal.add_parts-requires-2-clause-room
add_parts-requires-2-clause-room c = c.add_parts.ensures.size 19999 c.requires.room

pub returns-clause-adds : goal.returns-clause-adds
returns-clause-adds c =
    let m = c.args.m.now in
    let from = weight_load m c.args.case.0 c.args.element.now false in
    let to = weight_load m c.args.case.0 c.args.element.now true in
    adds_both m (from ∷ []) (to ∷ []) c.args.loads.now c.add_parts.new.loads c.add_parts-2.new.loads
    (adds_load m from c.args.loads.now c.add_parts.new.loads c.end_parts-from.result c.end_parts-from.ensures c.add_parts.ensures.adds)
    (adds_load m to c.add_parts.new.loads c.add_parts-2.new.loads c.end_parts-to.result c.end_parts-to.ensures c.add_parts-2.ensures.adds)

pub returns-clause-size : goal.returns-clause-size
returns-clause-size c = λ n of. more_room (n + 1 + 1) (n + 2) c.add_parts-2.new.loads (omega arith) (c.add_parts-2.ensures.size (n + 1) (c.add_parts.ensures.size n of))
