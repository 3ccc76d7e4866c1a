use Rattle.std.proofs.Common.{◌++◌, []}
use Rattle.load_vectors.specs.NodeLoads.{forces_in, hangers_in, weights_in}
use Rattle.load_vectors.proofs.SumLemmas.{adds_both}
use Rattle.load_vectors.proofs.rows.add_all.Goals as goal

pub returns : goal.returns
returns c =
    let m = c.args.m.now in
    let case = c.args.case.0 in
    (adds_both m (forces_in m case ++ hangers_in m case) (weights_in m case) c.args.loads.now c.add_hangers.new.loads c.add_weights.new.loads
    (adds_both m (forces_in m case) (hangers_in m case) c.args.loads.now c.add_forces.new.loads c.add_hangers.new.loads c.add_forces.ensures.adds c.add_hangers.ensures.adds)
    c.add_weights.ensures.adds) [] c.requires.start
