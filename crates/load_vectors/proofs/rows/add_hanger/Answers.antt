use Rattle.std.proofs.Common.{◌≡◌, ◌∷◌, [], List, true, rules, refl, subst, to_z-of_z, FitsSigned}
use Rattle.std.specs.Int.{w64}
use Rattle.load_vectors.specs.NodeLoads.{NodeLoad, hanger_loads, upward, whole_load}
use Rattle.load_vectors.specs.Totals.{AddsLoads}
use Rattle.load_vectors.proofs.SumLemmas.{adds_load}
use Rattle.load_vectors.proofs.rows.add_hanger.Goals as goal

pub add_parts-requires-clause-parts : goal.add_parts-requires-clause-parts
add_parts-requires-clause-parts c = (c.hanger_parts.ensures c.args.r.now.node.0).size

pub returns-in-Hanger-clause-adds : goal.returns-in-Hanger-clause-adds
returns-in-Hanger-clause-adds c =
    let r = c.args.r.now in
    let fits : FitsSigned w64 c.in-Hanger.load = search rules in
    let acts : c.args.case.now.hangers ≡ true = search rules in
    let parts = rw (to_z-of_z fits) at c.hanger_parts.ensures in
    let one : whole_load r.node.0 (upward c.in-Hanger.load) ∷ [] ≡ hanger_loads c.args.case.now r = rw (acts, c.in-Hanger.is) refl in
    subst (λ (ps : List NodeLoad). AddsLoads c.args.m.now ps c.args.loads.now c.add_parts.new.loads) one
    (adds_load c.args.m.now (whole_load r.node.0 (upward c.in-Hanger.load)) c.args.loads.now c.add_parts.new.loads c.hanger_parts.result (parts r.node.0) c.add_parts.ensures.adds)
