use Rattle.std.proofs.Common.{◌≡◌, ◌==◌, ◌∷◌, [], List, Bool, true, ap, sym, subst, cond, arith}
use Rattle.std.proofs.lemmas.Bool.Decides.{nat_tests}
use Rattle.load_vectors.specs.NodeLoads.{NodeLoad, force_loads, part_of, whole_load}
use Rattle.load_vectors.specs.Totals.{AddsLoads}
use Rattle.load_vectors.proofs.SumLemmas.{adds_load}
use Rattle.load_vectors.proofs.rows.add_force.Goals as goal

pub returns-then-force-case-clause-adds : goal.returns-then-force-case-clause-adds
returns-then-force-case-clause-adds c =
    let f = c.args.force.now in
    let here : (f.case.0 == c.args.case.0) ≡ true = grind (arith, nat_tests, c.if-force-case.true) in
    let one : whole_load f.node.0 (part_of f) ∷ [] ≡ force_loads c.args.case.0 f = ap (λ (b : Bool). cond b (whole_load f.node.0 (part_of f) ∷ []) []) (sym here) in
    subst (λ (ps : List NodeLoad). AddsLoads c.args.m.now ps c.args.loads.now c.add_parts.new.loads) one
    (adds_load c.args.m.now (whole_load f.node.0 (part_of f)) c.args.loads.now c.add_parts.new.loads c.force_parts.result c.force_parts.ensures c.add_parts.ensures.adds)
