use Rattle.std.proofs.Common.{◌≡◌, ◌<◌, ◌+◌, List, length, take, get_or, ap, refl, subst, ◌∙◌, arith}
use Rattle.std.specs.List.{flat_map}
use Rattle.std.proofs.lemmas.List.{take_all}
use Rattle.model_types.specs.declared.records.Force.{Force}
use Rattle.load_vectors.proofs.SumLemmas.{no_force}
use Rattle.load_vectors.specs.NodeLoads.{force_loads}
use Rattle.load_vectors.specs.Totals.{AddsLoads}
use Rattle.load_vectors.proofs.AddingLemmas.{more_room}
use Rattle.load_vectors.proofs.SumLemmas.{adds_next, adds_nothing}
use Rattle.load_vectors.proofs.rows.add_forces.Goals as goal

pub loop-number-init : goal.loop-number-init
loop-number-init c = record { rows = refl; adds = adds_nothing _ _; size = c.requires.room }

pub add_force-requires-clause-room : goal.add_force-requires-clause-room
add_force-requires-clause-room c =
    let m = c.args.m.now in
    let n = c.loop-number.number in
    let x : Force = get_or c.forces-forces.result.now n no_force in
    let records = c.forces-forces.ensures.records in
    let inside : n < length m.forces = rw (← records) c.loop-number-test.true in
    let at : x ≡ get_or m.forces n no_force =
    ap (λ (fs : List Force). get_or fs n no_force) records in
    let few : n < 4000 = omega (arith, inside, c.forces-forces.ensures.model.few.forces) in
    more_room n 20000 c.loop-number.loads (omega (arith, few)) c.loop-number.invariant.size

pub loop-number-preserved : goal.loop-number-preserved
loop-number-preserved c =
    let m = c.args.m.now in
    let n = c.loop-number.number in
    let x : Force = get_or c.forces-forces.result.now n no_force in
    let records = c.forces-forces.ensures.records in
    let inside : n < length m.forces = rw (← records) c.loop-number-test.true in
    let at : x ≡ get_or m.forces n no_force =
    ap (λ (fs : List Force). get_or fs n no_force) records in
    record {
      rows = c.add_force.ensures.rows ∙ c.loop-number.invariant.rows;
      adds = adds_next m (force_loads c.args.case.0) m.forces n x no_force c.args.loads.now c.loop-number.loads c.add_force.new.loads inside at c.loop-number.invariant.adds c.add_force.ensures.adds;
      size = more_room (n + 1) (n + 1) c.add_force.new.loads (omega arith) (c.add_force.ensures.size n c.loop-number.invariant.size);
    }

pub returns-clause-adds : goal.returns-clause-adds
returns-clause-adds c =
    let m = c.args.m.now in
    let done : c.loop-number.number ≡ length m.forces = omega (arith, ap (λ (xs : List Force). length xs) c.forces-forces.ensures.records, c.loop-number-test.false, c.loop-number.auto.number-end) in
    let full : take c.loop-number.number m.forces ≡ m.forces = take_all c.loop-number.number m.forces (omega (arith, done)) in
    let adds = c.loop-number.invariant.adds in
    subst (λ (xs : List Force). AddsLoads m (flat_map (force_loads c.args.case.0) xs) c.args.loads.now c.loop-number.loads) full adds

pub returns-clause-size : goal.returns-clause-size
returns-clause-size c =
    let m = c.args.m.now in
    let done : c.loop-number.number ≡ length m.forces = omega (arith, ap (λ (xs : List Force). length xs) c.forces-forces.ensures.records, c.loop-number-test.false, c.loop-number.auto.number-end) in
    more_room c.loop-number.number 4000 c.loop-number.loads (omega (arith, done, c.forces-forces.ensures.model.few.forces)) c.loop-number.invariant.size
