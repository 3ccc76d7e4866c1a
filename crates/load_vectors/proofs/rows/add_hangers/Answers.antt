use Rattle.std.proofs.Common.{◌≡◌, ◌<◌, ◌+◌, List, length, take, get_or, ap, refl, subst, ◌∙◌, arith}
use Rattle.std.specs.List.{flat_map}
use Rattle.std.proofs.lemmas.List.{get_or_read, take_all}
use Rattle.model_types.specs.declared.records.Restraint.{Restraint}
use Rattle.structure.specs.Restraints.{no_restraint}
use Rattle.load_vectors.specs.NodeLoads.{hanger_loads}
use Rattle.model_types.specs.declared.records.Case.{Case}
use Rattle.structure.proofs.MemberLemmas.{at_number}
use Rattle.load_vectors.specs.Cases.{case_at, no_case}
use Rattle.load_vectors.specs.Totals.{AddsLoads}
use Rattle.load_vectors.proofs.AddingLemmas.{more_room}
use Rattle.load_vectors.proofs.SumLemmas.{adds_next, adds_nothing}
use Rattle.load_vectors.proofs.rows.add_hangers.Goals as goal

pub loop-number-init : goal.loop-number-init
loop-number-init c = record { rows = refl; adds = adds_nothing _ _; size = c.requires.room }

pub add_hanger-requires-clause-room : goal.add_hanger-requires-clause-room
add_hanger-requires-clause-room c =
    let m = c.args.m.now in
    let n = c.loop-number.number in
    let x = c.index-restraints-number.result in
    let records = c.restraints-restraints.ensures.records in
    let inside : n < length m.restraints = rw (← records) c.loop-number-test.true in
    let at : x ≡ get_or m.restraints n no_restraint =
    subst (λ (xs : List Restraint). x ≡ get_or xs n no_restraint) records (get_or_read c.restraints-restraints.result.now n x c.loop-number-test.true c.index-restraints-number.is no_restraint) in
    let few : n < 2000 = omega (arith, inside, c.restraints-restraints.ensures.model.few.restraints) in
    more_room (4000 + n) 20000 c.loop-number.loads (omega (arith, few)) c.loop-number.invariant.size

pub loop-number-preserved : goal.loop-number-preserved
loop-number-preserved c =
    let m = c.args.m.now in
    let n = c.loop-number.number in
    let x = c.index-restraints-number.result in
    let records = c.restraints-restraints.ensures.records in
    let inside : n < length m.restraints = rw (← records) c.loop-number-test.true in
    let at : x ≡ get_or m.restraints n no_restraint =
    subst (λ (xs : List Restraint). x ≡ get_or xs n no_restraint) records (get_or_read c.restraints-restraints.result.now n x c.loop-number-test.true c.index-restraints-number.is no_restraint) in
    record {
      rows = c.add_hanger.ensures.rows ∙ c.loop-number.invariant.rows;
      adds = adds_next m (hanger_loads c.case-case.result.now) m.restraints n x no_restraint c.args.loads.now c.loop-number.loads c.add_hanger.new.loads inside at c.loop-number.invariant.adds c.add_hanger.ensures.adds;
      size = more_room (4000 + n + 1) (4000 + (n + 1)) c.add_hanger.new.loads (omega arith) (c.add_hanger.ensures.size (4000 + n) c.loop-number.invariant.size);
    }

pub returns-clause-adds : goal.returns-clause-adds
returns-clause-adds c =
    let m = c.args.m.now in
    let done : c.loop-number.number ≡ length m.restraints = omega (arith, ap (λ (xs : List Restraint). length xs) c.restraints-restraints.ensures.records, c.loop-number-test.false, c.loop-number.auto.number-end) in
    let full : take c.loop-number.number m.restraints ≡ m.restraints = take_all c.loop-number.number m.restraints (omega (arith, done)) in
    let case = at_number m.cases c.args.case.0 c.case-case.result.now no_case c.case-case.ensures.found in
    let adds = subst (λ (own : Case). AddsLoads m (flat_map (hanger_loads own) (take c.loop-number.number m.restraints)) c.args.loads.now c.loop-number.loads) case c.loop-number.invariant.adds in
    subst (λ (xs : List Restraint). AddsLoads m (flat_map (hanger_loads (case_at m c.args.case.0)) xs) c.args.loads.now c.loop-number.loads) full adds

pub returns-clause-size : goal.returns-clause-size
returns-clause-size c =
    let m = c.args.m.now in
    let done : c.loop-number.number ≡ length m.restraints = omega (arith, ap (λ (xs : List Restraint). length xs) c.restraints-restraints.ensures.records, c.loop-number-test.false, c.loop-number.auto.number-end) in
    more_room (4000 + c.loop-number.number) 6000 c.loop-number.loads (omega (arith, done, c.restraints-restraints.ensures.model.few.restraints)) c.loop-number.invariant.size
