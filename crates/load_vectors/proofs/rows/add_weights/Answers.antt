use Rattle.std.proofs.Common.{◌≡◌, ◌<◌, ◌+◌, ◌*◌, List, length, take, get_or, ap, refl, subst, ◌∙◌, arith}
use Rattle.std.specs.List.{flat_map}
use Rattle.std.proofs.lemmas.List.{get_or_read, take_all}
use Rattle.model_types.specs.declared.records.Element.{Element}
use Rattle.structure.specs.Elements.{no_element}
use Rattle.load_vectors.specs.NodeLoads.{weight_loads}
use Rattle.load_vectors.specs.Totals.{AddsLoads}
use Rattle.load_vectors.proofs.AddingLemmas.{more_room}
use Rattle.load_vectors.proofs.SumLemmas.{adds_next, adds_nothing}
use Rattle.load_vectors.proofs.rows.add_weights.Goals as goal

pub loop-number-init : goal.loop-number-init
loop-number-init c = record { rows = refl; adds = adds_nothing _ _; size = c.requires.room }

pub add_weight-requires-clause-room : goal.add_weight-requires-clause-room
add_weight-requires-clause-room c =
    let m = c.args.m.now in
    let n = c.loop-number.number in
    let x = c.index-elements-number.result in
    let records = c.elements-elements.ensures.records in
    let inside : n < length m.elements = rw (← records) c.loop-number-test.true in
    let at : x ≡ get_or m.elements n no_element =
    subst (λ (xs : List Element). x ≡ get_or xs n no_element) records (get_or_read c.elements-elements.result.now n x c.loop-number-test.true c.index-elements-number.is no_element) in
    let few : n < 4000 = omega (arith, inside, c.elements-elements.ensures.model.few.elements) in
    more_room (6000 + 2 * n) 19999 c.loop-number.loads (omega (arith, few)) c.loop-number.invariant.size

pub loop-number-preserved : goal.loop-number-preserved
loop-number-preserved c =
    let m = c.args.m.now in
    let n = c.loop-number.number in
    let x = c.index-elements-number.result in
    let records = c.elements-elements.ensures.records in
    let inside : n < length m.elements = rw (← records) c.loop-number-test.true in
    let at : x ≡ get_or m.elements n no_element =
    subst (λ (xs : List Element). x ≡ get_or xs n no_element) records (get_or_read c.elements-elements.result.now n x c.loop-number-test.true c.index-elements-number.is no_element) in
    record {
      rows = c.add_weight.ensures.rows ∙ c.loop-number.invariant.rows;
      adds = adds_next m (weight_loads m c.args.case.0) m.elements n x no_element c.args.loads.now c.loop-number.loads c.add_weight.new.loads inside at c.loop-number.invariant.adds c.add_weight.ensures.adds;
      size = more_room (6000 + 2 * n + 2) (6000 + 2 * (n + 1)) c.add_weight.new.loads (omega arith) (c.add_weight.ensures.size (6000 + 2 * n) c.loop-number.invariant.size);
    }

pub returns-clause-adds : goal.returns-clause-adds
returns-clause-adds c =
    let m = c.args.m.now in
    let done : c.loop-number.number ≡ length m.elements = omega (arith, ap (λ (xs : List Element). length xs) c.elements-elements.ensures.records, c.loop-number-test.false, c.loop-number.auto.number-end) in
    let full : take c.loop-number.number m.elements ≡ m.elements = take_all c.loop-number.number m.elements (omega (arith, done)) in
    let adds = c.loop-number.invariant.adds in
    subst (λ (xs : List Element). AddsLoads m (flat_map (weight_loads m c.args.case.0) xs) c.args.loads.now c.loop-number.loads) full adds
