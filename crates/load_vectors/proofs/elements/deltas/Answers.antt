use Rattle.std.proofs.Common.{◌≡◌, ◌<◌, ◌⊎◌, inl, inr, ◌+◌, ◌∷◌, [], ◌++◌, ℕ, List, length, take, map, get_or, Ok, ap, sym, subst, ◌∙◌, arith}
use Rattle.std.proofs.lemmas.List.{get_or_read, map-append, take_more}
use Rattle.std.proofs.lemmas.List.FromFn.{length-map-range_with_len, get_or-map-range_with_len}
use Rattle.std.specs.List.{range_with_len}
use Rattle.flex_interval.specs.Ends.{Ends}
use Rattle.flex_interval.specs.Fraction.{Within}
use Rattle.member_set.specs.Interval.{found}
use Rattle.model_types.specs.Lists.{Lists}
use Rattle.model_types.specs.declared.records.Element.{Element}
use Rattle.model_types.specs.declared.records.Record.TheVariants as record_of
use Rattle.model_types.specs.Rules.{IsModel, Keeps}
use Rattle.structure.specs.Elements.{element_at, no_element, section_of, material_of}
use Rattle.load_vectors.specs.Cases.{IsPipeChange, dt_of, pressure_of, way_along}
use Rattle.load_vectors.specs.Deformations.{deformation_of, exact_deformation}
use Rattle.load_vectors.specs.Laws.{delta_of, EnclosesDeformation}
use Rattle.load_vectors.specs.NodeLoads.{Reading, IsReading}
use Rattle.load_vectors.specs.declared.changes.PipeChange.{PipeChange}
use Rattle.load_vectors.proofs.elements.deltas.Goals as goal

abbrev change_in : Lists → ℕ → ℕ → PipeChange
change_in m case section = record { dt = dt_of m case section; p = pressure_of m case section }

-- the element of a number
element_is : (m : Lists) (elements : List Element) (n : ℕ) (x : Element) → elements ≡ m.elements → n < length elements → x ≡ get_or elements n x → x ≡ element_at m n
element_is m elements n x same inside is = subst (λ (xs : List Element). x ≡ get_or xs n no_element) same (get_or_read elements n x inside is no_element)

-- its section is there
section_there : (m : Lists) (n : ℕ) (x : Element) → IsModel m → n < length m.elements → x ≡ element_at m n → x.section.0 < length m.sections
section_there m n x model inside at =
    let keeps : Keeps m (record_of.Element x) = subst (λ (e : Element). Keeps m (record_of.Element e)) (sym at) (model.kept.elements n no_element inside) in
    keeps.known.1.1.0

-- each section has its change among those of all
counted : (m : Lists) (case : ℕ) (changes : List PipeChange) → changes ≡ map (change_in m case) (range_with_len 0 (length m.sections)) → length changes ≡ length m.sections
counted m case changes value = ap (λ (xs : List PipeChange). length xs) value ∙ length-map-range_with_len (change_in m case) 0 (length m.sections)

own_change : (m : Lists) (case section : ℕ) (changes : List PipeChange) (r : PipeChange) → changes ≡ map (change_in m case) (range_with_len 0 (length m.sections)) →
    section < length m.sections → r ≡ get_or changes section r → r ≡ change_in m case section
own_change m case section changes r value there is =
    subst (λ (xs : List PipeChange). r ≡ get_or xs section r) value is ∙ get_or-map-range_with_len (change_in m case) 0 (length m.sections) section section r there (omega arith)

-- one more
next_deltas : {X Y : Type 0} (f : X → Y) (xs : List X) (n : ℕ) (d : X) (old new : List Y) (y : Y) → n < length xs → new ≡ old ++ y ∷ [] → old ≡ map f (take n xs) → y ≡ f (get_or xs n d) →
    new ≡ map f (take (n + 1) xs)
next_deltas f xs n d old new y inside pushed before here =
    rw (pushed, before, here) (sym (map-append f (take n xs) (get_or xs n d ∷ [])) ∙ ap (λ (ys : List _). map f ys) (sym (take_more xs n d inside)))

pub index-change-requires : goal.index-change-requires
index-change-requires c =
    let m = c.args.m.now in
    let n = c.loop-number.number in
    let x = c.index-elements-number.result in
    let records = c.elements-elements.ensures.records in
    let inside : n < length m.elements = rw (← records) c.loop-number-test.true in
    let at = element_is m c.elements-elements.result.now n x records c.loop-number-test.true c.index-elements-number.is in
    let there = section_there m n x c.elements-elements.ensures.model inside at in
    let size = counted m c.args.case.0 c.in_ok-changes.changes.items c.in_ok-changes.ensures.value in
    omega (arith, size, there, c.in_ok-changes.changes.ok)

pub delta-requires-clause-heat : goal.delta-requires-clause-heat
delta-requires-clause-heat c =
    let m = c.args.m.now in
    let n = c.loop-number.number in
    let x = c.index-elements-number.result in
    let records = c.elements-elements.ensures.records in
    let inside : n < length m.elements = rw (← records) c.loop-number-test.true in
    let at = element_is m c.elements-elements.result.now n x records c.loop-number-test.true c.index-elements-number.is in
    let there = section_there m n x c.elements-elements.ensures.model inside at in
    let size = counted m c.args.case.0 c.in_ok-changes.changes.items c.in_ok-changes.ensures.value in
    let r = c.index-change.result.now in
    let own = c.in_ok-changes.ensures.form x.section.0 r (omega (arith, size, there)) in
    (subst IsPipeChange (sym c.index-change.ensures) own).heat

pub delta-requires-clause-pressure : goal.delta-requires-clause-pressure
delta-requires-clause-pressure c =
    let m = c.args.m.now in
    let n = c.loop-number.number in
    let x = c.index-elements-number.result in
    let records = c.elements-elements.ensures.records in
    let inside : n < length m.elements = rw (← records) c.loop-number-test.true in
    let at = element_is m c.elements-elements.result.now n x records c.loop-number-test.true c.index-elements-number.is in
    let there = section_there m n x c.elements-elements.ensures.model inside at in
    let size = counted m c.args.case.0 c.in_ok-changes.changes.items c.in_ok-changes.ensures.value in
    let r = c.index-change.result.now in
    let own = c.in_ok-changes.ensures.form x.section.0 r (omega (arith, size, there)) in
    (subst IsPipeChange (sym c.index-change.ensures) own).pressure

-- the initial deformation by that change is the element's, and holds the exact one
delta_is : (m : Lists) (case : ℕ) (x : Element) (change : PipeChange) (e : Ends) → change ≡ change_in m case x.section.0 →
    deformation_of (section_of m x) (material_of m (section_of m x)) (way_along m x) change.dt change.p ≡ Ok e → e ≡ delta_of m case x
delta_is m case x change e is value =
    let whole = subst (λ (k : PipeChange). deformation_of (section_of m x) (material_of m (section_of m x)) (way_along m x) k.dt k.p ≡ Ok e) is value in
    ap (λ o. found o) (sym whole)

delta_encloses : (m : Lists) (case : ℕ) (x : Element) (change : PipeChange) (e : Ends) → change ≡ change_in m case x.section.0 → e ≡ delta_of m case x →
    ((y : Reading) → IsReading y → Within e (exact_deformation (section_of m x) (material_of m (section_of m x)) (y.length (way_along m x)) change.dt change.p)) →
    EnclosesDeformation m case x (delta_of m case x)
delta_encloses m case x change e is same within = λ y reading.
    let whole = subst (λ (k : PipeChange). Within e (exact_deformation (section_of m x) (material_of m (section_of m x)) (y.length (way_along m x)) k.dt k.p)) is (within y reading) in
    subst (λ (d : Ends). Within d (exact_deformation (section_of m x) (material_of m (section_of m x)) (y.length (way_along m x)) (dt_of m case x.section.0) (pressure_of m case x.section.0))) same whole

-- what holds below n and at n holds below n + 1
one_more : (P : ℕ → Type 0) (n : ℕ) → ((k : ℕ) → k < n → P k) → P n → (k : ℕ) → k < n + 1 → P k
one_more P n before here k inside =
    let which : (k ≡ n) ⊎ (k < n) = search arith in
    elim which [
      | inl same ↦ subst P (sym same) here
      | inr below ↦ before k below
    ]

pub loop-number-preserved : goal.loop-number-preserved
loop-number-preserved c =
    let m = c.args.m.now in
    let case = c.args.case.0 in
    let n = c.loop-number.number in
    let x = c.index-elements-number.result in
    let records = c.elements-elements.ensures.records in
    let inside : n < length m.elements = rw (← records) c.loop-number-test.true in
    let at = element_is m c.elements-elements.result.now n x records c.loop-number-test.true c.index-elements-number.is in
    let there = section_there m n x c.elements-elements.ensures.model inside at in
    let r = c.index-change.result.now in
    let is = own_change m case x.section.0 c.in_ok-changes.changes.items r c.in_ok-changes.ensures.value there c.index-change.ensures in
    let own = delta_is m case x r c.delta.result is c.delta.ensures.value in
    let holds = delta_encloses m case x r c.delta.result is own c.delta.ensures.within in
    record {
      value = next_deltas (delta_of m case) m.elements n no_element c.loop-number.deltas.items _ c.delta.result inside c.in_ok-push.ensures.items c.loop-number.invariant.value
          (own ∙ ap (λ (e : Element). delta_of m case e) at);
      encloses = one_more (λ k. EnclosesDeformation m case (element_at m k) (delta_of m case (element_at m k))) n c.loop-number.invariant.encloses
          (subst (λ (e : Element). EnclosesDeformation m case e (delta_of m case e)) at holds);
    }

pub returns-clause-encloses : goal.returns-clause-encloses
returns-clause-encloses c = λ n inside.
    c.loop-number.invariant.encloses n (omega (arith, inside, c.loop-number-test.false, c.loop-number.auto.number-end, ap (λ (xs : List Element). length xs) c.elements-elements.ensures.records))
