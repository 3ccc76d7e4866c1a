use Rattle.std.proofs.Common.{◌≡◌, ◌<◌, below_more, List, ◌++◌, length, length-append, get_or, subst, arith, ap, ◌∙◌}
use Rattle.std.proofs.lemmas.List.{get_or_read}
use Rattle.std.proofs.lemmas.List.Elements.{All-append}
use Rattle.model_types.specs.declared.records.Element.{Element}
use Rattle.structure.specs.Sound.{IsSound}
use Rattle.structure.specs.Elements.{element_at, no_element}
use Rattle.structure.proofs.MemberLemmas.{element_members-next, element_members-wide, members-read, members-sound}
use Rattle.structure.proofs.elements.all_element_members.Goals as goal

pub returns-in-Err : goal.returns-in-Err
returns-in-Err c =
    record {
      value = tt;
      sound = tt;
      few = tt;
      encloses = tt;
      wide = λ id is.
          let number : c.loop-number.number ≡ id.0 = cc in
          let here = members-read c.args.model.now c.elements-elements.result.now c.loop-number.number c.index-elements-number.result c.element_members.result c.elements-elements.ensures.records c.loop-number-test.true c.index-elements-number.is c.element_members.ensures.value in
          let inside : c.loop-number.number < length c.args.model.now.elements = rw (← c.elements-elements.ensures.records) c.loop-number-test.true in
          rw (← number) (element_members-wide c.args.model.now c.loop-number.number c.loop-number.members.items c.in-Err.field-0 c.loop-number.invariant.value (here ∙ c.in-Err.is) (length c.args.model.now.elements) inside);
    }

pub loop-number-preserved : goal.loop-number-preserved
loop-number-preserved c =
    let here = members-read c.args.model.now c.elements-elements.result.now c.loop-number.number c.index-elements-number.result c.element_members.result c.elements-elements.ensures.records c.loop-number-test.true c.index-elements-number.is c.element_members.ensures.value in
    let inside : c.loop-number.number < length c.args.model.now.elements = rw (← c.elements-elements.ensures.records) c.loop-number-test.true in
    let items : c.extend_from_slice.new.self.items ≡ c.loop-number.members.items ++ c.in-Ok.more = rw c.as_slice.ensures at c.in_ok-extend_from_slice-in-Ok.ensures.items in
    let element = c.index-elements-number.result in
    let at : element ≡ element_at c.args.model.now c.loop-number.number =
    subst (λ (es : List Element). element ≡ get_or es c.loop-number.number no_element) c.elements-elements.ensures.records
    (get_or_read c.elements-elements.result.now c.loop-number.number element c.loop-number-test.true c.index-elements-number.is no_element) in
    let own = rw at at c.in-Ok.ensures.limits in
    let encloses = rw at at c.element_members.ensures.encloses in
    let sound = members-sound c.args.model.now c.elements-elements.ensures.model c.loop-number.number inside c.in-Ok.more own in
    record {
      value = rw items (element_members-next c.args.model.now c.loop-number.number c.loop-number.members.items c.in-Ok.more c.loop-number.invariant.value (here ∙ c.in-Ok.is));
      sound = rw items (All-append (IsSound (length c.args.model.now.nodes)) c.loop-number.members.items c.in-Ok.more c.loop-number.invariant.sound sound);
      few = omega (arith, ap length items, length-append c.loop-number.members.items c.in-Ok.more, c.in-Ok.ensures.few);
      encloses = below_more _ _ c.loop-number.invariant.encloses encloses;
    }
