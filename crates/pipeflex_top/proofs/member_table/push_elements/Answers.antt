use Rattle.std.proofs.Common.{◌++◌, ap, subst, ◌∙◌, take_all}
use Rattle.std.proofs.lemmas.List.Elements.{All-more}
use Rattle.std.specs.List.{All, flat_map}
use Rattle.pipeflex_top.specs.Enclosure.{PrintsElement}
use Rattle.pipeflex_top.specs.MemberTable.{element_text}
use Rattle.pipeflex_top.proofs.TableLemmas.{flat_map-taken}
use Rattle.pipeflex_top.proofs.member_table.push_elements.Goals as goal

pub loop-element-preserved : goal.loop-element-preserved
loop-element-preserved c =
    let model = c.args.model.now in
    let elements = c.elements-elements.result.now in
    let i = c.loop-element.element-index in
    let element = c.element-item.result in
    let inside = c.loop-element-test.true in
    let so_far = c.loop-element.invariant in
    let here = c.in_ok-push_element.ensures in
    record {
      written = here.bytes ∙ ap (λ bytes. bytes ++ element_text model element) so_far.written ∙ flat_map-taken (element_text model) c.args.out.now.items elements i element inside c.element-item.is;
      enclosed = All-more (PrintsElement model) elements i element inside so_far.enclosed (subst (PrintsElement model) c.element-item.is here.told);
    }

pub returns-clause-bytes : goal.returns-clause-bytes
returns-clause-bytes c =
    let whole = take_all c.loop-element.element-index c.elements-elements.result.now c.loop-element-test.false ∙ c.elements-elements.ensures.records in
    c.loop-element.invariant.written ∙ ap (λ elements. c.args.out.now.items ++ flat_map (element_text c.args.model.now) elements) whole

pub returns-clause-encloses : goal.returns-clause-encloses
returns-clause-encloses c =
    let whole = take_all c.loop-element.element-index c.elements-elements.result.now c.loop-element-test.false ∙ c.elements-elements.ensures.records in
    subst (All (PrintsElement c.args.model.now)) whole c.loop-element.invariant.enclosed
