use Rattle.std.proofs.Common.{◌≡◌, Ok, sym, ◌∙◌}
use Rattle.structure.specs.Elements.{members_of_element, section_of}
use Rattle.pipeflex_top.proofs.TableLemmas.{element_written}
use Rattle.pipeflex_top.proofs.member_table.push_element.Goals as goal

pub push_kappas-requires : goal.push_kappas-requires
push_kappas-requires c = rw (c.as_slice.ensures) c.in-Ok.ensures.few

pub returns-in_ok-push_kappas-in-Ok-clause-bytes : goal.returns-in_ok-push_kappas-in-Ok-clause-bytes
returns-in_ok-push_kappas-in-Ok-clause-bytes c =
    let model = c.args.model.now in
    let element = c.args.element.now in
    let made = members_of_element model element in
    let is : made ≡ Ok c.in-Ok.members = sym c.element_members.ensures.value ∙ c.in-Ok.is in
    let kappas = rw c.as_slice.ensures at c.in_ok-push_kappas-in-Ok.ensures.bytes in
    element_written c.args.out.now.items c.push_shape.new.out.items c.push_kappas.new.out.items element.name (section_of model element) element.shape made c.in-Ok.members is c.in_ok-push_shape-in-Ok.ensures.bytes kappas

pub returns-in_ok-push_kappas-in-Ok-clause-told : goal.returns-in_ok-push_kappas-in-Ok-clause-told
returns-in_ok-push_kappas-in-Ok-clause-told c = record {
  stiffnesses = c.element_members.ensures.encloses;
  factors = rw (sym c.element_members.ensures.value ∙ c.in-Ok.is) c.in_ok-push_shape-in-Ok.ensures.told;
}
