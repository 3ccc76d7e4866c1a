use Rattle.std.proofs.Common.{◌≡◌, subst, ◌∙◌}
use Rattle.model_types.specs.Rules.{Keeps}
use Rattle.model_types.specs.declared.records.Element.{Element}
use Rattle.model_types.specs.declared.records.Record.TheVariants as record_of
use Rattle.structure.specs.Elements.{no_element}
use Rattle.structure.specs.Tees.{tee_normal}
use Rattle.structure.proofs.MemberLemmas.{at_number}
use Rattle.structure.proofs.TeeLemmas.{branch_is, crossed, header_is}
use Rattle.structure.proofs.tees.tee_normal.Goals.{After-unwrap}
use Rattle.structure.proofs.tees.tee_normal.Goals as goal

pub plane_normal-requires-clause-not_zero : goal.plane_normal-requires-clause-not_zero
plane_normal-requires-clause-not_zero c =
    let m = c.args.m.now in
    let t = c.args.tee.now in
    let made = c.requires.made in
    let own = at_number m.elements t.branch.0 c.element-branch.result.now no_element c.element-branch.ensures.found ∙ branch_is m t made in
    let head = c.header-header.ensures.value ∙ header_is m t made in
    let kept = λ (e : Element). Keeps m (record_of.Element e) in
    rw (c.run_along-along_branch.ensures.value, c.run_along-along_header.ensures.value, own, head)
    (crossed m t made c.ways_cross.ensures (subst kept own c.element-branch.ensures.kept) (subst kept head c.header-header.ensures.keeps))

normal_is : (c : After-unwrap) → c.plane_normal.result ≡ tee_normal c.args.m.now c.args.tee.now
normal_is c =
    let at = at_number c.args.m.now.elements c.args.tee.now.branch.0 c.element-branch.result.now no_element c.element-branch.ensures.found in
    rw (c.run_along-along_branch.ensures.value, c.run_along-along_header.ensures.value, at, c.header-header.ensures.value) at c.plane_normal.ensures.value

pub returns-clause-value : goal.returns-clause-value
returns-clause-value c = rw (← normal_is c, ← c.unit_normal.ensures.value) c.unwrap.ensures

pub returns-clause-holds : goal.returns-clause-holds
returns-clause-holds c =
    let within = rw (c.unwrap.ensures, normal_is c) at c.unit_normal.ensures.within in
    let exact = rw (normal_is c) at c.unit_normal.ensures.length in
    record { across = within; exact = exact }
