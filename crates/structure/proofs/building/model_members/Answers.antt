use Rattle.std.proofs.Common.{◌≡◌}
use Rattle.std.proofs.lemmas.Result.{err_from_is_err_and}
use Rattle.structure.specs.declared.fault.BuildFault.TheVariants as faults
use Rattle.structure.proofs.BuildingLemmas.{AreMembers-from, model_members-wide}
use Rattle.structure.proofs.building.model_members.Goals as goal

pub returns-in_err-members-clause-wide : goal.returns-in_err-members-clause-wide
returns-in_err-members-clause-wide c = λ id is.
    let p = err_from_is_err_and c.from_residual.result c.from_residual.ensures.1 in
    let fault : c.in_err-members.field-0.0 ≡ faults.Wide id = cc (p.1, p.2, is) in
    model_members-wide c.args.m.now id.0 (c.all_element_members.ensures.wide id (rw fault at c.in_err-members.was))

pub push_restraints-requires : goal.push_restraints-requires
push_restraints-requires c = rw c.restraints.ensures.records (λ k d inside. (c.restraints.ensures.model.kept.restraints k d inside).form.1)

pub returns-clause-members : goal.returns-clause-members
returns-clause-members c =
    AreMembers-from c.args.m.now c.in_ok-members.members.items c.push_restraints.new.members.items c.restraints.ensures.model c.in_ok-members.ensures.value c.in_ok-members.ensures.sound c.in_ok-members.ensures.few
    (rw c.restraints.ensures.records at c.in_ok-push_restraints.ensures.value)

pub returns-clause-holds : goal.returns-clause-holds
returns-clause-holds c = rw c.restraints.ensures.records at c.in_ok-push_restraints.ensures.holds
