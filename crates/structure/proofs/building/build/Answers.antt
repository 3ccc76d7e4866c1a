use Rattle.std.proofs.Common.{◌≡◌, ℕ, All, length, sym, ap, ◌∙◌, subst, List}
use Rattle.std.proofs.lemmas.Result.{err_from_is_err_and}
use Rattle.structure.specs.Sound.{AreMembers}
use Rattle.structure.specs.declared.fault.BuildFault.TheVariants as faults
use Rattle.structure.proofs.BuildingLemmas.{IsStructureOf-from, nodes_in_range, stiff}
use Rattle.structure.proofs.PlacedLaw.{encloses_elements}
use Rattle.structure.specs.Stations.{HoldsVectors}
use Rattle.structure.proofs.StationLemmas.{each_ok}
use Rattle.structure.proofs.RestraintLaw.{encloses_restraints}
use Rattle.structure.proofs.StateLaw.{numbers_run}
use Rattle.structure.proofs.building.build.Goals as goal

pub returns-in_err-members-clause-wide : goal.returns-in_err-members-clause-wide
returns-in_err-members-clause-wide c = λ id is.
    let p = err_from_is_err_and c.from_residual.result c.from_residual.ensures.1 in
    let fault : c.in_err-members.field-0.0 ≡ faults.Wide id = cc (p.1, p.2, is) in
    c.model_members.ensures.wide id (rw fault at c.in_err-members.was)

pub touching-requires-clause-few : goal.touching-requires-clause-few
touching-requires-clause-few c = rw c.deref.ensures.value c.in_ok-members.ensures.members.few

pub touching-requires-clause-in_range : goal.touching-requires-clause-in_range
touching-requires-clause-in_range c =
    rw (c.deref.ensures.value, c.nodes.ensures.records) (nodes_in_range c.args.m.now c.in_ok-members.members.items c.in_ok-members.ensures.members)

pub returns-clause-structure : goal.returns-clause-structure
returns-clause-structure c =
    let are = subst (AreMembers c.args.m.now) (sym c.new.ensures) c.in_ok-members.ensures.members in
    let count = ap (λ (xs : List (List ℕ)). length xs) c.new-4.ensures ∙ c.in_ok-at.ensures.count ∙ ap length c.nodes.ensures.records in
    let lists = rw (← c.new-4.ensures, c.deref.ensures.value, ← c.new.ensures) at c.in_ok-at.ensures.lists in
    IsStructureOf-from c.args.m.now _ c.nodes.ensures.model are count lists (c.new-2.ensures ∙ c.in_ok-unilateral.ensures) (numbers_run c.args.m.now _ are.value) (c.new-3.ensures ∙ c.in_ok-stations.ensures.value)

pub returns-clause-stiff : goal.returns-clause-stiff
returns-clause-stiff c =
    let are = subst (AreMembers c.args.m.now) (sym c.new.ensures) c.in_ok-members.ensures.members in
    stiff c.args.m.now c.new.result are

pub returns-clause-encloses : goal.returns-clause-encloses
returns-clause-encloses c = encloses_elements c.args.m.now _ (returns-clause-structure c) c.in_ok-members.ensures.encloses

pub returns-clause-holds : goal.returns-clause-holds
returns-clause-holds c = encloses_restraints c.args.m.now _ (returns-clause-structure c) c.in_ok-members.ensures.holds

pub stations-requires : goal.stations-requires
stations-requires c = each_ok c.args.m.now c.in_ok-members.members.items c.in_ok-members.ensures.members.value

pub returns-clause-tangents : goal.returns-clause-tangents
returns-clause-tangents c = subst (All (HoldsVectors c.args.m.now)) (sym c.new-3.ensures) c.in_ok-stations.ensures.holds
