use Rattle.std.proofs.Common.{◌≡◌, true, refl, ap, rules, of_z, w64}
use Rattle.member_pairs.specs.Axes.{translation}
use Rattle.model_types.specs.declared.records.RestraintKind.TheVariants.{Gap}
use Rattle.restraint_law.specs.Directions.{against}
use Rattle.restraint_law.specs.Enclosures.{EnclosesRestraint, HoldsTowards}
use Rattle.restraint_law.specs.Restraints.{is_shut, kind_members}
use Rattle.restraint_law.proofs.GapLemmas.{not_shut}
use Rattle.restraint_law.proofs.MemberLemmas.{copy_holds}
use Rattle.restraint_law.proofs.members.gap_members.Goals as goal

pub returns-then-gap-eq0-clause-encloses : goal.returns-then-gap-eq0-clause-encloses
returns-then-gap-eq0-clause-encloses c =
    let d = c.args.d.now in
    let shut : is_shut c.args.gap ≡ true = search rules in
    copy_holds _ _ (EnclosesRestraint (Gap d.x d.y d.z c.args.gap c.args.k)) (c.translation_member-first.ensures.holds, λ apart. absurd (cc)) c.to_vec.ensures.items_if_clones_equal

pub returns-clause-value : goal.returns-clause-value
returns-clause-value c =
    let d = c.args.d.now in
    let apart = not_shut c.args.gap (λ same. c.if-gap-eq0.false (ap (of_z w64) same)) in
    let second = rw c.opposite.ensures.value at c.translation_member-second.ensures.value in
    copy_holds _ _ (λ members. members ≡ kind_members c.args.node (Gap d.x d.y d.z c.args.gap c.args.k))
    (rw (apart, c.translation_member-first.ensures.value, second) refl) c.to_vec-2.ensures.items_if_clones_equal

pub returns-clause-encloses : goal.returns-clause-encloses
returns-clause-encloses c =
    let d = c.args.d.now in
    let second : HoldsTowards c.translation_member-second.result c.args.k translation (against d.x d.y d.z) = rw c.opposite.ensures.value at c.translation_member-second.ensures.holds in
    copy_holds _ _ (EnclosesRestraint (Gap d.x d.y d.z c.args.gap c.args.k)) (c.translation_member-first.ensures.holds, λ _. second) c.to_vec-2.ensures.items_if_clones_equal
