use Rattle.std.proofs.Common.{◌≡◌, ◌+◌, ◌∷◌, [], ◌++◌, List, take, ap, sym, subst, ◌∙◌}
use Rattle.std.proofs.lemmas.List.{take_more, flat_map_more}
use Rattle.std.proofs.lemmas.List.Elements.{All-more}
use Rattle.std.specs.List.{flat_map}
use Rattle.member_set.specs.declared.members.Member.{Member}
use Rattle.model_types.specs.declared.records.Restraint.{Restraint}
use Rattle.model_types.specs.Ranges.{KindInForm}
use Rattle.restraint_law.specs.Restraints.{restraint_members}
use Rattle.structure.specs.Enclosure.{HoldsRestraint}
use Rattle.structure.proofs.restraints.push_restraints.Goals as goal

pub push_restraint-requires : goal.push_restraint-requires
push_restraint-requires c =
    let item = c.r-item in
    subst (λ (r : Restraint). KindInForm r.kind) (sym item.is) (c.requires c.loop-r.r-index item.result c.loop-r-test.true)

pub loop-r-preserved : goal.loop-r-preserved
loop-r-preserved c =
    let old = c.args.members.now.items in
    let restraints = c.args.restraints.now in
    let i = c.loop-r.r-index in
    let r = c.r-item.result in
    let more : take (i + 1) restraints ≡ take i restraints ++ r ∷ [] = take_more restraints i r c.loop-r-test.true ∙ ap (λ (x : Restraint). take i restraints ++ x ∷ []) (sym c.r-item.is) in
    record {
      value =
          c.in_ok-push_restraint.ensures.value
          ∙ ap (λ (members : List Member). members ++ restraint_members r) c.loop-r.invariant.value
          ∙ flat_map_more restraint_members old (take i restraints) r
          ∙ ap (λ (rs : List Restraint). old ++ flat_map restraint_members rs) (sym more);
      holds = All-more HoldsRestraint restraints i r c.loop-r-test.true c.loop-r.invariant.holds (subst HoldsRestraint c.r-item.is c.in_ok-push_restraint.ensures.holds);
    }
