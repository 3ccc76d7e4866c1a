use Rattle.std.proofs.Common.{◌≡◌, ◌<◌, ◌++◌, ◌⊎◌, inl, inr, List, get_or, subst, arith}
use Rattle.std.proofs.lemmas.List.{get_or_read}
use Rattle.lists.specs.Listed.{listed}
use Rattle.model_types.specs.MemberCounts.{restraint_member_count}
use Rattle.model_types.specs.declared.records.Restraint.{Restraint}
use Rattle.restraint_law.specs.States.{case_law}
use Rattle.structure.specs.Restraints.{no_restraint, restraint_at}
use Rattle.structure.proofs.RestraintLaw.{count_few}
use Rattle.load_vectors.specs.Cases.{move_of}
use Rattle.load_vectors.proofs.Listing.{listed_onto}
use Rattle.load_vectors.proofs.member_laws.push_laws.Goals as goal

pub loop-part-preserved : goal.loop-part-preserved
loop-part-preserved c =
    let r = c.index-restraints-number.result in
    let n = c.loop-part.part in
    let here = rw c.law.ensures.value at c.law.ensures.encloses in
    record {
      value = listed_onto n (case_law r.kind c.move_of-moved.result) c.args.laws.now.items _ _ _ c.in_ok-push.ensures.items c.loop-part.invariant.value c.law.ensures.value;
      encloses = λ part below.
          let which : (part ≡ n) ⊎ (part < n) = search arith in
          elim which [
            | inl e ↦ rw e here
            | inr less ↦ c.loop-part.invariant.encloses part less
          ];
    }

pub returns-clause-value : goal.returns-clause-value
returns-clause-value c =
    let m = c.args.m.now in
    let r = c.index-restraints-number.result in
    let old = c.args.laws.now.items in
    let records = c.restraints.ensures.records in
    let at : r ≡ restraint_at m c.args.number =
    subst (λ (rs : List Restraint). r ≡ get_or rs c.args.number no_restraint) records (get_or_read c.restraints.result.now c.args.number r (rw (← records) at c.requires) c.index-restraints-number.is no_restraint) in
    let done : c.loop-part.part ≡ restraint_member_count r.kind = omega (arith, c.loop-part-test.false, c.loop-part.auto.part-end, count_few r.kind, c.member_count-part-end.ensures) in
    let value = rw (done, c.move_of-moved.ensures.value) at c.loop-part.invariant.value in
    subst (λ (x : Restraint). c.loop-part.laws.items ≡ old ++ listed (restraint_member_count x.kind) (case_law x.kind (move_of m c.args.case.0 c.args.number))) at value
