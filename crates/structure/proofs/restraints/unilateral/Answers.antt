use Rattle.std.proofs.Common.{◌≡◌, ◌<◌, ◌++◌, [], length, List, ℕ, get_or, subst, ap, ap₂, ◌∙◌, arith}
use Rattle.std.proofs.lemmas.List.{get_or_read}
use Rattle.std.specs.List.{flat_map, range_with_len}
use Rattle.model_types.specs.declared.records.Restraint.{Restraint}
use Rattle.model_types.specs.MemberCounts.{restraint_member_count}
use Rattle.restraint_law.specs.States.{state_numbers}
use Rattle.structure.specs.Restraints.{no_restraint, restraint_at, first_of_restraint}
use Rattle.structure.proofs.RestraintLaw.{count_few, first_more}
use Rattle.structure.proofs.Runs.{flat_map_range_more}
use Rattle.structure.proofs.restraints.unilateral.Goals as goal

pub loop-number-preserved : goal.loop-number-preserved
loop-number-preserved c =
    let m = c.args.m.now in
    let n = c.loop-number.number in
    let r = c.index-restraints-number.result in
    let records = c.restraints-restraints.ensures.records in
    let inside : n < length m.restraints = rw (← records) c.loop-number-test.true in
    let at : r ≡ restraint_at m n =
    subst (λ (rs : List Restraint). r ≡ get_or rs n no_restraint) records (get_or_read c.restraints-restraints.result.now n r c.loop-number-test.true c.index-restraints-number.is no_restraint) in
    let numbers_of : ℕ → List ℕ = λ k. state_numbers (first_of_restraint m k) (restraint_at m k).kind in
    record {
      value =
          c.in_ok-push_state_numbers.ensures
          ∙ ap (λ (xs : List ℕ). xs ++ state_numbers c.loop-number.first r.kind) c.loop-number.invariant.value
          ∙ ap₂ (λ (k : ℕ) (x : Restraint). flat_map numbers_of (range_with_len 0 n) ++ state_numbers k x.kind) c.loop-number.invariant.first at
          ∙ flat_map_range_more numbers_of [] n;
      first = omega (arith, first_more m n inside, c.loop-number.invariant.first, ap (λ (x : Restraint). restraint_member_count x.kind) at);
      few = omega (arith, count_few r.kind, c.loop-number.invariant.few);
    }
