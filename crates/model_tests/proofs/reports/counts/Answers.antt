use Rattle.std.proofs.Common.{◌≡◌, ℕ, ◌≤◌, Option, Some, None, length, arith, refl, sym, ap, ◌∙◌}
use Rattle.std.proofs.lemmas.List.{take_all}
use Rattle.std.specs.Prelude.{SomeIff}
use Rattle.model_types.specs.MemberCounts.{restraint_member_count, restraint_state_count, restraints_member_count, restraints_state_count}
use Rattle.model_types.specs.declared.records.Restraint.{Restraint}
use Rattle.report.proofs.RowLemmas.{count_more}
use Rattle.model_tests.proofs.reports.counts.Goals as goal

-- the value of a sum that is there
sum_is : (o : Option ℕ) (P : Type 0) (sum x : ℕ) → SomeIff o P sum → o ≡ Some x → x ≡ sum
sum_is None P sum x is some = absurd (cc)
sum_is (Some y) P sum x is some = let same : y ≡ x = cc in sym same ∙ is.1

pub loop-restraint-init : goal.loop-restraint-init
loop-restraint-init g c = record { inside = omega arith; loads = refl; states = refl }

pub loop-restraint-preserved : goal.loop-restraint-preserved
loop-restraint-preserved g c =
    let restraints = c.args.m.now.restraints in
    let i = c.loop-restraint.restraint-index in
    let r = c.restraint-item.result in
    let listed = c.restraints-restraint-items.ensures.records in
    let inside = rw listed at c.loop-restraint-test.true in
    let is = rw listed at c.restraint-item.is in
    let loads = sum_is c.checked_add.result _ _ c.expect-loads.result c.checked_add.ensures c.expect-loads.ensures in
    let states = sum_is c.checked_add-in-loop-restraint.result _ _ c.expect-states.result c.checked_add-in-loop-restraint.ensures c.expect-states.ensures in
    let more = count_more (λ (x : Restraint). restraint_member_count x.kind) restraints i r inside is in
    let more_states = count_more (λ (x : Restraint). restraint_state_count x.kind) restraints i r inside is in
    record {
      inside = omega (arith, inside);
      loads = omega (arith, loads, c.member_count.ensures, c.loop-restraint.invariant.loads, more.0);
      states = omega (arith, states, c.state_count.ensures, c.loop-restraint.invariant.states, more_states.0);
    }

pub returns-clause-loads : goal.returns-clause-loads
returns-clause-loads g c =
    let restraints = c.args.m.now.restraints in
    let all : length restraints ≤ c.loop-restraint.restraint-index = rw c.restraints-restraint-items.ensures.records at c.loop-restraint-test.false in
    c.loop-restraint.invariant.loads ∙ ap restraints_member_count (take_all c.loop-restraint.restraint-index restraints all)

pub returns-clause-states : goal.returns-clause-states
returns-clause-states g c =
    let restraints = c.args.m.now.restraints in
    let all : length restraints ≤ c.loop-restraint.restraint-index = rw c.restraints-restraint-items.ensures.records at c.loop-restraint-test.false in
    c.loop-restraint.invariant.states ∙ ap restraints_state_count (take_all c.loop-restraint.restraint-index restraints all)
