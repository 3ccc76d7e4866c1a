use Rattle.std.proofs.Common.{◌≡◌, ◌+◌, ◌≤◌, ◌++◌, length, drop, arith, length-drop, drop-drop, ap, ◌∙◌, subst, sym}
use Rattle.std.proofs.lemmas.List.Elements.{All-drop}
use Rattle.std.specs.List.{flat_map}
use Rattle.lists.specs.Listed.{listed}
use Rattle.text_words.specs.Fields.{line}
use Rattle.model_types.specs.declared.answers.Bounds.{Bounds}
use Rattle.model_types.specs.declared.records.Restraint.{Restraint}
use Rattle.model_types.specs.Fits.{IsModest}
use Rattle.report.specs.Report.{bounds_line, loads_before, load_count_of, restraint_bounds, restraint_key, restraint_state, states_before}
use Rattle.report.proofs.RowLemmas.{count_more, restraint_written}
use Rattle.model_types.specs.MemberCounts.{restraint_member_count, restraint_state_count}
use Rattle.report.proofs.rows.push_restraints.Goals as goal

pub split_at-requires : goal.split_at-requires
split_at-requires c =
    let loads = c.args.loads.now in
    let restraints = c.args.restraints.now in
    let i = c.loop-restraint.restraint-index in
    let count = c.member_count.result in
    let own : count ≡ restraint_member_count c.restraint-item.result.kind = c.member_count.ensures in
    let more = count_more (λ (x : Restraint). restraint_member_count x.kind) restraints i c.restraint-item.result c.loop-restraint-test.true c.restraint-item.is in
    let enough : count ≤ length (drop (loads_before restraints i) loads) = omega (arith, length-drop (loads_before restraints i) loads, more.1, own, c.requires.one_each) in
    rw c.loop-restraint.invariant.left enough

pub split_at-requires-in-loop-restraint : goal.split_at-requires-in-loop-restraint
split_at-requires-in-loop-restraint c =
    let states = c.args.states.now in
    let restraints = c.args.restraints.now in
    let i = c.loop-restraint.restraint-index in
    let count = c.state_count.result in
    let own : count ≡ restraint_state_count c.restraint-item.result.kind = c.state_count.ensures in
    let more = count_more (λ (x : Restraint). restraint_state_count x.kind) restraints i c.restraint-item.result c.loop-restraint-test.true c.restraint-item.is in
    let enough : count ≤ length (drop (states_before restraints i) states) = omega (arith, length-drop (states_before restraints i) states, more.1, own, c.requires.one_state_each) in
    rw c.loop-restraint.invariant.states_left enough

pub loop-restraint-preserved : goal.loop-restraint-preserved
loop-restraint-preserved c =
    let so_far = c.loop-restraint.invariant in
    let restraints = c.args.restraints.now in
    let loads = c.args.loads.now in
    let states = c.args.states.now in
    let i = c.loop-restraint.restraint-index in
    let r = c.restraint-item.result in
    let count = c.member_count.result in
    let state_count = c.state_count.result in
    let before = loads_before restraints i in
    let before_states = states_before restraints i in
    let more = count_more (λ (x : Restraint). restraint_member_count x.kind) restraints i r c.loop-restraint-test.true c.restraint-item.is in
    let more_states = count_more (λ (x : Restraint). restraint_state_count x.kind) restraints i r c.loop-restraint-test.true c.restraint-item.is in
    let own : count ≡ restraint_member_count c.restraint-item.result.kind = c.member_count.ensures in
    let own_states : state_count ≡ restraint_state_count c.restraint-item.result.kind = c.state_count.ensures in
    let counted : before + count ≡ loads_before restraints (i + 1) = ap (λ n. before + n) own ∙ sym more.0 in
    let states_counted : before_states + state_count ≡ states_before restraints (i + 1) = ap (λ n. before_states + n) own_states ∙ sym more_states.0 in
    let enough : before + count ≤ length loads = omega (arith, more.1, own, c.requires.one_each) in
    let states_enough : before_states + state_count ≤ length states = omega (arith, more_states.1, own_states, c.requires.one_state_each) in
    record {
      inside = omega (arith, c.loop-restraint-test.true);
      left = c.split_at.ensures.back ∙ ap (drop count) so_far.left ∙ drop-drop count before loads ∙ ap (λ n. drop n loads) counted;
      states_left = c.split_at-in-loop-restraint.ensures.back ∙ ap (drop state_count) so_far.states_left ∙ drop-drop state_count before_states states ∙ ap (λ n. drop n states) states_counted;
      modest = rw c.split_at.ensures.back (All-drop (λ (b : Bounds). IsModest b.lo × IsModest b.hi) count c.loop-restraint.rest.now so_far.modest);
      written = restraint_written c.args.out.now.items c.loop-restraint.out.items c.push_row.new.out.items c.bytes.result.now restraints i count state_count r loads c.split_at.result.0.now
          states c.split_at-in-loop-restraint.result.0.now c.loop-restraint-test.true c.restraint-item.is c.bytes.ensures.bytes own (rw so_far.left at c.split_at.ensures.front) enough
          own_states (rw so_far.states_left at c.split_at-in-loop-restraint.ensures.front) states_enough so_far.written c.in_ok-push_row.ensures.written;
    }

pub returns-clause-written : goal.returns-clause-written
returns-clause-written c =
    let restraints = c.args.restraints.now in
    let whole : c.loop-restraint.restraint-index ≡ length restraints = omega (arith, c.loop-restraint.invariant.inside, c.loop-restraint-test.false) in
    subst
    (λ count. c.loop-restraint.out.items ≡ c.args.out.now.items ++ flat_map line (listed count (bounds_line (restraint_key restraints) (load_count_of restraints) (restraint_state restraints c.args.states.now) (restraint_bounds restraints c.args.loads.now))))
    whole c.loop-restraint.invariant.written
