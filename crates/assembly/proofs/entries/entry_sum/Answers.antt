use Rattle.std.proofs.Common.{◌≡◌, ◌∙◌, sym, arith, length}
use Rattle.std.proofs.lemmas.Result.{err_from_is_err_and}
use Rattle.member_set.specs.States.{under}
use Rattle.assembly.proofs.Terms.{term-next, terms-whole, terms-fault}
use Rattle.assembly.proofs.entries.entry_sum.Goals as goal

pub loop-k-init : goal.loop-k-init
loop-k-init c =
    record {
      value = rw c.point-total.ensures.value;
      inside = c.members_at-k-items.ensures.in_range;
    }

pub loop-k-preserved : goal.loop-k-preserved
loop-k-preserved c =
    record {
      value = term-next (under c.args.row.now.b.now c.args.row.now.closed.now) c.args.row.now.number c.args.col c.loop-k.k-index _ c.loop-k.total _
          c.loop-k.invariant.value c.in_ok-total.ensures;
      inside = c.loop-k.invariant.inside;
    }

pub returns-in_err-total : goal.returns-in_err-total
returns-in_err-total c =
    let p = err_from_is_err_and c.from_residual.result c.from_residual.ensures.1 in
    let b = under c.args.row.now.b.now c.args.row.now.closed.now in
    let at = term-next b c.args.row.now.number c.args.col c.loop-k.k-index c.members_at-k-items.result.now c.loop-k.total _
    c.loop-k.invariant.value c.in_err-total.ensures in
    rw (p.1, p.2)
    (sym (terms-fault c.faults_stay.ensures b c.args.row.now.number c.args.col c.loop-k.k-index c.members_at-k-items.result.now _ c.loop-k-test.true at)
    ∙ terms-whole b (c.states_select_members.ensures.built _ _ c.requires.built) c.args.row.now.number c.args.col c.with_fewer.result c.members_at-k-items.result.now
    c.requires.row_in_range c.requires.col_in_range c.with_fewer.ensures c.members_at-k-items.ensures.numbers)

pub returns : goal.returns
returns c =
    let b = under c.args.row.now.b.now c.args.row.now.closed.now in
    let counted : c.loop-k.k-index ≡ length c.members_at-k-items.result.now = omega arith in
    let whole = terms-whole b (c.states_select_members.ensures.built _ _ c.requires.built) c.args.row.now.number c.args.col c.with_fewer.result c.members_at-k-items.result.now
    c.requires.row_in_range c.requires.col_in_range c.with_fewer.ensures c.members_at-k-items.ensures.numbers in
    sym (rw counted at c.loop-k.invariant.value) ∙ whole
