use Rattle.std.proofs.Common.{◌≡◌, ◌/◌, ◌<◌, ◌∙◌, sym, refl, arith, length, get_or, ap, true}
use Rattle.std.proofs.lemmas.List.{get_or_read_under}
use Rattle.flex_interval.specs.Ends.{Ends}
use Rattle.member_set.specs.declared.members.Member.{Member}
use Rattle.member_set.specs.Members.{touches, member_of, no_member, force_of, built_nodes, nothing, shape_at}
use Rattle.assembly.proofs.UnderStates.{members_under, pair_both, pair_off_row, pair_off_col}
use Rattle.assembly.proofs.Walks.{ok}
use Rattle.assembly.proofs.entries.member_entry.Goals as goal
use Rattle.assembly.proofs.entries.member_entry.Goals.{else-touches-via-then-touches+else-touches-2, else-touches-via-else-touches}

pub bounds-row-k : goal.bounds-row-k
bounds-row-k c = rw (c.requires.scaled.one_each, members_under c.args.row.now.b.now c.args.row.now.closed.now) c.requires.member_in_range

pub returns-then-touches-2 : goal.returns-then-touches-2
returns-then-touches-2 c =
    let b = c.args.row.now.b.now in
    let m = c.index-as_slice-k.result in
    let listed : m ≡ get_or b.members c.args.k m = rw (← c.as_slice.ensures) c.index-as_slice-k.is in
    let member_is : m ≡ member_of b c.args.k = get_or_read_under b.members c.args.k _ m no_member listed c.requires.member_in_range refl in
    let first : touches (member_of b c.args.k) (c.args.row.now.number / 6) ≡ true = rw (← member_is) (sym c.touches.ensures ∙ c.if-touches.true) in
    let second : touches (member_of b c.args.k) (c.args.col / 6) ≡ true = rw (← member_is) (sym c.touches-then-touches.ensures ∙ c.if-touches-2.true) in
    let in_list : c.args.k < length c.args.row.now.scaled.now = rw (c.requires.scaled.one_each, members_under b c.args.row.now.closed.now) c.requires.member_in_range in
    let place : c.index-row-k.result ≡ force_of c.args.row.now.scaled.now c.args.k = get_or_read_under c.args.row.now.scaled.now c.args.k _ c.index-row-k.result nothing c.index-row-k.is in_list refl in
    let shape_is = c.shape.ensures ∙ ap (λ (x : Member). shape_at x c.args.col) member_is in
    let node_inside : c.args.row.now.number / 6 < built_nodes b = (let inside = c.requires.row_in_range in omega (arith, inside)) in
    rw (
      pair_both b c.args.row.now.closed.now c.requires.built c.args.row.now.number c.args.col c.args.k c.args.row.now.scaled.now node_inside c.requires.scaled
          c.requires.member_in_range first second,
      ← shape_is,
      ← place,
    )
    (rw (← c.index-row-k.is) at c.mul.ensures.value)

pub returns-else-touches : goal.returns-else-touches
returns-else-touches c =
    let b = c.args.row.now.b.now in
    let m = c.index-as_slice-k.result in
    let listed : m ≡ get_or b.members c.args.k m = rw (← c.as_slice.ensures) c.index-as_slice-k.is in
    let member_is : m ≡ member_of b c.args.k = get_or_read_under b.members c.args.k _ m no_member listed c.requires.member_in_range refl in
    let none = ap (λ (e : Ends). ok e) c.point.ensures.value in
    none
    ∙ sym (elim c.else-touches.branch [
      | else-touches-via-then-touches+else-touches-2 w ↦
          pair_off_col b c.args.row.now.closed.now c.args.row.now.number c.args.col c.args.k c.requires.member_in_range
          (rw (← member_is) (sym w.touches-then-touches.ensures ∙ w.if-touches-2.false))
      | else-touches-via-else-touches w ↦
          pair_off_row b c.args.row.now.closed.now c.args.row.now.number c.args.col c.args.k c.requires.member_in_range
          (rw (← member_is) (sym c.touches.ensures ∙ w.if-touches.false))
    ])
