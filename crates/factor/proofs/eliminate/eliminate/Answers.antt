use Rattle.std.proofs.Common.{◌≡◌, ℕ, ◌+◌, ◌*◌, ◌/◌, ◌%◌, ap, subst, arith, get_or, length, List, ℤ, pos, Some, None, to_z, of_z}
use Rattle.std.specs.Int.{w128}
use Rattle.std.proofs.lemmas.Int.{ints}
use Rattle.factor.proofs.CastLemmas.{wide_is}
use Rattle.factor.proofs.EliminateLemmas.{IsEntryAnswer, at_row, from_row, answer_at, pivot_positive, entry_more, pivot_broken, wide_entry, pushed_is}
use Rattle.factor.proofs.eliminate.eliminate.Goals as goal

pub panel_entry-requires-clause-pivot : goal.panel_entry-requires-clause-pivot
panel_entry-requires-clause-pivot c lt = rw c.deref.ensures.value (pivot_positive c.recurrence_keeps_laws.ensures c.loop-s.s c.loop-s.invariant lt)

pub returns-in-None : goal.returns-in-None
returns-in-None c =
    let s = c.loop-s.s in
    let left = get_or c.args.work.now s (pos 0) in
    let read = wide_is left (omega (arith, c.requires.small s (pos 0) c.loop-s-test.true)) in
    let P : List ℤ → Type 0 = λ xs. IsEntryAnswer (to_z w128 (of_z w128 left)) xs (s / 6) (s % 6) None in
    let answer = answer_at c.args.work.now s _ read (subst P c.deref.ensures.value (record { above = c.in-None.ensures.above; own = c.in-None.ensures.own; below = c.in-None.ensures.below })) in
    let broken = pivot_broken c.recurrence_keeps_laws.ensures (s / 6) (s % 6) c.requires.diagonal (at_row s c.loop-s.invariant) (omega arith) (omega arith) answer in
    (omega arith, broken.0, broken.1)

pub returns-in-None-2 : goal.returns-in-None-2
returns-in-None-2 c =
    let s = c.loop-s.s in
    let left = get_or c.args.work.now s (pos 0) in
    let read = wide_is left (omega (arith, c.requires.small s (pos 0) c.loop-s-test.true)) in
    let P : List ℤ → Type 0 = λ xs. IsEntryAnswer (to_z w128 (of_z w128 left)) xs (s / 6) (s % 6) None in
    let answer = answer_at c.args.work.now s _ read (subst P c.deref.ensures.value (record { above = c.in-None-2.ensures.above; own = c.in-None-2.ensures.own; below = c.in-None-2.ensures.below })) in
    let large = wide_entry c.recurrence_keeps_laws.ensures (s / 6) (s % 6) (at_row s c.loop-s.invariant) (omega arith) (omega arith) answer in
    (λ d lt. c.loop-s.invariant.pivots d lt (omega arith), (s, omega arith, c.loop-s-test.true, large))

pub loop-s-preserved : goal.loop-s-preserved
loop-s-preserved c =
    let s = c.loop-s.s in
    let left = get_or c.args.work.now s (pos 0) in
    let read = wide_is left (omega (arith, c.requires.small s (pos 0) c.loop-s-test.true)) in
    let P : List ℤ → Type 0 = λ xs. IsEntryAnswer (to_z w128 (of_z w128 left)) xs (s / 6) (s % 6) (Some c.in-Some.entry) in
    let answer = answer_at c.args.work.now s _ read (subst P c.deref.ensures.value (record { above = c.in-Some.ensures.above; own = c.in-Some.ensures.own; below = c.in-Some.ensures.below })) in
    let done = from_row s (entry_more c.recurrence_keeps_laws.ensures (s / 6) (s % 6) c.in-Some.entry c.requires.diagonal (at_row s c.loop-s.invariant) (omega arith) answer) in
    rw (c.in_ok-push-in-Some.ensures.items, pushed_is c.loop-s.entries.items c.in-Some.entry done) done

pub panel_entry-requires-clause-small : goal.panel_entry-requires-clause-small
panel_entry-requires-clause-small c = rw c.deref.ensures.value c.loop-s.invariant.small

pub panel_entry-requires-clause-left_small : goal.panel_entry-requires-clause-left_small
panel_entry-requires-clause-left_small c = omega (arith, ints, c.requires.small c.loop-s.s (pos 0) c.loop-s-test.true)

pub panel_entry-requires-clause-diagonal : goal.panel_entry-requires-clause-diagonal
panel_entry-requires-clause-diagonal c same =
    let s = c.loop-s.s in
    let own : get_or c.args.work.now (6 * (s % 6) + s % 6) (pos 0) ≡ get_or c.args.work.now s (pos 0) = ap (λ (k : ℕ). get_or c.args.work.now k (pos 0)) (omega (arith, same)) in
    omega (arith, ints, own, c.requires.diagonal (s % 6) (omega arith), c.requires.small s (pos 0) c.loop-s-test.true)

pub returns : goal.returns
returns c =
    let done = c.loop-s.invariant in
    let end : c.loop-s.s ≡ length c.args.work.now = omega arith in
    record {
      whole = omega (arith, done.count, end);
      values = λ s inside. done.values s (omega (arith, inside, end));
      small = done.small;
      pivots = λ k own. done.pivots k own (omega (arith, own, end, c.requires.own));
    }
