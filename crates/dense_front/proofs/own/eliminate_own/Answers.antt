use Rattle.std.proofs.Common.{◌≡◌, ℕ, ◌+◌, ◌*◌, ◌/◌, ◌%◌, ◌<◌, ◌≤◌, ◌^◌, ◌∙◌, ap, sym, subst, arith, get_or, length, List, ℤ, pos, ◌<ℤ◌, Some, None, to_z, of_z, unsigned_abs}
use Rattle.std.proofs.lemmas.Int.{ints}
use Rattle.std.proofs.lemmas.List.{length-set}
use Rattle.cholesky_laws.specs.Fronts.{lower_entry}
use Rattle.cholesky_laws.specs.FrontLaws.{FrontLaws}
use Rattle.dense_front.specs.Square.{at_square, triangle_of}
use Rattle.dense_front.specs.Own.{IsOwnTo}
use Rattle.dense_front.proofs.OwnLemmas.{IsBounded, IsEntryAnswer, place_is, at_row, from_row, answer_in, pivot_positive, entry_more, pivot_broken, wide_entry, written_is}
use Rattle.dense_front.proofs.own.eliminate_own.Goals as goal

-- the triangle has the square's numbers on and below its diagonal
same_entry : FrontLaws → (size : ℕ) (square : List ℤ) (r c : ℕ) → r < size → c ≤ r → at_square size square r c ≡ lower_entry (triangle_of size square) r c
same_entry laws size square r c rl le = sym (laws.triangles.inside size size (at_square size square) r c (omega arith) le rl)

bounded : FrontLaws → (size : ℕ) (square : List ℤ) → 6 ≤ size → ((c : ℕ) → c < 6 → at_square size square c c <ℤ pos (2 ^ 113)) → IsBounded (lower_entry (triangle_of size square))
bounded laws size square own low c cl = rw (← same_entry laws size square c c (omega arith) (omega arith)) (low c cl)

pub loop-s-init : goal.loop-s-init
loop-s-init c = (c.requires.entries_whole, record { values = λ t lt. absurd (omega arith); small = c.requires.entries_small; pivots = λ d dl lt. absurd (omega arith) })

pub next_entry-requires-clause-small : goal.next_entry-requires-clause-small
next_entry-requires-clause-small c = c.loop-s.invariant.1.small

pub next_entry-requires-clause-left_small : goal.next_entry-requires-clause-left_small
next_entry-requires-clause-left_small c le = c.requires.small (c.loop-s.s / 6) (c.loop-s.s % 6) le (omega arith)

pub next_entry-requires-clause-diagonal : goal.next_entry-requires-clause-diagonal
next_entry-requires-clause-diagonal c same =
    subst (λ (r : ℕ). at_square c.args.size c.args.square.now r (c.loop-s.s % 6) <ℤ pos (2 ^ 113)) (sym same) (c.requires.diagonal (c.loop-s.s % 6) (omega arith))

pub next_entry-requires-clause-pivot : goal.next_entry-requires-clause-pivot
next_entry-requires-clause-pivot c lt = pivot_positive c.recurrence_keeps_laws.ensures c.loop-s.s c.loop-s.invariant.1 lt

pub returns-in-None : goal.returns-in-None
returns-in-None c =
    let s = c.loop-s.s in
    let laws = c.fronts_follow_the_recurrence.ensures in
    let size = c.args.size in
    let square = c.args.square.now in
    let answer = answer_in (at_square size square (s / 6) (s % 6)) (lower_entry (triangle_of size square) (s / 6) (s % 6)) (s / 6) (s % 6) (λ le. same_entry laws size square (s / 6) (s % 6) (omega arith) le)
    (record { above = c.in-None.ensures.above; own = c.in-None.ensures.own; below = c.in-None.ensures.below }) in
    let broken = pivot_broken c.recurrence_keeps_laws.ensures (s / 6) (s % 6) (bounded laws size square c.requires.own c.requires.diagonal) (at_row s c.loop-s.invariant.1) (omega arith) (omega arith) answer in
    record { whole = c.loop-s.invariant.0; small = c.loop-s.invariant.1.small; value = (omega arith, broken.0, broken.1) }

pub returns-in-None-2 : goal.returns-in-None-2
returns-in-None-2 c =
    let s = c.loop-s.s in
    let laws = c.fronts_follow_the_recurrence.ensures in
    let size = c.args.size in
    let square = c.args.square.now in
    let answer = answer_in (at_square size square (s / 6) (s % 6)) (lower_entry (triangle_of size square) (s / 6) (s % 6)) (s / 6) (s % 6) (λ le. same_entry laws size square (s / 6) (s % 6) (omega arith) le)
    (record { above = c.in-None-2.ensures.above; own = c.in-None-2.ensures.own; below = c.in-None-2.ensures.below }) in
    let large = wide_entry c.recurrence_keeps_laws.ensures (s / 6) (s % 6) (at_row s c.loop-s.invariant.1) (omega arith) (omega arith) answer in
    record { whole = c.loop-s.invariant.0; small = c.loop-s.invariant.1.small; value = (λ d lt. c.loop-s.invariant.1.pivots d lt (omega arith), (s, omega arith, c.loop-s-test.true, large)) }

pub loop-s-preserved : goal.loop-s-preserved
loop-s-preserved c =
    let s = c.loop-s.s in
    let laws = c.fronts_follow_the_recurrence.ensures in
    let size = c.args.size in
    let square = c.args.square.now in
    let x = c.in-Some.entry in
    let answer = answer_in (at_square size square (s / 6) (s % 6)) (lower_entry (triangle_of size square) (s / 6) (s % 6)) (s / 6) (s % 6) (λ le. same_entry laws size square (s / 6) (s % 6) (omega arith) le)
    (record { above = c.in-Some.ensures.above; own = c.in-Some.ensures.own; below = c.in-Some.ensures.below }) in
    let done = from_row c.loop-s.entries s x (entry_more c.recurrence_keeps_laws.ensures (s / 6) (s % 6) x (bounded laws size square c.requires.own c.requires.diagonal) (at_row s c.loop-s.invariant.1) (omega arith) (omega (arith, c.loop-s.invariant.0)) answer) in
    rw (written_is c.loop-s.entries s x (omega (arith, c.loop-s.invariant.0)) done) (length-set c.loop-s.entries s x ∙ c.loop-s.invariant.0, done)

pub returns : goal.returns
returns c =
    let end : c.loop-s.s ≡ 6 * c.args.size = omega arith in
    record {
      whole = c.loop-s.invariant.0;
      small = c.loop-s.invariant.1.small;
      value = subst (λ (n : ℕ). IsOwnTo (lower_entry (triangle_of c.args.size c.args.square.now)) n c.loop-s.entries) end c.loop-s.invariant.1;
    }
