use Rattle.std.proofs.Common.{arith, ap, ◌≢◌, ℤ, ◌+ℤ◌, ◌+◌, sym, ◌∙◌, ◌<◌, length, to_z-of_z, unsigned_abs}
use Rattle.std.proofs.lemmas.Int.{ints}
use Rattle.flex_num.specs.declared.guarded.GuardedSum.{GuardedSum}
use Rattle.certificate.proofs.RowSumLemmas.{tracked-room, tracked-noted, adds-product, read_as}
use Rattle.certificate.proofs.row_sums.RowSums.add.Goals as goal

pub note-requires : goal.note-requires
note-requires c = λ none.
    let sums = c.self.inside.sums.items in
    let inside : c.args.at < length sums = rw c.self.view_is c.requires in
    let read = read_as sums c.args.at c.index-sum.result.now inside c.index-sum.ensures in
    let room = tracked-room sums _ _ c.args.at c.self.invariant inside (ap (λ (s : GuardedSum). s.size) read ∙ none) in
    omega (arith, room, c.self.inside.touched.ok)

pub invariant_of-self : goal.invariant_of-self
invariant_of-self c =
    let sums = c.self.inside.sums.items in
    let inside : c.args.at < length sums = rw c.self.view_is c.requires in
    let read = read_as sums c.args.at c.index-sum.result.now inside c.index-sum.ensures in
    let size = ap (λ (s : GuardedSum). s.size) read in
    let more : c.in-Some.more.size ≢ 0 = λ none. absurd (omega (arith, ints, c.in-Some.ensures.1, none)) in
    rw c.note.ensures.capacity
    (tracked-noted sums c.self.inside.touched.items c.note.new.touched.items _ c.args.at c.in-Some.more c.self.invariant inside more
    (λ none. c.note.ensures.first (sym size ∙ none)) (λ some. c.note.ensures.again (λ none. some (size ∙ none))))

pub returns-clause-added : goal.returns-clause-added
returns-clause-added c = λ _.
    let sums = c.self.inside.sums.items in
    let inside : c.args.at < length sums = rw c.self.view_is c.requires in
    let old = c.index-sum.result.now in
    let read = read_as sums c.args.at old inside c.index-sum.ensures in
    let e = to_z-of_z c.ranges.product in
    rw (← c.self.view_is)
    (adds-product sums c.args.at old c.in-Some.more c.args.product inside read
    (c.in-Some.ensures.0 ∙ ap (λ (z : ℤ). old.value +ℤ z) e)
    (c.in-Some.ensures.1 ∙ ap (λ (z : ℤ). old.size + unsigned_abs z) e))
