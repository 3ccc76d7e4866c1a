use Rattle.std.proofs.Common.{◌≡◌, ℕ, suc, ◌+◌, ◌*◌, ◌<◌, ◌≤◌, arith, sym, refl, ℤ, ap}
use Rattle.cholesky_laws.specs.Fronts.{lower_entry}
use Rattle.dense_front.specs.Square.{at_square, triangle_of}
use Rattle.dense_front.proofs.ValueLemmas.{own-breaks, row-breaks, nothing-breaks, left-is, low_row-some, low_row-none}
use Rattle.dense_front.proofs.SpaceLemmas.{left-fits}
use Rattle.dense_front.proofs.eliminate.eliminate_square.Goals as goal

pub returns-in-Some-clause-breakdown : goal.returns-in-Some-clause-breakdown
returns-in-Some-clause-breakdown c f =
    let size = 6 * c.args.later + 6 in
    own-breaks f (suc c.args.later) size (lower_entry (triangle_of size c.args.square.now)) c.in-Some.breakdown (omega arith) c.in-Some.ensures.value

pub has_low_row-requires-clause-small : goal.has_low_row-requires-clause-small
has_low_row-requires-clause-small c r from rl =
    let size = 6 * c.args.later + 6 in
    left-fits size c.args.square.now c.take_products.new.square c.eliminate_own.new.entries c.in_default.ensures.whole c.in_default.ensures.small r rl (c.requires.small r r (omega arith) rl) (c.take_products.ensures.taken r r from (omega arith) rl)

pub returns-then-has_low_row-clause-breakdown : goal.returns-then-has_low_row-clause-breakdown
returns-then-has_low_row-clause-breakdown c f =
    let size = 6 * c.args.later + 6 in
    let w = lower_entry (triangle_of size c.args.square.now) in
    let left = left-is c.fronts_follow_the_recurrence.ensures.triangles size c.args.square.now c.take_products.new.square c.eliminate_own.new.entries c.in_default.ensures.value c.take_products.ensures.taken in
    let (r, from, rl, wide) = c.if-has_low_row.ensures in
    row-breaks f (suc c.args.later) size w (omega arith) (λ d dl. c.in_default.ensures.value.pivots d dl (omega arith)) (low_row-some w size c.take_products.new.square left r from rl wide)

pub returns-else-has_low_row-clause-breakdown : goal.returns-else-has_low_row-clause-breakdown
returns-else-has_low_row-clause-breakdown c f =
    let size = 6 * c.args.later + 6 in
    let w = lower_entry (triangle_of size c.args.square.now) in
    let left = left-is c.fronts_follow_the_recurrence.ensures.triangles size c.args.square.now c.take_products.new.square c.eliminate_own.new.entries c.in_default.ensures.value c.take_products.ensures.taken in
    nothing-breaks f (suc c.args.later) size w c.eliminate_own.new.entries (omega arith) (omega arith) c.in_default.ensures.whole c.in_default.ensures.value (low_row-none w size c.take_products.new.square left c.if-has_low_row.ensures)

pub returns-else-has_low_row-clause-left : goal.returns-else-has_low_row-clause-left
returns-else-has_low_row-clause-left c e =
    left-is c.fronts_follow_the_recurrence.ensures.triangles (6 * c.args.later + 6) c.args.square.now c.take_products.new.square c.eliminate_own.new.entries c.in_default.ensures.value c.take_products.ensures.taken
