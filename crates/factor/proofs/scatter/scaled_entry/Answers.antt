use Rattle.std.proofs.Common.{◌≡◌, ◌<◌, ◌∙◌, ap, sym, arith, ℕ, pos, ◌^◌, ◌-ℤ◌, ◌*ℤ◌, cond, ℤ, List}
use Rattle.std.specs.Int.RustNames.{unsigned_abs}
use Rattle.std.proofs.lemmas.Int.{ints}
use Rattle.std.proofs.lemmas.List.{get_or_default}
use Rattle.std.proofs.lemmas.Bool.{eq-eqb, ne_eqb}
use Rattle.int_laws.proofs.Sums.{int_sums}
use Rattle.sym_blocks.specs.Matrix.{entry}
use Rattle.cholesky_laws.specs.Recurrence.{scaled_stiffness}
use Rattle.lists.specs.Rows.{freedom_at}
use Rattle.factor.proofs.CastLemmas.{scaled_less, scaled_whole}
use Rattle.factor.proofs.scatter.scaled_entry.Goals as goal

-- an entry that is read at the freedoms of two positions
entry_read : {z : ℤ} {row column : ℕ} (km : ℕ → ℕ → ℤ) (order : List ℕ) (i j : ℕ) → z ≡ km row column → row ≡ freedom_at order i → column ≡ freedom_at order j → z ≡ km (freedom_at order i) (freedom_at order j)
entry_read km order i j read at_row at_column = cc

pub returns-then-i-j : goal.returns-then-i-j
unfolding scaled_stiffness
returns-then-i-j c =
    let p = c.args.problem.now in
    let km = entry p.matrix.now in
    let i = c.args.i in
    let j = c.args.j in
    let at = entry_read km p.order.now i j c.get-stiffness.ensures.value c.freedom.ensures c.freedom-2.ensures in
    let small : unsigned_abs c.get-stiffness.result < 2 ^ 60 = rw at (c.requires.problem.small (freedom_at p.order.now i) (freedom_at p.order.now j)) in
    scaled_less c.get-stiffness.result p.shift small (omega (arith, int_sums, c.requires.problem.shift_low, c.requires.problem.shift_high))
    ∙ ap (λ z. pos (2 ^ 52) *ℤ (z -ℤ p.shift)) at
    ∙ ap (λ t. pos (2 ^ 52) *ℤ (km (freedom_at p.order.now i) (freedom_at p.order.now j) -ℤ cond t p.shift (pos 0))) (sym (eq-eqb i j c.if-i-j.true))

pub returns-else-i-j : goal.returns-else-i-j
unfolding scaled_stiffness
returns-else-i-j c =
    let p = c.args.problem.now in
    let km = entry p.matrix.now in
    let i = c.args.i in
    let j = c.args.j in
    let at = entry_read km p.order.now i j c.get-stiffness.ensures.value c.freedom.ensures c.freedom-2.ensures in
    let small : unsigned_abs c.get-stiffness.result < 2 ^ 60 = rw at (c.requires.problem.small (freedom_at p.order.now i) (freedom_at p.order.now j)) in
    scaled_whole c.get-stiffness.result small
    ∙ ap (λ z. pos (2 ^ 52) *ℤ (z -ℤ pos 0)) at
    ∙ ap (λ t. pos (2 ^ 52) *ℤ (km (freedom_at p.order.now i) (freedom_at p.order.now j) -ℤ cond t p.shift (pos 0))) (sym (ne_eqb i j c.if-i-j.false))

pub freedom-requires-clause-small : goal.freedom-requires-clause-small
freedom-requires-clause-small c = λ k d inside.
    let order = c.args.problem.now.order.now in
    omega (arith, c.requires.problem.ordered.spread.in_range k inside, c.requires.problem.few, get_or_default order k d 0 inside)

pub freedom-requires-2-clause-small : goal.freedom-requires-2-clause-small
freedom-requires-2-clause-small c = λ k d inside.
    let order = c.args.problem.now.order.now in
    omega (arith, c.requires.problem.ordered.spread.in_range k inside, c.requires.problem.few, get_or_default order k d 0 inside)

pub overflow_sub-result : goal.overflow_sub-result
overflow_sub-result c =
    let small = c.requires.problem.small c.freedom.result c.freedom-2.result in
    omega (arith, ints, c.get-stiffness.ensures.value, small, c.requires.problem.shift_low, c.requires.problem.shift_high)

pub overflow_mul-result : goal.overflow_mul-result
overflow_mul-result c =
    let small = c.requires.problem.small c.freedom.result c.freedom-2.result in
    omega (arith, ints, c.get-stiffness.ensures.value, small, c.requires.problem.shift_low, c.requires.problem.shift_high)

pub overflow_mul-result-else-i-j : goal.overflow_mul-result-else-i-j
overflow_mul-result-else-i-j c =
    let small = c.requires.problem.small c.freedom.result c.freedom-2.result in
    omega (arith, ints, c.get-stiffness.ensures.value, small)
