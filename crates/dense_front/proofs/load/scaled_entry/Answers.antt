use Rattle.std.proofs.Common.{◌≡◌, ◌<◌, ◌∙◌, ap, sym, arith, ℕ, pos, ◌^◌, ◌-ℤ◌, ◌*ℤ◌, cond, ℤ, List}
use Rattle.std.specs.Int.RustNames.{unsigned_abs}
use Rattle.std.proofs.lemmas.Bool.{eq-eqb, ne_eqb}
use Rattle.int_laws.proofs.Sums.{int_sums}
use Rattle.sym_blocks.specs.Matrix.{entry}
use Rattle.cholesky_laws.specs.Recurrence.{scaled_stiffness}
use Rattle.lists.specs.Rows.{freedom_at}
use Rattle.dense_front.proofs.CastLemmas.{scaled_less, scaled_whole}
use Rattle.dense_front.proofs.load.scaled_entry.Goals as goal

-- an entry that is read at the freedoms of two rows
entry_read : {z : ℤ} {row column : ℕ} (km : ℕ → ℕ → ℤ) (nodes : List ℕ) (i j : ℕ) → z ≡ km row column → row ≡ freedom_at nodes i → column ≡ freedom_at nodes j → z ≡ km (freedom_at nodes i) (freedom_at nodes j)
entry_read km nodes i j read at_row at_column = cc

pub returns-then-row-column : goal.returns-then-row-column
unfolding scaled_stiffness
returns-then-row-column c =
    let km = entry c.args.k.now in
    let nodes = c.args.nodes.now in
    let i = c.args.row in
    let j = c.args.column in
    let shift = c.args.shift in
    let at = entry_read km nodes i j c.get-stiffness.ensures.value c.freedom.ensures c.freedom-2.ensures in
    let small : unsigned_abs c.get-stiffness.result < 2 ^ 60 = rw at (c.requires.load.small (freedom_at nodes i) (freedom_at nodes j)) in
    scaled_less c.get-stiffness.result shift small (omega (arith, int_sums, c.requires.load.shift_low, c.requires.load.shift_high))
    ∙ ap (λ z. pos (2 ^ 52) *ℤ (z -ℤ shift)) at
    ∙ ap (λ t. pos (2 ^ 52) *ℤ (km (freedom_at nodes i) (freedom_at nodes j) -ℤ cond t shift (pos 0))) (sym (eq-eqb i j c.if-row-column.true))

pub returns-else-row-column : goal.returns-else-row-column
unfolding scaled_stiffness
returns-else-row-column c =
    let km = entry c.args.k.now in
    let nodes = c.args.nodes.now in
    let i = c.args.row in
    let j = c.args.column in
    let shift = c.args.shift in
    let at = entry_read km nodes i j c.get-stiffness.ensures.value c.freedom.ensures c.freedom-2.ensures in
    let small : unsigned_abs c.get-stiffness.result < 2 ^ 60 = rw at (c.requires.load.small (freedom_at nodes i) (freedom_at nodes j)) in
    scaled_whole c.get-stiffness.result small
    ∙ ap (λ z. pos (2 ^ 52) *ℤ (z -ℤ pos 0)) at
    ∙ ap (λ t. pos (2 ^ 52) *ℤ (km (freedom_at nodes i) (freedom_at nodes j) -ℤ cond t shift (pos 0))) (sym (ne_eqb i j c.if-row-column.false))
