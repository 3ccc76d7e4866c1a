use Rattle.std.proofs.Common.{rules, ◌≡◌, ℕ, ◌+◌, ◌*◌, ◌<◌, length, set, ◌∙◌, refl, ap, subst, sym, arith, ℤ, FitsSigned, to_z, of_z, to_z-of_z}
use Rattle.std.specs.Int.{w128}
use Rattle.std.proofs.lemmas.Int.{to_z-of_z as bits_read}
use Rattle.std.proofs.lemmas.List.{length-set}
use Rattle.sym_blocks.specs.Matrix.{entry}
use Rattle.cholesky_laws.specs.Recurrence.{scaled_stiffness}
use Rattle.dense_front.specs.Square.{PutsFrom}
use Rattle.dense_front.proofs.SquareLemmas.{puts-none, puts-more, column-before}
use Rattle.dense_front.proofs.load.load_column.Goals as goal

pub loop-row-init : goal.loop-row-init
loop-row-init c = (refl, puts-none c.args.square.now _ _)

pub loop-row-preserved : goal.loop-row-preserved
loop-row-preserved c =
    let nodes = c.args.nodes.now in
    let row = c.loop-row.row in
    let start = 6 * length nodes * c.args.column in
    let cur = c.loop-row.square in
    let fits : FitsSigned w128 c.scaled_entry.result = search rules in
    let value = to_z-of_z fits ∙ c.scaled_entry.ensures in
    let inside : start + row < length cur = omega (arith, c.loop-row.invariant.0, c.requires.square_whole, column-before (6 * length nodes) c.args.column (6 * length nodes) row c.requires.column_in c.loop-row-test.true) in
    (length-set cur (start + row) _ ∙ c.loop-row.invariant.0, puts-more c.args.square.now cur start row (λ r. scaled_stiffness (entry c.args.k.now) nodes (to_z w128 (of_z w128 c.args.shift)) r c.args.column) _ inside c.loop-row.invariant.1 value)

pub returns-clause-put : goal.returns-clause-put
returns-clause-put c =
    let end : c.loop-row.row ≡ 6 * length c.args.nodes.now = omega arith in
    let P : ℕ → ℤ → Type 0 = λ n shift. PutsFrom c.args.square.now c.loop-row.square (6 * length c.args.nodes.now * c.args.column) n (λ r. scaled_stiffness (entry c.args.k.now) c.args.nodes.now shift r c.args.column) in
    subst (P (6 * length c.args.nodes.now)) (bits_read w128 c.args.shift c.ranges.shift) (subst (λ (n : ℕ). P n (to_z w128 (of_z w128 c.args.shift))) end c.loop-row.invariant.1)
