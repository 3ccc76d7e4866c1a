use Rattle.std.proofs.Common.{rules, arith, refl, subst, ◌∙◌, get_or, ℕ, List, Contains, to_z-of_z}
use Rattle.std.proofs.lemmas.List.{get_or_default}
use mir.Syntax.{w64}
use mir.Val.{SFits}
use Rattle.certificate.specs.RowLists.{no_entry}
use Rattle.certificate.proofs.RowLemmas.{adds-entry, row-beyond, sums-row}
use Rattle.certificate.proofs.check.add_row.Goals as goal

pub add_column-requires-clause-in_range : goal.add_column-requires-clause-in_range
add_column-requires-clause-in_range c = λ k d inside.
    let row = get_or c.column.result.0.now k d in
    let P : List ℕ → Type 0 = λ xs. Contains xs (get_or c.column.result.0.now k d) in
    let listed = subst P c.column.ensures.rows (k, inside, get_or_default c.column.result.0.now k row d inside) in
    omega (arith, c.column.ensures.kept.in_range row _ listed, c.loop-entry.invariant.same, c.requires.positions)

pub returns-then-not-add_column-clause-limit : goal.returns-then-not-add_column-clause-limit
returns-then-not-add_column-clause-limit c = λ _.
    let fits : SFits w64 (get_or c.args.row.now c.loop-entry.entry-index no_entry).value = search rules in
    let stopped = c.if-not-add_column.ensures.limit refl in
    row-beyond c.args.g.now c.args.row.now c.loop-entry.entry-index c.loop-entry.sums _ _ _ stopped.1 c.column.ensures.rows c.column.ensures.values (to_z-of_z fits)
    c.loop-entry-test.true (c.loop-entry.invariant.same ∙ c.requires.positions) c.loop-entry.invariant.size

pub loop-entry-preserved : goal.loop-entry-preserved
loop-entry-preserved c =
    let fits : SFits w64 (get_or c.args.row.now c.loop-entry.entry-index no_entry).value = search rules in
    let added = c.if-not-add_column.ensures.added refl in
    let step = adds-entry c.args.g.now c.args.row.now c.loop-entry.entry-index c.loop-entry.sums c.add_column.new.self _ _ _ added c.column.ensures.rows c.column.ensures.values (to_z-of_z fits) in
    record {
      same = added.length_kept ∙ c.loop-entry.invariant.same;
      value = λ j inside. step.value j (omega (arith, inside, added.length_kept)) (c.loop-entry.invariant.value j (omega (arith, inside, added.length_kept)));
      size = λ j inside. step.size j (omega (arith, inside, added.length_kept)) (c.loop-entry.invariant.size j (omega (arith, inside, added.length_kept)));
    }

pub returns-clause-summed : goal.returns-clause-summed
returns-clause-summed c = λ _.
    sums-row c.args.g.now c.args.row.now c.loop-entry.entry-index c.loop-entry.sums c.loop-entry.auto.entry-index-end c.loop-entry-test.false c.loop-entry.invariant.value c.loop-entry.invariant.size
