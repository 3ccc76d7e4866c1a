use Rattle.std.proofs.Common.{rules, arith, ap, refl, subst, ◌∙◌, ◌≡◌, ◌*ℤ◌, ◌+ℤ◌, get_or, to_z-of_z, to_z, of_z, pos, length, ℤ}
use Rattle.int_laws.proofs.Sums.{int_sums}
use mir.Syntax.{w64, w128}
use mir.Val.{SFits}
use Rattle.int_laws.specs.Matrices.{absolute}
use Rattle.certificate.specs.RowSums.{AddsProduct}
use Rattle.flex_num.specs.Guarded.{size_at}
use Rattle.factor_data.specs.Columns.{column_part}
use Rattle.certificate.proofs.ColumnLemmas.{column-value, column-sizes, column-beyond}
use Rattle.certificate.proofs.row_sums.RowSums.add_column.Goals as goal

-- what the code computed is the product itself
read-product : (p a b : ℤ) → SFits w64 a → SFits w64 b → SFits w128 p → p ≡ to_z w64 (of_z w64 a) *ℤ to_z w64 (of_z w64 b) → to_z w128 (of_z w128 p) ≡ a *ℤ b
read-product p a b fa fb fp e =
    to_z-of_z fp ∙ e ∙ ap (λ (z : ℤ). z *ℤ to_z w64 (of_z w64 b)) (to_z-of_z fa) ∙ ap (λ (z : ℤ). a *ℤ z) (to_z-of_z fb)

pub returns-then-not-add-clause-limit : goal.returns-then-not-add-clause-limit
returns-then-not-add-clause-limit c = λ _.
    let v = get_or c.args.values.now c.loop-place.place (pos 0) in
    let fv : SFits w64 (get_or c.args.values.now c.loop-place.place (pos 0)) = search rules in
    let fp : SFits w128 c.product.result = search rules in
    let product = read-product c.product.result c.args.factor v c.ranges.factor fv fp c.product.ensures.value in
    let at = get_or c.args.rows.now c.loop-place.place 0 in
    let inside = c.requires.in_range c.loop-place.place 0 c.loop-place-test.true in
    let stopped = c.if-not-add.ensures.limit refl in
    let size = ap absolute product in
    let factor = ap absolute (to_z-of_z c.ranges.factor) in
    let before = c.loop-place.invariant.size at inside ∙ ap (λ (z : ℤ). pos (size_at c.args.self.now at) +ℤ (z *ℤ column_part absolute c.loop-place.place c.args.rows.now c.args.values.now at)) factor in (
      ap length stopped.0 ∙ c.loop-place.invariant.same,
      column-beyond c.args.self.now c.loop-place.self c.args.rows.now c.args.values.now c.args.factor c.loop-place.place at inside c.loop-place-test.true refl before
          (omega (arith, int_sums, stopped.1, size)),
    )

pub loop-place-preserved : goal.loop-place-preserved
loop-place-preserved c =
    let v = get_or c.args.values.now c.loop-place.place (pos 0) in
    let fv : SFits w64 (get_or c.args.values.now c.loop-place.place (pos 0)) = search rules in
    let fp : SFits w128 c.product.result = search rules in
    let product = read-product c.product.result c.args.factor v c.ranges.factor fv fp c.product.ensures.value in
    let at = get_or c.args.rows.now c.loop-place.place 0 in
    let e = to_z-of_z c.ranges.factor in
    let P : ℤ → Type 0 = λ z. AddsProduct c.loop-place.self c.add.new.self (get_or c.args.rows.now c.loop-place.place 0) z in
    let adds = subst P product (c.if-not-add.ensures.added refl) in
    record {
      same = adds.length_kept ∙ c.loop-place.invariant.same;
      value = λ j inside. rw (to_z-of_z c.ranges.factor)
          (column-value c.args.self.now c.loop-place.self c.add.new.self c.args.rows.now c.args.values.now c.args.factor c.loop-place.place at j inside adds refl
          (rw (to_z-of_z c.ranges.factor) at c.loop-place.invariant.value j inside));
      size = λ j inside. rw (to_z-of_z c.ranges.factor)
          (column-sizes c.args.self.now c.loop-place.self c.add.new.self c.args.rows.now c.args.values.now c.args.factor c.loop-place.place at j inside adds refl
          (rw (to_z-of_z c.ranges.factor) at c.loop-place.invariant.size j inside));
    }
