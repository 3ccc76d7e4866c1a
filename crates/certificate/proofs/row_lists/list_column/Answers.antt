use Rattle.std.proofs.Common.{rules, arith, ap, refl, ◌∙◌, ◌<◌, ◌++◌, ◌∷◌, [], get_or, to_z-of_z, to_z, of_z, pos, length, List}
use Rattle.std.proofs.Math.ListN.{length-set}
use Rattle.std.proofs.lemmas.List.{get_or_default}
use mir.Syntax.{w64}
use mir.Val.{SFits}
use Rattle.certificate.specs.declared.row_lists.RowEntry.{RowEntry}
use Rattle.int_laws.specs.Matrices.{absolute}
use Rattle.certificate.proofs.RowListLemmas.{lists-step}
use Rattle.certificate.proofs.row_lists.list_column.Goals as goal

pub loop-place-preserved : goal.loop-place-preserved
loop-place-preserved c =
    let lists = c.loop-place.lists in
    let at = get_or c.args.rows.now c.loop-place.place 0 in
    let fv : SFits w64 (get_or c.args.values.now c.loop-place.place (pos 0)) = search rules in
    let inside : get_or c.args.rows.now c.loop-place.place 0 < length c.loop-place.lists = omega (arith, c.requires.in_range c.loop-place.place 0 c.loop-place-test.true, c.loop-place.invariant.same) in
    let e : RowEntry = record { column = c.args.column; value = to_z w64 (of_z w64 (get_or c.args.values.now c.loop-place.place (pos 0))) } in
    let pushed = c.in_ok-push.ensures.ok ∙ ap (λ (r : List RowEntry). r ++ e ∷ []) (get_or_default lists at c.index-lists-rows.result [] inside) in
    record {
      same = length-set lists at _ ∙ c.loop-place.invariant.same;
      value = λ i x k. lists-step (λ z. z) c.args.lists.now lists c.push.new.self e c.args.column c.args.rows.now c.args.values.now c.loop-place.place at inside pushed refl (to_z-of_z fv) refl i x (c.loop-place.invariant.value i x k);
      size = λ i x k. lists-step absolute c.args.lists.now lists c.push.new.self e c.args.column c.args.rows.now c.args.values.now c.loop-place.place at inside pushed refl (to_z-of_z fv) refl i x (c.loop-place.invariant.size i x k);
    }
