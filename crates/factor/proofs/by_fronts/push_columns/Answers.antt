use Rattle.std.proofs.Common.{◌≡◌, ℕ, ◌+◌, ◌-◌, ◌*◌, ◌<◌, ◌≤◌, List, [], ◌∷◌, ◌++◌, length, get_or, set, take, drop, ◌∙◌, ap, sym, refl, subst, arith, append-nil, ℤ, Vec, Global}
use Rattle.std.proofs.lemmas.List.{map_push, take_all, length-drop}
use Rattle.lists.specs.Lists.{contents, list_of}
use Rattle.elim_tree.specs.Fronts.{rows_at}
use Rattle.factor.specs.Columns.{AreColumnRows}
use Rattle.factor.proofs.PushLemmas.{ArePushed, pushed-more, pushed-rows, pushed-values, rows-read, length-rows, rows-from_column}
use Rattle.factor.proofs.by_fronts.push_columns.Goals as goal

pub loop-c-init : goal.loop-c-init
loop-c-init c =
    record {
      count = omega arith;
      before = λ i lt. refl;
      rows_are = λ d lt. absurd (omega arith);
      values_are = sym (append-nil (contents c.args.values.now.items));
      left_count = c.requires.columns;
      left_are = λ d le. refl;
    }

pub slice_bounds-from_slice-count : goal.slice_bounds-from_slice-count
slice_bounds-from_slice-count c =
    omega (arith, c.loop-c-test.true, ap (λ (xs : List ℕ). length xs) (c.rows.ensures ∙ rows-read c.args.t.now c.args.f c.requires.front), length-rows (c.args.f ∷ list_of c.args.t.now.later c.args.f))

pub slice_bounds-from_slice-start : goal.slice_bounds-from_slice-start
slice_bounds-from_slice-start c =
    omega (arith, c.loop-c-test.true, ap (λ (xs : List ℕ). length xs) (c.rows.ensures ∙ rows-read c.args.t.now c.args.f c.requires.front), length-rows (c.args.f ∷ list_of c.args.t.now.later c.args.f))

pub loop-c-preserved : goal.loop-c-preserved
loop-c-preserved c =
    let places = c.args.f ∷ list_of c.args.t.now.later c.args.f in
    let column = c.loop-c.c in
    let r = c.in_ok-from_slice.field-0 in
    let rows_are = ap (λ (vs : List (Vec ℕ Global)). contents vs) c.in_ok-push.ensures.items ∙ map_push (λ (x : Vec ℕ Global). x.items) c.loop-c.rows.items r in
    let values_are = ap (λ (vs : List (Vec ℤ Global)). contents vs) c.in_ok-push-2.ensures.items ∙ map_push (λ (x : Vec ℤ Global). x.items) c.loop-c.values.items c.take.result in
    let rows_all = c.rows.ensures ∙ rows-read c.args.t.now c.args.f c.requires.front in
    let part : take (length c.rows.result.now - column) (drop column c.rows.result.now) ≡ drop column c.rows.result.now = take_all (length c.rows.result.now - column) (drop column c.rows.result.now) (omega (arith, length-drop column c.rows.result.now)) in
    let items : r.items ≡ drop column (rows_at places) = c.in_ok-from_slice.ensures.items ∙ part ∙ ap (λ (xs : List ℕ). drop column xs) rows_all in
    let row = subst (λ (xs : List ℕ). AreColumnRows places column xs) (sym items) (rows-from_column places column (omega (arith, c.loop-c-test.true))) in
    let more = pushed-more places column c.args.columns c.loop-c.columns (contents c.args.rows.now.items) (contents c.loop-c.rows.items) (contents c.args.values.now.items) (contents c.loop-c.values.items) r.items c.take.result.items c.loop-c-test.true c.requires.columns c.loop-c.invariant row c.take.ensures.value in
    let P : List (List ℤ) → List (List ℕ) → List (List ℤ) → Type 0 = λ left rows values. ArePushed places (column + 1) c.args.columns left (contents c.args.rows.now.items) rows (contents c.args.values.now.items) values in
    subst (λ (ls : List (List ℤ)). P ls (contents c.push.new.self.items) (contents c.push-in-loop-c.new.self.items)) (sym c.take.ensures.left)
    (subst (λ (rs : List (List ℕ)). P (set c.loop-c.columns column []) rs (contents c.push-in-loop-c.new.self.items)) (sym rows_are)
    (subst (λ (vs : List (List ℤ)). P (set c.loop-c.columns column []) (contents c.loop-c.rows.items ++ r.items ∷ []) vs) (sym values_are) more))

pub returns-clause-rows : goal.returns-clause-rows
returns-clause-rows c =
    let places = c.args.f ∷ list_of c.args.t.now.later c.args.f in
    let end : c.loop-c.c ≡ 6 = omega arith in
    let done = subst (λ (n : ℕ). ArePushed places n c.args.columns c.loop-c.columns (contents c.args.rows.now.items) (contents c.loop-c.rows.items) (contents c.args.values.now.items) (contents c.loop-c.values.items)) end c.loop-c.invariant in
    pushed-rows places c.args.columns c.loop-c.columns (contents c.args.rows.now.items) (contents c.loop-c.rows.items) (contents c.args.values.now.items) (contents c.loop-c.values.items) done

pub returns-clause-values : goal.returns-clause-values
returns-clause-values c =
    let places = c.args.f ∷ list_of c.args.t.now.later c.args.f in
    let end : c.loop-c.c ≡ 6 = omega arith in
    let done = subst (λ (n : ℕ). ArePushed places n c.args.columns c.loop-c.columns (contents c.args.rows.now.items) (contents c.loop-c.rows.items) (contents c.args.values.now.items) (contents c.loop-c.values.items)) end c.loop-c.invariant in
    pushed-values places c.args.columns c.loop-c.columns (contents c.args.rows.now.items) (contents c.loop-c.rows.items) (contents c.args.values.now.items) (contents c.loop-c.values.items) c.requires.columns done
