use Rattle.std.proofs.Common.{◌≡◌, ◌+◌, ◌^◌, ◌<◌, ◌∙◌, refl, arith, get_or, set, length, subst, pos, inr, ℕ}
use Rattle.std.specs.Int.RustNames.{unsigned_abs}
use Rattle.std.proofs.lemmas.Int.{ints}
use Rattle.std.proofs.lemmas.List.{length-set}
use Rattle.dense_front.specs.Square.{RaisesFrom}
use Rattle.dense_front.proofs.SquareLemmas.{raises-none, raises-more, put_on}
use Rattle.dense_front.proofs.child.add_rows.Goals as goal

pub loop-t-init : goal.loop-t-init
loop-t-init c = (refl, raises-none c.args.square.now c.args.start _)

pub overflow_add-square : goal.overflow_add-square
overflow_add-square c =
    let t = c.loop-t.t in
    let same = c.loop-t.invariant.1.others (c.args.start + t) (inr (omega arith)) in
    omega (arith, ints, same, c.requires.small t (omega arith), c.requires.child_small t (omega arith))

pub loop-t-preserved : goal.loop-t-preserved
loop-t-preserved c =
    let t = c.loop-t.t in
    let cur = c.loop-t.square in
    let at = c.args.start + t in
    let same = c.loop-t.invariant.1.others at (inr (omega arith)) in
    let small : unsigned_abs (get_or cur at (pos 0)) < 2 ^ 126 = rw same (c.requires.small t (omega arith)) in
    let sum = put_on (get_or cur at (pos 0)) (get_or c.args.child.now (c.args.source + t) (pos 0)) small (c.requires.child_small t (omega arith)) in
    (length-set cur at _ ∙ c.loop-t.invariant.0, raises-more c.args.square.now cur c.args.start t _ _ (omega (arith, c.loop-t.invariant.0, c.requires.start_in)) c.loop-t.invariant.1 sum)

pub returns : goal.returns
returns c =
    let end : c.loop-t.t ≡ c.args.count = omega arith in
    record {
      whole = c.loop-t.invariant.0;
      raised = subst (λ (n : ℕ). RaisesFrom c.args.square.now c.loop-t.square c.args.start n (λ t. get_or c.args.child.now (c.args.source + t) (pos 0))) end c.loop-t.invariant.1;
    }
