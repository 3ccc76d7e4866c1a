use Rattle.std.proofs.Common.{◌∙◌, ap, arith, pos, ◌+ℤ◌, ◌*ℤ◌, get_or, add-one}
use Rattle.dense_front.proofs.CastLemmas.{sum_fits, sum_more}
use Rattle.dense_front.proofs.dot.dot.Goals as goal

pub overflow_add-sum : goal.overflow_add-sum
overflow_add-sum c =
    sum_fits _ c.product-sum.result c.loop-k.k (omega arith) c.loop-k.invariant.1 c.product-sum.ensures.small

pub loop-k-preserved : goal.loop-k-preserved
loop-k-preserved c =
    let k = c.loop-k.k in
    let step = sum_more _ c.product-sum.result (get_or c.args.left.now k (pos 0)) (get_or c.args.right.now k (pos 0)) k (omega arith) c.loop-k.invariant.1 c.product-sum.ensures.small
    (c.requires.left_small k (pos 0) (omega arith)) (c.requires.right_small k (pos 0) (omega arith)) c.product-sum.ensures.value
    in
    (rw (add-one k) (step.0 ∙ ap (λ z. z +ℤ (get_or c.args.left.now k (pos 0) *ℤ get_or c.args.right.now k (pos 0))) c.loop-k.invariant.0), step.1)
