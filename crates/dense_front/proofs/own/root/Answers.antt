use Rattle.dense_front.proofs.EntryLemmas.{root_answer}
use Rattle.dense_front.proofs.own.root.Goals as goal

pub overflow_cast-result : goal.overflow_cast-result
overflow_cast-result c = (root_answer c.args.pivot c.isqrt.result c.ranges.pivot c.requires c.if-pivot-lt1.false c.isqrt.ensures.value).0

pub returns-else-pivot-lt1 : goal.returns-else-pivot-lt1
returns-else-pivot-lt1 c =
    let answer = root_answer c.args.pivot c.isqrt.result c.ranges.pivot c.requires c.if-pivot-lt1.false c.isqrt.ensures.value in
    (answer.1, answer.2)
