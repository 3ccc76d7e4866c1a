use Rattle.dense_front.proofs.EntryLemmas.{quotient_is, quotient_small, quotient_large_low, quotient_large_high}
use Rattle.dense_front.proofs.own.quotient.Goals as goal
use Rattle.dense_front.proofs.own.quotient.Goals.{else-quotient-via-then-quotient+else-quotient-lt-LIMIT, else-quotient-via-else-quotient}

pub returns-then-quotient-lt-LIMIT : goal.returns-then-quotient-lt-LIMIT
returns-then-quotient-lt-LIMIT c =
    let is = quotient_is c.args.left c.args.pivot c.nearest_quotient-quotient.result c.ranges.left c.ranges.pivot c.nearest_quotient-quotient.ensures in
    quotient_small _ c.nearest_quotient-quotient.result is record { sfits = c.nearest_quotient-quotient.type_inv } c.if-quotient.true c.if-quotient-lt-LIMIT.true

pub returns-else-quotient : goal.returns-else-quotient
returns-else-quotient c =
    let is = quotient_is c.args.left c.args.pivot c.nearest_quotient-quotient.result c.ranges.left c.ranges.pivot c.nearest_quotient-quotient.ensures in
    elim c.else-quotient.branch [
      | else-quotient-via-then-quotient+else-quotient-lt-LIMIT w ↦ quotient_large_high _ c.nearest_quotient-quotient.result is record { sfits = c.nearest_quotient-quotient.type_inv } w.if-quotient-lt-LIMIT.false
      | else-quotient-via-else-quotient w ↦ quotient_large_low _ c.nearest_quotient-quotient.result is record { sfits = c.nearest_quotient-quotient.type_inv } w.if-quotient.false
    ]
