use Rattle.std.proofs.Common.{◌∙◌, sym, rules}
use Rattle.flex_interval.proofs.SmallSums.{small_sum}
use Rattle.flex_interval.proofs.bounded.small_sum.Goals as goal

pub unwrap-requires : goal.unwrap-requires
unwrap-requires c =
    rw (
      c.add.ensures.value,
      small_sum c.args.a c.args.b c.requires.a_lo (rw (← c.a.view_is) c.a.invariant.ordered) c.requires.a_hi c.requires.b_lo (rw (← c.b.view_is) c.b.invariant.ordered) c.requires.b_hi,
    )
    (search rules)

pub returns-clause-value : goal.returns-clause-value
returns-clause-value c = sym c.add.ensures.value ∙ c.unwrap.ensures

pub returns-clause-within : goal.returns-clause-within
returns-clause-within c = λ x y first second. (rw c.unwrap.ensures at c.add.ensures.within) x y first second
