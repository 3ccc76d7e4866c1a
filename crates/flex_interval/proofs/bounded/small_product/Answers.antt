use Rattle.std.proofs.Common.{◌≡◌, ◌∙◌, sym, Ok, rules}
use Rattle.flex_interval.proofs.SmallProducts.{AreSmall, mul_ends, small_mul, mul_lo, mul_hi}
use Rattle.flex_interval.proofs.bounded.small_product.Goals as goal

small : (c : goal.After-mul) → AreSmall c.args.a c.args.b
small c = record {
  a_lo = c.requires.a_lo;
  a_ordered = rw (← c.a.view_is) c.a.invariant.ordered;
  b_lo = c.requires.b_lo;
  b_ordered = rw (← c.b.view_is) c.b.invariant.ordered;
  small = c.requires.small;
}

pub unwrap-requires : goal.unwrap-requires
unwrap-requires c = rw (c.mul.ensures.value, small_mul c.args.a c.args.b c.args.s (small c)) (search rules)

held : (c : goal.After-unwrap) → AreSmall c.args.a c.args.b
held c = record {
  a_lo = c.requires.a_lo;
  a_ordered = rw (← c.a.view_is) c.a.invariant.ordered;
  b_lo = c.requires.b_lo;
  b_ordered = rw (← c.b.view_is) c.b.invariant.ordered;
  small = c.requires.small;
}

pub returns-clause-value : goal.returns-clause-value
returns-clause-value c = sym c.mul.ensures.value ∙ c.unwrap.ensures

value : (c : goal.After-unwrap) → c.unwrap.result ≡ mul_ends c.args.a c.args.b c.args.s
value c =
    let same : Ok c.unwrap.result ≡ Ok (mul_ends c.args.a c.args.b c.args.s) = sym (returns-clause-value c) ∙ small_mul c.args.a c.args.b c.args.s (held c) in
    cc

pub returns-clause-within : goal.returns-clause-within
returns-clause-within c = λ x y first second. (rw c.unwrap.ensures at c.mul.ensures.within) x y first second

pub returns-clause-lo : goal.returns-clause-lo
returns-clause-lo c = rw (value c) (mul_lo c.args.a c.args.b c.args.s (held c))

pub returns-clause-hi : goal.returns-clause-hi
returns-clause-hi c = λ b enough. rw (value c) (mul_hi c.args.a c.args.b c.args.s b (held c) enough)
