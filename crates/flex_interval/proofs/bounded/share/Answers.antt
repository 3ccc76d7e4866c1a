use Rattle.std.proofs.Common.{◌≡◌, ◌∙◌, sym, to_z-of_z, Ok, rules}
use Rattle.flex_interval.proofs.SmallRatios.{IsSmall, ratio_ends, small_ratio, ratio_lo, ratio_hi}
use Rattle.flex_interval.proofs.bounded.share.Goals as goal

small : (c : goal.After-ratio) → IsSmall c.args.a c.args.n
small c = record {
  lo = c.requires.lo;
  ordered = rw (← c.a.view_is) c.a.invariant.ordered;
  factor = c.requires.factor;
  small = c.requires.small;
}

answer : (c : goal.After-ratio) → c.ratio.result ≡ Ok (ratio_ends c.args.a c.args.n c.args.m)
answer c = (rw (to_z-of_z c.ranges.n, to_z-of_z c.ranges.m) at c.ratio.ensures.value) ∙ small_ratio c.args.a c.args.n c.args.m (small c)

pub unwrap-requires : goal.unwrap-requires
unwrap-requires c = rw (answer c) (search rules)

held : (c : goal.After-unwrap) → IsSmall c.args.a c.args.n
held c = record {
  lo = c.requires.lo;
  ordered = rw (← c.a.view_is) c.a.invariant.ordered;
  factor = c.requires.factor;
  small = c.requires.small;
}

pub returns-clause-value : goal.returns-clause-value
returns-clause-value c = (sym (rw (to_z-of_z c.ranges.n, to_z-of_z c.ranges.m) at c.ratio.ensures.value)) ∙ c.unwrap.ensures

value : (c : goal.After-unwrap) → c.unwrap.result ≡ ratio_ends c.args.a c.args.n c.args.m
value c =
    let same : Ok c.unwrap.result ≡ Ok (ratio_ends c.args.a c.args.n c.args.m) = sym (returns-clause-value c) ∙ small_ratio c.args.a c.args.n c.args.m (held c) in
    cc

pub returns-clause-within : goal.returns-clause-within
returns-clause-within c = λ x within. (rw (c.unwrap.ensures, to_z-of_z c.ranges.n, to_z-of_z c.ranges.m) at c.ratio.ensures.within) x within

pub returns-clause-lo : goal.returns-clause-lo
returns-clause-lo c = rw (value c) (ratio_lo c.args.a c.args.n c.args.m c.requires.positive (held c))

pub returns-clause-hi : goal.returns-clause-hi
returns-clause-hi c = λ b enough. rw (value c) (ratio_hi c.args.a c.args.n c.args.m b c.requires.positive (held c) enough)
