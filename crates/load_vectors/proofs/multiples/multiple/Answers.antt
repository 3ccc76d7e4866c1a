use Rattle.std.proofs.Common.{◌≡◌, ◌∙◌, sym, to_z-of_z, Ok, rules}
use Rattle.flex_interval.proofs.SmallRatios.{ratio_ends}
use Rattle.load_vectors.proofs.Sizes.{IsMultiplicand, multiple_is, multiple_size}
use Rattle.load_vectors.proofs.multiples.multiple.Goals as goal

known : (c : goal.After-ratio) → IsMultiplicand c.args.a c.args.n
known c = record { lo = c.requires.lo; ordered = rw (← c.a.view_is) c.a.invariant.ordered; hi = c.requires.hi; factor = c.requires.factor }

answer : (c : goal.After-ratio) → c.ratio.result ≡ Ok (ratio_ends c.args.a c.args.n c.args.m)
answer c = (rw (to_z-of_z c.ranges.n, to_z-of_z c.ranges.m) at c.ratio.ensures.value) ∙ multiple_is c.args.a c.args.n c.args.m (known c)

pub unwrap-requires : goal.unwrap-requires
unwrap-requires c = rw (answer c) (search rules)

held : (c : goal.After-unwrap) → IsMultiplicand c.args.a c.args.n
held c = record { lo = c.requires.lo; ordered = rw (← c.a.view_is) c.a.invariant.ordered; hi = c.requires.hi; factor = c.requires.factor }

pub returns-clause-value : goal.returns-clause-value
returns-clause-value c = (sym (rw (to_z-of_z c.ranges.n, to_z-of_z c.ranges.m) at c.ratio.ensures.value)) ∙ c.unwrap.ensures

value : (c : goal.After-unwrap) → c.unwrap.result ≡ ratio_ends c.args.a c.args.n c.args.m
value c =
    let same : Ok c.unwrap.result ≡ Ok (ratio_ends c.args.a c.args.n c.args.m) = sym (returns-clause-value c) ∙ multiple_is c.args.a c.args.n c.args.m (held c) in
    cc

pub returns-clause-within : goal.returns-clause-within
returns-clause-within c = λ x within. (rw (c.unwrap.ensures, to_z-of_z c.ranges.n, to_z-of_z c.ranges.m) at c.ratio.ensures.within) x within

pub returns-clause-size : goal.returns-clause-size
returns-clause-size c = rw (value c) (multiple_size c.args.a c.args.n c.args.m c.requires.divisor (held c))
