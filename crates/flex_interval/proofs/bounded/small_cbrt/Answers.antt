use Rattle.std.proofs.Common.{◌≡◌, ◌∙◌, sym, Ok, rules}
use Rattle.flex_interval.proofs.SmallProducts.{IsSmallShifted, cbrt_ends, small_cbrt, cbrt_hi}
use Rattle.flex_interval.proofs.bounded.small_cbrt.Goals as goal

small : (c : goal.After-cbrt) → IsSmallShifted c.args.a c.args.s
small c = record { lo = c.requires.lo; ordered = rw (← c.a.view_is) c.a.invariant.ordered; small = c.requires.small }

pub unwrap-requires : goal.unwrap-requires
unwrap-requires c = rw (c.cbrt.ensures.value, small_cbrt c.args.a c.args.s (small c)) (search rules)

held : (c : goal.After-unwrap) → IsSmallShifted c.args.a c.args.s
held c = record { lo = c.requires.lo; ordered = rw (← c.a.view_is) c.a.invariant.ordered; small = c.requires.small }

pub returns-clause-value : goal.returns-clause-value
returns-clause-value c = sym c.cbrt.ensures.value ∙ c.unwrap.ensures

pub returns-clause-encloses : goal.returns-clause-encloses
returns-clause-encloses c = rw c.unwrap.ensures at c.cbrt.ensures.encloses

pub returns-clause-hi : goal.returns-clause-hi
returns-clause-hi c = λ b positive enough.
    let same : Ok c.unwrap.result ≡ Ok (cbrt_ends c.args.a c.args.s) = sym (returns-clause-value c) ∙ small_cbrt c.args.a c.args.s (held c) in
    let value : c.unwrap.result ≡ cbrt_ends c.args.a c.args.s = cc in
    rw value (cbrt_hi c.args.a c.args.s b (held c) positive enough)
