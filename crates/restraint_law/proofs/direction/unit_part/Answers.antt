use Rattle.std.proofs.Common.{◌≡◌, ◌∙◌, sym, Ok, rules, ◌+◌, ◌^◌, pos, ◌*ℤ◌, to_z-of_z}
use Rattle.flex_interval.specs.Fraction.{whole}
use Rattle.flex_interval.specs.Operations.{point_of, quotients}
use Rattle.restraint_law.proofs.DirectionLemmas.{quotient_of_part}
use Rattle.restraint_law.proofs.direction.unit_part.Goals as goal

answer : (c : goal.After-div) → c.div.result ≡ Ok (quotients (point_of (c.args.part *ℤ pos (2 ^ (56 + c.args.length.now.shift)))) c.args.length.now.scaled)
answer c =
    (rw (c.exactly.ensures.value, to_z-of_z c.ranges.part) at c.div.ensures.value)
    ∙ quotient_of_part c.args.part c.args.length.now.scaled (56 + c.args.length.now.shift) c.requires.positive c.requires.small

pub unwrap-requires : goal.unwrap-requires
unwrap-requires c = rw (answer c) (search rules)

pub returns-clause-value : goal.returns-clause-value
returns-clause-value c =
    let divided = (rw (c.exactly.ensures.value, to_z-of_z c.ranges.part) at c.div.ensures.value) ∙ quotient_of_part c.args.part c.args.length.now.scaled (56 + c.args.length.now.shift) c.requires.positive c.requires.small in
    let same : Ok c.unwrap.result ≡ Ok (quotients (point_of (c.args.part *ℤ pos (2 ^ (56 + c.args.length.now.shift)))) c.args.length.now.scaled) = sym c.unwrap.ensures ∙ divided in
    cc

pub returns-clause-within : goal.returns-clause-within
returns-clause-within c = λ l in_l.
    let exact = rw (to_z-of_z c.ranges.part) at c.exactly.ensures.within in
    (rw c.unwrap.ensures at c.div.ensures.within) (whole c.args.part) l exact in_l
