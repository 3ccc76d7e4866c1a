use Rattle.std.proofs.Common.{rules, ◌≡◌, sym, ◌∙◌, arith, pos, ◌+ℤ◌, ◌<ℤ◌, FitsSigned, to_z, of_z, to_z-of_z}
use Rattle.std.proofs.lemmas.Int.{ints}
use Rattle.std.specs.Int.{w128, int_div_euclid, int_rem_euclid}
use Rattle.int_laws.proofs.DivisionLemmas.{ceil_of-is, ceiling_unique, ceiling_when_exact, ceiling_when_not, next_fits}
use Rattle.flex_num.proofs.division.ceil_div.Goals as goal

pub returns-then-rem_euclid-eq0-clause-meaning : goal.returns-then-rem_euclid-eq0-clause-meaning
returns-then-rem_euclid-eq0-clause-meaning c =
    let fits : FitsSigned w128 c.div_euclid-floor.result = search rules in
    let rest = c.rem_euclid.ensures.value in
    let exact : c.rem_euclid.result ≡ pos 0 = omega (arith, ints) in
    rw (to_z-of_z fits, c.div_euclid-floor.ensures, to_z-of_z c.ranges.n, to_z-of_z c.ranges.d) (ceiling_when_exact c.args.n c.args.d c.requires (rw (to_z-of_z c.ranges.n, to_z-of_z c.ranges.d) at (sym rest ∙ exact)))

pub returns-then-rem_euclid-eq0-clause-value : goal.returns-then-rem_euclid-eq0-clause-value
returns-then-rem_euclid-eq0-clause-value c = ceiling_unique c.requires (returns-then-rem_euclid-eq0-clause-meaning c) (ceil_of-is c.args.n c.args.d c.requires)

more : (c : goal.Else-rem_euclid-eq0) → pos 0 <ℤ int_rem_euclid c.args.n c.args.d
more c =
    let rest : pos 0 <ℤ c.rem_euclid.result = omega (arith, ints) in
    rw (c.rem_euclid.ensures.value, to_z-of_z c.ranges.n, to_z-of_z c.ranges.d) at rest

floor_is : (c : goal.Else-rem_euclid-eq0) → to_z w128 (of_z w128 c.div_euclid-floor.result) ≡ int_div_euclid c.args.n c.args.d
floor_is c =
    let fits : FitsSigned w128 c.div_euclid-floor.result = search rules in
    rw (to_z-of_z fits) (rw (to_z-of_z c.ranges.n, to_z-of_z c.ranges.d) at c.div_euclid-floor.ensures)

next : (c : goal.Else-rem_euclid-eq0) → FitsSigned w128 (int_div_euclid c.args.n c.args.d +ℤ pos 1)
next c =
    let fits : FitsSigned w128 c.div_euclid-floor.result = search rules in
    let floor_fits = rw (c.div_euclid-floor.ensures, to_z-of_z c.ranges.n, to_z-of_z c.ranges.d) at fits in
    next_fits c.args.n c.args.d c.ranges.n floor_fits c.requires (more c)

pub overflow_add-result : goal.overflow_add-result
overflow_add-result c = rw (floor_is c) (next c)

pub returns-else-rem_euclid-eq0-clause-meaning : goal.returns-else-rem_euclid-eq0-clause-meaning
returns-else-rem_euclid-eq0-clause-meaning c = rw (floor_is c, to_z-of_z (next c)) (ceiling_when_not c.args.n c.args.d c.requires (more c))

pub returns-else-rem_euclid-eq0-clause-value : goal.returns-else-rem_euclid-eq0-clause-value
returns-else-rem_euclid-eq0-clause-value c = ceiling_unique c.requires (returns-else-rem_euclid-eq0-clause-meaning c) (ceil_of-is c.args.n c.args.d c.requires)
