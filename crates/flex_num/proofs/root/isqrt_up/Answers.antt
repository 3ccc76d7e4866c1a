use Rattle.std.proofs.Common.{rules, ap, arith, pos, ◌+ℤ◌, FitsSigned, to_z, of_z, to_z-of_z}
use Rattle.std.specs.Int.{w128}
use Rattle.int_laws.proofs.Sums.{int_sums}
use Rattle.int_laws.proofs.Products.{square_nonnegative}
use Rattle.int_laws.specs.Root.{IsRoot}
use Rattle.int_laws.proofs.RootLemmas.{root_from_std, root_up_when_exact, root_up_when_not, root_up_of-is, root_up_unique}
use Rattle.flex_num.proofs.root.isqrt_up.Goals as goal

pub returns-then-root-n-clause-meaning : goal.returns-then-root-n-clause-meaning
returns-then-root-n-clause-meaning c =
    let fits : FitsSigned w128 c.isqrt-root.result = search rules in
    let root : IsRoot 2 c.args.n c.isqrt-root.result = root_from_std c.args.n c.isqrt-root.result c.requires (rw (to_z-of_z c.ranges.n) at c.isqrt-root.ensures) in
    let test = rw (to_z-of_z fits) at c.if-root-n.true in
    let positive = square_nonnegative c.isqrt-root.result in
    rw (to_z-of_z fits) (root_up_when_exact 1 root (omega (arith, int_sums, root.at_most)))

pub returns-then-root-n-clause-value : goal.returns-then-root-n-clause-value
returns-then-root-n-clause-value c = root_up_unique (returns-then-root-n-clause-meaning c) (root_up_of-is c.args.n c.requires)

pub returns-else-root-n-clause-meaning : goal.returns-else-root-n-clause-meaning
returns-else-root-n-clause-meaning c =
    let fits : FitsSigned w128 c.isqrt-root.result = search rules in
    let next : FitsSigned w128 (to_z w128 (of_z w128 c.isqrt-root.result) +ℤ pos 1) = search rules in
    let root : IsRoot 2 c.args.n c.isqrt-root.result = root_from_std c.args.n c.isqrt-root.result c.requires (rw (to_z-of_z c.ranges.n) at c.isqrt-root.ensures) in
    rw (to_z-of_z next, to_z-of_z fits) (root_up_when_not 1 root (λ exact. c.if-root-n.false (rw (to_z-of_z fits) (ap (of_z w128) exact))))

pub returns-else-root-n-clause-value : goal.returns-else-root-n-clause-value
returns-else-root-n-clause-value c = root_up_unique (returns-else-root-n-clause-meaning c) (root_up_of-is c.args.n c.requires)
