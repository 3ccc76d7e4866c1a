use Rattle.std.proofs.Common.{◌≡◌, ◌+◌, arith, pos, ◌+ℤ◌, to_z}
use Rattle.std.proofs.lemmas.Int.{ints}
use Rattle.std.specs.Int.{w128}
use Rattle.int_laws.specs.Root.{IsRoot}
use Rattle.int_laws.proofs.RootLemmas.{root_up_when_exact, root_up_when_not, cube_root_up_of-is, root_up_unique}
use Rattle.flex_num.proofs.CubeRootLemmas.{cube_root_from}
use Rattle.flex_num.proofs.cube_root.icbrt_up.Goals as goal

root_is : (c : goal.Then-root-size) → to_z w128 c.cube_root-root.result ≡ pos c.cube_root-root.result
root_is c = omega (arith, ints, c.cube_root-root.ensures.small)

pub returns-then-root-size-clause-meaning : goal.returns-then-root-size-clause-meaning
returns-then-root-size-clause-meaning c =
    let root : IsRoot 3 c.args.n (pos c.cube_root-root.result) = cube_root_from c.args.n _ c.cube_root-root.result (omega (arith, ints)) c.cube_root-root.ensures.at_most c.cube_root-root.ensures.next_above in
    rw (root_is c) (root_up_when_exact 2 root (omega (arith, ints, c.if-root-size.true)))

pub returns-then-root-size-clause-value : goal.returns-then-root-size-clause-value
returns-then-root-size-clause-value c = root_up_unique (returns-then-root-size-clause-meaning c) (cube_root_up_of-is c.args.n c.requires)

next_is : (c : goal.Else-root-size) → to_z w128 (c.cube_root-root.result + 1) ≡ pos c.cube_root-root.result +ℤ pos 1
next_is c = omega (arith, ints, c.cube_root-root.ensures.small)

pub returns-else-root-size-clause-meaning : goal.returns-else-root-size-clause-meaning
returns-else-root-size-clause-meaning c =
    let root : IsRoot 3 c.args.n (pos c.cube_root-root.result) = cube_root_from c.args.n _ c.cube_root-root.result (omega (arith, ints)) c.cube_root-root.ensures.at_most c.cube_root-root.ensures.next_above in
    rw (next_is c) (root_up_when_not 2 root (λ exact. c.if-root-size.false (omega (arith, ints, exact))))

pub returns-else-root-size-clause-value : goal.returns-else-root-size-clause-value
returns-else-root-size-clause-value c = root_up_unique (returns-else-root-size-clause-meaning c) (cube_root_up_of-is c.args.n c.requires)
