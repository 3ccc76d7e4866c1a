use Rattle.std.proofs.Common.{◌≡◌, arith, pos, to_z}
use Rattle.std.proofs.lemmas.Int.{ints}
use Rattle.std.specs.Int.{w128}
use Rattle.int_laws.proofs.RootLemmas.{root_unique, cube_root_of-is}
use Rattle.flex_num.proofs.CubeRootLemmas.{cube_root_from}
use Rattle.flex_num.proofs.cube_root.icbrt.Goals as goal

root_is : (c : goal.After-cube_root) → to_z w128 c.cube_root.result ≡ pos c.cube_root.result
root_is c = omega (arith, ints, c.cube_root.ensures.small)

pub returns-clause-meaning : goal.returns-clause-meaning
returns-clause-meaning c = rw (root_is c) (cube_root_from c.args.n _ c.cube_root.result (omega (arith, ints)) c.cube_root.ensures.at_most c.cube_root.ensures.next_above)

pub returns-clause-value : goal.returns-clause-value
returns-clause-value c = root_unique (returns-clause-meaning c) (cube_root_of-is c.args.n c.requires)
