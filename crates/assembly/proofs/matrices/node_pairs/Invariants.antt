use Rattle.std.proofs.Common.{◌≡◌, map, take}
use Rattle.assembly.proofs.matrices.node_pairs.Given as goal

abbrev pub invariant-loop-m : goal.invariant-loop-m
invariant-loop-m l = l.pairs.items ≡ map (λ m. (m.n1, m.n2)) (take l.m-index l.b.members)
