use Rattle.std.proofs.Common.{◌≡◌, take}
use Rattle.std.specs.List.{flat_map}
use Rattle.load_vectors.specs.Laws.{element_laws}
use Rattle.load_vectors.proofs.member_laws.laws.Given as goal

abbrev pub invariant-loop-number : goal.invariant-loop-number
invariant-loop-number l = l.laws.items ≡ flat_map (element_laws l.m l.case.0) (take l.number l.m.elements)
