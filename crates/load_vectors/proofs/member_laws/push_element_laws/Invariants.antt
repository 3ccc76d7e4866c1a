use Rattle.std.proofs.Common.{◌≡◌, ◌++◌}
use Rattle.lists.specs.Listed.{listed}
use Rattle.load_vectors.specs.Laws.{law_along}
use Rattle.load_vectors.proofs.member_laws.push_element_laws.Given as goal

abbrev pub invariant-loop-part : goal.invariant-loop-part
invariant-loop-part l = l.laws.items ≡ l.fn.laws.items ++ listed l.part (law_along l.shape l.delta)
