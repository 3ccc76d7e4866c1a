use Rattle.std.proofs.Common.{◌≡◌, ◌<◌, ℕ, map, take}
use Rattle.structure.specs.Elements.{element_at}
use Rattle.load_vectors.specs.Laws.{delta_of, EnclosesDeformation}
use Rattle.load_vectors.proofs.elements.deltas.Given as goal

abbrev pub invariant-loop-number : goal.invariant-loop-number
invariant-loop-number l = record {
  value : l.deltas.items ≡ map (delta_of l.m l.fn.case.0) (take l.number l.m.elements);
  encloses : (n : ℕ) → n < l.number → EnclosesDeformation l.m l.fn.case.0 (element_at l.m n) (delta_of l.m l.fn.case.0 (element_at l.m n));
}
