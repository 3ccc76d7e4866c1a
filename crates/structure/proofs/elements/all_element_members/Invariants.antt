use Rattle.std.proofs.Common.{◌≡◌, ℕ, ◌*◌, ◌<◌, ◌≤◌, length, All, Ok}
use Rattle.structure.specs.Elements.{element_at}
use Rattle.structure.specs.Enclosure.{EnclosesElement}
use Rattle.structure.specs.Sound.{IsSound}
use Rattle.structure.specs.Structure.{element_members}
use Rattle.structure.proofs.elements.all_element_members.Given as goal

abbrev pub invariant-loop-number : goal.invariant-loop-number
invariant-loop-number l = record {
  value : element_members l.model l.number ≡ Ok l.members.items;
  sound : All (IsSound (length l.model.nodes)) l.members.items;
  few : length l.members.items ≤ 8 * l.number;
  encloses : (n : ℕ) → n < l.number → EnclosesElement l.model (element_at l.model n);
}
