use Rattle.std.proofs.Common.{◌≡◌, ◌≤◌, ◌*◌, take}
use Rattle.lists.specs.Lists.{contents}
use Rattle.elim_tree.specs.Fronts.{entries_of}
use Rattle.elim_tree.proofs.parts.entries_in.Given as goal

abbrev pub invariant-loop-places : goal.invariant-loop-places
invariant-loop-places l = record {
  value : l.entries ≡ entries_of (contents (take l.places-index l.later));
  small : l.entries ≤ 36864 * l.places-index;
}
