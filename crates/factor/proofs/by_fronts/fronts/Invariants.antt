use Rattle.std.proofs.Common.{◌*◌}
use Rattle.lists.specs.Lists.{contents}
use Rattle.factor.specs.Fronts.{AreWaiting, AreFrontColumns}
use Rattle.factor.proofs.by_fronts.fronts.Given as goal

abbrev pub invariant-loop-f : goal.invariant-loop-f
invariant-loop-f l = AreWaiting l.t l.k l.shift l.f l.updates.items × AreFrontColumns l.t l.k l.shift (6 * l.f) (contents l.rows.items) (contents l.values.items)
