use Rattle.std.proofs.Common.{to_z-of_z}
use Rattle.load_vectors.proofs.weights.shares.Goals as goal

pub returns-clause-within : goal.returns-clause-within
returns-clause-within c = λ w within. record {
  x = λ _. rw (to_z-of_z c.ranges.x, to_z-of_z c.ranges.m) at (c.multiple.ensures.within w within);
  y = λ _. rw (to_z-of_z c.ranges.y, to_z-of_z c.ranges.m) at (c.multiple-2.ensures.within w within);
  z = λ _. rw (to_z-of_z c.ranges.z, to_z-of_z c.ranges.m) at (c.multiple-3.ensures.within w within);
}
