use Rattle.std.proofs.Common.{refl}
use Rattle.member_pairs.proofs.Shapes.{shape_encloses}
use Rattle.member_pairs.proofs.pair.member.Goals as goal

pub returns-clause-value : goal.returns-clause-value
returns-clause-value c = rw c.shape_numbers.ensures refl

pub returns-clause-within : goal.returns-clause-within
returns-clause-within c = λ exact v f t stiffness in_v in_f in_t.
    record { stiffness = stiffness; shape = rw c.shape_numbers.ensures (shape_encloses in_v in_f in_t) }
