use Rattle.std.proofs.Common.{refl}
use Rattle.flex_io.proofs.transfer.make_room.Goals as goal

pub returns-then-is_err-clause-err : goal.returns-then-is_err-clause-err
returns-then-is_err-clause-err c = refl
