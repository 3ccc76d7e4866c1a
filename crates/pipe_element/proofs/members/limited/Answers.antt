use Rattle.std.proofs.Common.{sym}
use Rattle.pipe_element.proofs.Limits.{members_are-own}
use Rattle.pipe_element.proofs.members.limited.Goals as goal

pub returns-then-are_shapes-clause-limits : goal.returns-then-are_shapes-clause-limits
returns-then-are_shapes-clause-limits c =
    rw c.members.ensures.value (members_are-own c.args.e.now c.args.k.now c.args.w.now (sym c.if-are_stiffnesses.ensures))
