use Rattle.std.proofs.Common.{◌*◌, ◌≡◌, length}
use Rattle.cholesky_laws.specs.Fronts.{lower_entry}
use Rattle.dense_front.specs.Square.{triangle_of}
use Rattle.dense_front.specs.Own.{IsOwnTo}
use Rattle.dense_front.proofs.own.eliminate_own.Given as goal

abbrev pub invariant-loop-s : goal.invariant-loop-s
invariant-loop-s l = (length l.entries ≡ 6 * l.size) × IsOwnTo (lower_entry (triangle_of l.size l.square)) l.s l.entries
