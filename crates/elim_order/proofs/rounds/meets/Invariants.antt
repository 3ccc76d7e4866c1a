use Rattle.std.proofs.Common.{ℕ, ◌<◌, get_or, Contains}
use Rattle.elim_order.proofs.rounds.meets.Given as goal

abbrev pub invariant-loop-number : goal.invariant-loop-number
invariant-loop-number l = (i : ℕ) → i < l.number-index → Contains l.taken (get_or l.list i 0) → ⊥
