use Rattle.std.proofs.Common.{◌+◌, ◌*◌, ◌≡◌, ◌<◌, ◌≤◌, ℕ, length, get_or, pos, ◌-ℤ◌}
use Rattle.dense_front.specs.Square.{at_square, row_products}
use Rattle.dense_front.proofs.update.take_products.Given as goal

abbrev pub invariant-loop-column : goal.invariant-loop-column
invariant-loop-column l =
    (length l.square ≡ length l.initial.square)
    × ((r c : ℕ) → 6 ≤ c → c < l.column → c ≤ r → r < l.size → at_square l.size l.square r c ≡ at_square l.size l.initial.square r c -ℤ row_products l.entries r c)
    × ((r c : ℕ) → l.column ≤ c → r < l.size → at_square l.size l.square r c ≡ at_square l.size l.initial.square r c)
