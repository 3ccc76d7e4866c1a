-- The position of a row, read from the places of the nodes.
use Rattle.std.proofs.Common.{◌≡◌, ℕ, ◌*◌, ◌/◌, ◌<◌, ap, arith, List, length, get_or}
use Rattle.lists.specs.Order.{places_of}
use Rattle.lists.proofs.PlaceLemmas.{places-read}
use Rattle.lists.specs.Rows.{position_of, freedom_at}

pub position-read : (order places : List ℕ) (row : ℕ) → places ≡ places_of order → row < 6 * length order → freedom_at places row ≡ position_of order row
position-read order places row placed inside =
    omega (arith, ap (λ (xs : List ℕ). get_or xs (row / 6) 0) placed, places-read order (row / 6) (omega arith))
