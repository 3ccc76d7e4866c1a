-- Rows by node and freedom, in the nodes' own numbers and in an order of them.
use Rattle.std.proofs.Common.{◌≡◌, ℕ, ◌*◌, ◌/◌, ◌<◌, ◌∙◌, ap, arith, List, length, slice_index}
use Rattle.lists.specs.Rows.{position_of, freedom_at}
use Rattle.lists.specs.Order.{place_of, IsSpread, IsOrder}
use Rattle.lists.proofs.PlaceLemmas.{place-found, place-at}

-- ---- positions and rows
pub position-below : (order : List ℕ) (row : ℕ) → IsOrder order → row < 6 * length order → position_of order row < 6 * length order
position-below order row ordered inside = omega (arith, (place-found order (row / 6) ordered (omega arith)).0)

pub row-below : (order : List ℕ) (j : ℕ) → IsOrder order → j < 6 * length order → freedom_at order j < 6 * length order
row-below order j ordered inside = omega (arith, ordered.spread.in_range (j / 6) (omega arith))

pub row-of_position : (order : List ℕ) (row : ℕ) → IsOrder order → row < 6 * length order → freedom_at order (position_of order row) ≡ row
row-of_position order row ordered inside =
    let found = place-found order (row / 6) ordered (omega arith) in
    let place : position_of order row / 6 ≡ place_of (row / 6) order = omega arith in
    let node = ap (slice_index order) place ∙ found.1 in
    omega (arith, node)

pub position-of_row : (order : List ℕ) (j : ℕ) → IsOrder order → j < 6 * length order → position_of order (freedom_at order j) ≡ j
position-of_row order j ordered inside =
    let node : freedom_at order j / 6 ≡ slice_index order (j / 6) = omega arith in
    let place = ap (λ (m : ℕ). place_of m order) node ∙ place-at order (j / 6) ordered (omega arith) in
    omega (arith, place)

-- ---- the columns of a pattern
pub column-below : (nodes : List ℕ) (n s : ℕ) → IsSpread nodes n → s < 6 * length nodes → freedom_at nodes s < 6 * n
column-below nodes n s spread inside = omega (arith, spread.in_range (s / 6) (omega arith))

pub column-apart : (nodes : List ℕ) (n s t : ℕ) → IsSpread nodes n → s < 6 * length nodes → t < 6 * length nodes →
    freedom_at nodes s ≡ freedom_at nodes t → s ≡ t
column-apart nodes n s t spread ps pt e =
    let place = spread.apart (s / 6) (t / 6) (omega arith) (omega arith) (omega arith) in
    omega (arith, place)
