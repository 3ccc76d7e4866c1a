-- The rows of a matrix with six for each node, in the nodes' own numbers or in an order of them. Row `6 n + f` is freedom f
-- of node n; it stands at position `6 p + f` where node n is at place p of the order.
use Rattle.std.specs.Prelude.{ℕ, ◌+◌, ◌*◌, ◌/◌, ◌%◌, List, slice_index}
use Rattle.lists.specs.Order.{place_of}

-- the row of a node's freedom
abbrev pub row_of : ℕ → ℕ → ℕ
row_of node freedom = 6 * node + freedom

-- the node of a row
abbrev pub node_of : ℕ → ℕ
node_of row = row / 6

-- the freedom of a row, 0 to 5
abbrev pub freedom_of : ℕ → ℕ
freedom_of row = row % 6

-- the rows of a list of nodes, one after another: at an order the row at a position, at the list of the nodes' places
-- the position of a row, at a pattern its columns
abbrev pub freedom_at : List ℕ → ℕ → ℕ
freedom_at nodes s = row_of (slice_index nodes (node_of s)) (freedom_of s)

-- the position of a row in an order of the nodes
abbrev pub position_of : List ℕ → ℕ → ℕ
position_of order row = row_of (place_of (node_of row) order) (freedom_of row)
