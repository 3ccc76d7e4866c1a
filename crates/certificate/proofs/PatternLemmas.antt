-- Sums over the columns of a block matrix's pattern.
use Rattle.std.proofs.Common.{◌≡◌, ℕ, ◌+◌, ◌*◌, ◌/◌, ◌^◌, ◌<◌, ◌≤◌, arith, ℤ, pos, length, get_or, Contains, All}
use Rattle.std.proofs.lemmas.List.{get_or_default}
use Rattle.int_laws.specs.Sums.{sum_below}
use Rattle.sym_blocks.specs.Matrix.{Matrix as SymMatrix, node_count, pattern_of, IsSymmetricByBlocks}
use Rattle.lists.specs.Rows.{freedom_at}
use Rattle.lists.specs.Order.{IsSpread}
use Rattle.lists.proofs.PatternLemmas.{sum-pattern}
use Rattle.lists.proofs.PlaceLemmas.{spread-rising}

-- ---- the pattern of a matrix by blocks
pub pattern-spread : (m : SymMatrix) (n : ℕ) → IsSymmetricByBlocks m → IsSpread (pattern_of m n) (node_count m)
pattern-spread m n kept = spread-rising (pattern_of m n) (node_count m) (kept.rising n) (kept.in_range n)

-- each node has six rows below 2^32
pub pattern-numbered : (m : SymMatrix) (n : ℕ) → IsSymmetricByBlocks m → 6 * node_count m ≤ 2 ^ 32 → All (λ node. 6 * node + 6 ≤ 2 ^ 32) (pattern_of m n)
pattern-numbered m n kept numbered k d inside = omega (arith, kept.in_range n (get_or (pattern_of m n) k d) (k, inside, get_or_default (pattern_of m n) k (get_or (pattern_of m n) k d) d inside))

pub sum-blocks : (m : SymMatrix) (row : ℕ) (f : ℕ → ℤ) → IsSymmetricByBlocks m →
    ((j : ℕ) → j < 6 * node_count m → (Contains (pattern_of m (row / 6)) (j / 6) → ⊥) → f j ≡ pos 0) →
    sum_below (6 * length (pattern_of m (row / 6))) (λ s. f (freedom_at (pattern_of m (row / 6)) s)) ≡ sum_below (6 * node_count m) f
sum-blocks m row f kept outside = sum-pattern (pattern_of m (row / 6)) (node_count m) f (pattern-spread m (row / 6) kept) outside
