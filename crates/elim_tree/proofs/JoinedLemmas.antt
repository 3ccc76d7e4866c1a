-- Neighbours as nodes are eliminated.
use Rattle.std.proofs.Common.{◌≡◌, ℕ, zero, suc, ◌+◌, ◌-◌, ◌<◌, ◌≤◌, arith, subst, inl, inr}
use Rattle.elimination.specs.Elimination.{Joined, IsLaterNeighbour}

-- neighbours stay neighbours
joined_later : (linked : ℕ → ℕ → Type 0) (t m p q : ℕ) → Joined linked t p q → Joined linked (t + m) p q
joined_later linked t zero p q h = subst (λ (x : ℕ). Joined linked x p q) (let e : t ≡ t + 0 = omega arith in e) h
joined_later linked t (suc m) p q h =
    subst (λ (x : ℕ). Joined linked x p q) (let e : suc (t + m) ≡ t + suc m = omega arith in e) (inl (joined_later linked t m p q h))

joined_by : (linked : ℕ → ℕ → Type 0) (t u p q : ℕ) → t ≤ u → Joined linked t p q → Joined linked u p q
joined_by linked t u p q le h = subst (λ (x : ℕ). Joined linked x p q) (let e : t + (u - t) ≡ u = omega arith in e) (joined_later linked t (u - t) p q h)

-- linked nodes are neighbours when the first is eliminated
pub later_from_linked : (linked : ℕ → ℕ → Type 0) (p q : ℕ) → p < q → linked p q → IsLaterNeighbour linked p q
later_from_linked linked p q lt h = (lt, joined_by linked 0 p p q (omega arith) h)

-- two later neighbours of a node are neighbours when the first of them is eliminated
pub later_closed : (linked : ℕ → ℕ → Type 0) (k p q : ℕ) → p < q → IsLaterNeighbour linked k p → IsLaterNeighbour linked k q → IsLaterNeighbour linked p q
later_closed linked k p q lt (kp, jp) (kq, jq) = (lt, joined_by linked (suc k) p p q (omega arith) (inr (kp, kq, jp, jq)))
