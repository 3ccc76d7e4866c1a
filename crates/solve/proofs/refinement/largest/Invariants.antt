use Rattle.std.proofs.Common.{◌≡◌, ℕ, ◌<◌, ◌≤◌, ◌⊎◌, length}
use Rattle.std.specs.Prelude.{unsigned_abs}
use Rattle.solve.specs.Substitution.{at}
use Rattle.solve.proofs.refinement.largest.Given as goal

abbrev pub invariant-loop-number : goal.invariant-loop-number
invariant-loop-number l =
    record {
      bound : (i : ℕ) → i < l.number-index → unsigned_abs (at l.r i) ≤ l.most;
      reached : (l.most ≡ 0) ⊎ ((i : ℕ) × (i < length l.r) × (unsigned_abs (at l.r i) ≡ l.most));
    }
