use Rattle.std.proofs.Common.{◌≡◌, ◌<◌, ◌≤◌, ℕ, length, get_or, not, false}
use Rattle.std.specs.Prelude.{if◌then◌else◌}
use Rattle.restraint_search.proofs.flips.flip_all.Given as goal

-- the states before the next are flipped where they are violated, the others are as they were
abbrev pub invariant-loop-k : goal.invariant-loop-k
invariant-loop-k l = record {
  one_each : length l.closed ≡ length l.initial.closed;
  flipped : (j : ℕ) → j < l.k → get_or l.closed j false ≡ (if get_or l.violated j false then not (get_or l.initial.closed j false) else get_or l.initial.closed j false);
  untouched : (j : ℕ) → l.k ≤ j → get_or l.closed j false ≡ get_or l.initial.closed j false;
}
