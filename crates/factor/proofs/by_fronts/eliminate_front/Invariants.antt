use Rattle.std.proofs.Common.{◌≡◌, ℕ, ◌<◌, length, get_or}
use Rattle.factor.specs.Fronts.{update_at}
use Rattle.factor.proofs.FrontStepLemmas.{IsAssembledTo}
use Rattle.factor.proofs.by_fronts.eliminate_front.Given as goal

abbrev pub invariant-loop-i : goal.invariant-loop-i
invariant-loop-i l =
    ((m : ℕ) × IsAssembledTo l.t l.k l.shift l.f l.children l.i l.space m)
    × (length l.updates ≡ l.f)
    × ((d : ℕ) → ((p : ℕ) → p < l.i → get_or l.children p 0 ≡ d → ⊥) → update_at l.updates d ≡ update_at l.initial.updates d)
