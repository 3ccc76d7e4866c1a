-- One turn more, and that the turns are determined.
use Rattle.std.proofs.Common.{◌≡◌, ℕ, zero, suc, ◌+◌, ◌-◌, ◌<◌, ◌≤◌, inl, inr, List, Bool, true, false, true≢false, length, get_or, refl, sym, subst, ◌∙◌, arith}
use Rattle.std.proofs.lemmas.Bool.{cases_lt}
use Rattle.std.proofs.lemmas.List.{ext_get_or}
use Rattle.restraint_search.specs.Trials.{Finding, Failing, SomeViolated}
use Rattle.restraint_search.specs.Turns.{Flips, Follows, AfterTurns}
use Rattle.restraint_search.specs.Determined.{IsDecided}

-- one turn more
pub after_turn : (finds : Finding) (start : List Bool) (turn : ℕ) (before violated after : List Bool) → 1 ≤ turn
    → AfterTurns finds start (turn - 1) before → finds before violated → SomeViolated violated → Follows turn violated before after → AfterTurns finds start (turn + 1 - 1) after
after_turn finds start zero before violated after one made found some follows = absurd (omega arith)
after_turn finds start (suc n) before violated after one made found some follows =
    let here : suc n - 1 ≡ n = omega arith in
    let next : suc n + 1 - 1 ≡ suc n = omega arith in
    rw next (before, violated, (rw here at made), found, some, follows)

-- ---- the states after a turn are determined
stable : (a b : Bool) → ((a ≡ b → ⊥) → ⊥) → a ≡ b
stable true true not_other = refl
stable true false not_other = absurd (not_other true≢false)
stable false true not_other = absurd (not_other (λ e. true≢false (sym e)))
stable false false not_other = refl

pub follows_once : (turn : ℕ) (violated before s t : List Bool) → Follows turn violated before s → Follows turn violated before t → s ≡ t
follows_once turn violated before s t one other =
    ext_get_or false s t (one.count ∙ sym other.count) (λ k below.
    let inside : k < length before = omega (arith, one.count) in
    stable (get_or s k false) (get_or t k false) (λ differ.
    let kept : Flips turn violated k → ⊥ = λ flips. differ (one.flipped k inside flips ∙ sym (other.flipped k inside flips)) in
    differ (one.kept k inside kept ∙ sym (other.kept k inside kept))))

pub after_once : (finds : Finding) (fails : Failing) (start : List Bool) (n : ℕ) (s t : List Bool) → IsDecided finds fails → AfterTurns finds start n s → AfterTurns finds start n t → s ≡ t
after_once finds fails start zero s t decided one other = one ∙ sym other
after_once finds fails start (suc n) s t decided (before, violated, made, found, some, follows) (before′, violated′, made′, found′, some′, follows′) =
    let same : before′ ≡ before = after_once finds fails start n before′ before decided made′ made in
    let found″ : finds before violated′ = subst (λ b. finds b violated′) same found′ in
    let alike : violated′ ≡ violated = decided.one_finding before violated′ violated found″ found in
    let follows″ : Follows (suc n) violated before t = subst (λ v. Follows (suc n) v before t) alike (subst (λ b. Follows (suc n) violated′ b t) same follows′) in
    follows_once (suc n) violated before s t follows follows″

-- ---- a search that stops after n turns makes no more
pub record Stops (finds : Finding) (start : List Bool) (n : ℕ) (states : List Bool) : Type 0 where
  pub made : AfterTurns finds start n states
  pub no_more : (violated : List Bool) → finds states violated → SomeViolated violated → ⊥

pub turn_within : (finds : Finding) (start : List Bool) (n m : ℕ) (states : List Bool) → n < m → AfterTurns finds start m states
    → (before : List Bool) × (violated : List Bool) × AfterTurns finds start n before × finds before violated × SomeViolated violated
turn_within finds start n zero states less made = absurd (omega arith)
turn_within finds start n (suc m) states less (before, violated, made, found, some, follows) =
    elim (cases_lt n m) [
      | inl earlier ↦ turn_within finds start n m before earlier made
      | inr last ↦ (let same : m ≡ n = omega arith in (before, violated, subst (λ k. AfterTurns finds start k before) same made, found, some))
    ]

pub stops_before : (finds : Finding) (fails : Failing) (start : List Bool) (n m : ℕ) (s t : List Bool) → IsDecided finds fails → Stops finds start n s → AfterTurns finds start m t → n < m → ⊥
stops_before finds fails start n m s t decided stops made less =
    let turn = turn_within finds start n m t less made in
    let same : turn.0 ≡ s = after_once finds fails start n turn.0 s decided turn.2 stops.made in
    stops.no_more turn.1 (subst (λ b. finds b turn.1) same turn.3) turn.4

pub stops_once : (finds : Finding) (fails : Failing) (start : List Bool) (n m : ℕ) (s t : List Bool) → IsDecided finds fails → Stops finds start n s → Stops finds start m t → (n ≡ m) × (s ≡ t)
stops_once finds fails start n m s t decided one other =
    let up : (n < m → ⊥) = stops_before finds fails start n m s t decided one other.made in
    let down : (m < n → ⊥) = stops_before finds fails start m n t s decided other one.made in
    let same : n ≡ m = elim (cases_lt n m) [ inl less ↦ absurd (up less) | inr ge ↦ elim (cases_lt m n) [ inl less ↦ absurd (down less) | inr le ↦ omega arith ] ] in
    (same, after_once finds fails start m s t decided (subst (λ k. AfterTurns finds start k s) same one.made) other.made)
