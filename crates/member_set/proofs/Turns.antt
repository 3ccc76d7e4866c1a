-- Sums of intervals in turn.
use Rattle.std.proofs.Common.{◌≡◌, ℕ, zero, suc, ◌+◌, ◌<◌, ◌≤◌, ◌⊎◌, inl, inr, refl, subst, sym, add-one, arith, Ok, Err, IsErr}
use Rattle.flex_interval.specs.Ends.{Ends}
use Rattle.lists.specs.Results.{and_then}
use Rattle.flex_interval.specs.declared.fault.IvFault.{IvFault}
use Rattle.member_set.specs.Interval.{Outcome, in_turn}

-- a fault stays to the end
pub in_turn-fault : (step : Ends → Ends → Outcome) (start : Ends) (term : ℕ → Outcome) (k n : ℕ) (fault : IvFault) →
    k ≤ n → in_turn step start term k ≡ Err fault → in_turn step start term n ≡ Err fault
in_turn-fault step start term k zero fault below at =
    let e : k ≡ zero = omega arith in
    let first = subst (λ (n : ℕ). in_turn step start term n ≡ Err fault) e at in first
in_turn-fault step start term k (suc n) fault below at =
    let side : (k ≡ suc n) ⊎ (k ≤ n) = search arith in
    elim side [
      | inl e ↦ let last = subst (λ (n : ℕ). in_turn step start term n ≡ Err fault) e at in last
      | inr less ↦ rw (in_turn-fault step start term k n fault less at)
    ]

-- a step, whatever it gives
pub in_turn-next : (step : Ends → Ends → Outcome) (start : Ends) (term : ℕ → Outcome) (n : ℕ) (total : Ends) →
    in_turn step start term n ≡ Ok total → in_turn step start term (n + 1) ≡ and_then (term n) (step total)
in_turn-next step start term n total before = rw (add-one n, before)

-- one step more
pub in_turn-step : (step : Ends → Ends → Outcome) (start : Ends) (term : ℕ → Outcome) (n : ℕ) (total e : Ends) →
    in_turn step start term n ≡ Ok total → term n ≡ Ok e → in_turn step start term (n + 1) ≡ step total e
in_turn-step step start term n total e before here = rw (add-one n, before, here)

-- a term without a value
pub in_turn-term_fault : (step : Ends → Ends → Outcome) (start : Ends) (term : ℕ → Outcome) (n m : ℕ) (total : Ends) (fault : IvFault) →
    n < m → in_turn step start term n ≡ Ok total → term n ≡ Err fault → in_turn step start term m ≡ Err fault
in_turn-term_fault step start term n m total fault less before here =
    let at : in_turn step start term (suc n) ≡ Err fault = rw (before, here) in
    in_turn-fault step start term (suc n) m fault less at

-- a step without a value
pub in_turn-step_fault : (step : Ends → Ends → Outcome) (start : Ends) (term : ℕ → Outcome) (n m : ℕ) (total e : Ends) (fault : IvFault) →
    n < m → in_turn step start term n ≡ Ok total → term n ≡ Ok e → step total e ≡ Err fault → in_turn step start term m ≡ Err fault
in_turn-step_fault step start term n m total e fault less before here over =
    let at : in_turn step start term (suc n) ≡ Err fault = rw (before, here, over) in
    in_turn-fault step start term (suc n) m fault less at

-- the same terms give the same
pub in_turn-same : (step : Ends → Ends → Outcome) (start : Ends) (f g : ℕ → Outcome) (n : ℕ) → ((t : ℕ) → t < n → f t ≡ g t) →
    in_turn step start f n ≡ in_turn step start g n
in_turn-same step start f g zero same = refl
in_turn-same step start f g (suc n) same =
    rw (in_turn-same step start f g n (λ t below. same t (omega arith)), same n (omega arith))

-- some term without a value
pub in_turn-some_fault : (step : Ends → Ends → Outcome) (start : Ends) (term : ℕ → Outcome) (n t : ℕ) (fault : IvFault) → t < n → term t ≡ Err fault →
    IsErr (in_turn step start term n)
in_turn-some_fault step start term n t fault inside here = at (in_turn step start term t) refl
  where
    at : (before : Outcome) → in_turn step start term t ≡ before → IsErr (in_turn step start term n)
    at (Ok total) is = subst (λ (r : Outcome). IsErr r) (sym (in_turn-term_fault step start term t n total fault inside is here)) refl
    at (Err e) is = subst (λ (r : Outcome). IsErr r) (sym (in_turn-fault step start term t n e (omega arith) is)) refl

-- an answer of two steps has one of the first
pub first_of : (o : Outcome) (next : Ends → Outcome) (e : Ends) → and_then o next ≡ Ok e → (x : Ends) × (o ≡ Ok x) × (next x ≡ Ok e)
first_of (Ok x) next e is = (x, refl, is)
first_of (Err f) next e is = absurd (cc)

-- what the start has and each step keeps, the end has
pub in_turn_holds : (step : Ends → Ends → Outcome) (start : Ends) (term : ℕ → Outcome) (n : ℕ) (Holds : ℕ → Ends → Type 0) → Holds 0 start →
    ((t : ℕ) (total next after : Ends) → t < n → Holds t total → term t ≡ Ok next → step total next ≡ Ok after → Holds (suc t) after) →
    (e : Ends) → in_turn step start term n ≡ Ok e → Holds n e
in_turn_holds step start term zero Holds first more e is =
    let same : start ≡ e = cc in
    subst (λ (z : Ends). Holds 0 z) same first
in_turn_holds step start term (suc n) Holds first more e is =
    let before = first_of (in_turn step start term n) (λ total. and_then (term n) (λ x. step total x)) e is in
    let here = first_of (term n) (λ x. step before.0 x) e before.2 in
    more n before.0 here.0 e (omega arith) (in_turn_holds step start term n Holds first (λ t total next after inside. more t total next after (omega arith)) before.0 before.1) here.1 here.2
