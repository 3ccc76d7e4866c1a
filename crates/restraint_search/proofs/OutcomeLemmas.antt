-- A search has one outcome.
use Rattle.std.proofs.Common.{◌≡◌, ℕ, suc, List, Bool, refl, sym, ap, subst, ◌∙◌, arith}
use Rattle.restraint_search.specs.declared.trial.TrialFault.{TrialFault}
use Rattle.restraint_search.specs.Trials.{Finding, Failing, SomeViolated}
use Rattle.restraint_search.specs.Outcomes.{EndsAt, FailsIn}
use Rattle.restraint_search.specs.Determined.{IsDecided, SearchOutcome, ends_at, runs_out, fails_in, IsOutcome}
use Rattle.restraint_search.proofs.TurnsLemmas.{Stops, stops_before, stops_once}

ending_stops : (finds : Finding) (fails : Failing) (start states : List Bool) → IsDecided finds fails → (ends : EndsAt finds start states) → Stops finds start ends.0 states
ending_stops finds fails start states decided (turns, violated, within, made, found, none) = record {
  made = made;
  no_more = λ other found′ some. none some.0 (subst (λ v. SomeViolated v) (decided.one_finding states other violated found′ found) some).1;
}

failing_stops : (finds : Finding) (fails : Failing) (start : List Bool) (turn : ℕ) (fault : TrialFault) → IsDecided finds fails → (fail : FailsIn finds fails start turn fault) → Stops finds start fail.0 fail.1
failing_stops finds fails start turn fault decided (turns, states, is, within, made, fails_here) = record {
  made = made;
  no_more = λ violated found some. decided.not_both states violated fault found fails_here;
}

pub one_outcome : (finds : Finding) (fails : Failing) (start : List Bool) → IsDecided finds fails → (x y : SearchOutcome) → IsOutcome finds fails start x → IsOutcome finds fails start y → x ≡ y
one_outcome finds fails start decided (ends_at s) (ends_at t) x y =
    ap ends_at (stops_once finds fails start x.0 y.0 s t decided (ending_stops finds fails start s decided x) (ending_stops finds fails start t decided y)).1
one_outcome finds fails start decided runs_out runs_out x y = refl
one_outcome finds fails start decided (fails_in m f) (fails_in n g) x y =
    let same = stops_once finds fails start x.0 y.0 x.1 y.1 decided (failing_stops finds fails start m f decided x) (failing_stops finds fails start n g decided y) in
    let fault : f ≡ g = decided.one_fault x.1 f g x.5 (subst (λ s. fails s g) (sym same.1) y.5) in
    let turn : m ≡ n = x.2 ∙ ap suc same.0 ∙ sym y.2 in
    ap (λ k. fails_in k f) turn ∙ ap (fails_in n) fault
one_outcome finds fails start decided (ends_at s) runs_out x y =
    absurd (stops_before finds fails start x.0 y.0 s y.1 decided (ending_stops finds fails start s decided x) y.3 (omega (arith, x.2, y.2)))
one_outcome finds fails start decided runs_out (ends_at s) x y =
    absurd (stops_before finds fails start y.0 x.0 s x.1 decided (ending_stops finds fails start s decided y) x.3 (omega (arith, x.2, y.2)))
one_outcome finds fails start decided runs_out (fails_in n g) x y =
    absurd (stops_before finds fails start y.0 x.0 y.1 x.1 decided (failing_stops finds fails start n g decided y) x.3 (omega (arith, x.2, y.3)))
one_outcome finds fails start decided (fails_in n g) runs_out x y =
    absurd (stops_before finds fails start x.0 y.0 x.1 y.1 decided (failing_stops finds fails start n g decided x) y.3 (omega (arith, y.2, x.3)))
one_outcome finds fails start decided (ends_at s) (fails_in n g) x y =
    let same = stops_once finds fails start x.0 y.0 s y.1 decided (ending_stops finds fails start s decided x) (failing_stops finds fails start n g decided y) in
    absurd (decided.not_both s x.1 g x.4 (subst (λ t. fails t g) (sym same.1) y.5))
one_outcome finds fails start decided (fails_in n g) (ends_at s) x y =
    let same = stops_once finds fails start y.0 x.0 s x.1 decided (ending_stops finds fails start s decided y) (failing_stops finds fails start n g decided x) in
    absurd (decided.not_both s y.1 g y.4 (subst (λ t. fails t g) (sym same.1) x.5))
