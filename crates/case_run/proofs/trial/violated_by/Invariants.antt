use Rattle.std.specs.Prelude.{is_err}
use Rattle.std.proofs.Common.{◌≡◌, ◌<◌, ℕ, false, length}
use Rattle.member_set.specs.Members.{system}
use Rattle.case_run.specs.Trials.{state_at, past_at}
use Rattle.case_run.proofs.GivenTrial.{violation}
use Rattle.case_run.proofs.trial.violated_by.Given as goal

-- the states below a number are told, and their reaches are found
abbrev pub invariant-loop-number : goal.invariant-loop-number
invariant-loop-number g l = record {
  one_each : length l.violated.items ≡ length l.closed;
  told : (k : ℕ) → k < l.number → state_at l.violated.items k ≡ violation (system l.t.b.now l.t.laws.now l.t.loads.now) l.u l.closed k;
  found : (k : ℕ) → k < l.number → is_err (past_at (system l.t.b.now l.t.laws.now l.t.loads.now) l.u k) ≡ false;
}
