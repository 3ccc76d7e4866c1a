use Rattle.std.proofs.Common.{◌≡◌, ◌-◌, ◌↔◌, List, Bool, length, vec_items}
use Rattle.restraint_search.specs.declared.trial.TrialFault.{TrialFault}
use Rattle.restraint_search.specs.Turns.{AfterTurns}
use Rattle.restraint_search.proofs.turns.search.Given as goal

-- the states are those after the turns made so far, and the trial tells what it told before
abbrev pub invariant-loop-turn : goal.invariant-loop-turn
invariant-loop-turn g l = record {
  after : AfterTurns (g.T.Trial.finds l.fn.trial) l.fn.start (l.turn - 1) (vec_items l.closed);
  one_each : length (vec_items l.closed) ≡ g.T.Trial.size l.fn.trial;
  can_try : g.T.Trial.can_try l.trial;
  same_size : g.T.Trial.size l.trial ≡ g.T.Trial.size l.fn.trial;
  same_findings : (states violated : List Bool) → g.T.Trial.finds l.trial states violated ↔ g.T.Trial.finds l.fn.trial states violated;
  same_faults : (states : List Bool) (fault : TrialFault) → g.T.Trial.fails l.trial states fault ↔ g.T.Trial.fails l.fn.trial states fault;
}
