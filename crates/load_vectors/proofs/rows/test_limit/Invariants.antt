use Rattle.std.proofs.Common.{◌≡◌, ◌<◌, ℕ, Ok}
use Rattle.member_set.specs.Interval.{limited_force}
use Rattle.member_set.specs.Members.{load_of}
use Rattle.load_vectors.proofs.rows.test_limit.Given as goal

abbrev pub invariant-loop-row : goal.invariant-loop-row
invariant-loop-row l = (row : ℕ) → row < l.row → limited_force (load_of l.loads row) ≡ Ok (load_of l.loads row)
