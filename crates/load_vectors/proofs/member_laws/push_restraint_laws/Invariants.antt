use Rattle.std.proofs.Common.{◌≡◌, ◌++◌, ◌<◌, ℕ}
use Rattle.std.specs.List.{flat_map, range_with_len}
use Rattle.flex_interval.specs.Fraction.{Within}
use Rattle.member_set.specs.Members.{start_of}
use Rattle.model_types.specs.MemberCounts.{restraint_member_count}
use Rattle.restraint_law.specs.States.{case_law, exact_start}
use Rattle.structure.specs.Restraints.{restraint_at}
use Rattle.load_vectors.specs.Cases.{move_of}
use Rattle.load_vectors.specs.Laws.{restraint_laws}
use Rattle.load_vectors.proofs.member_laws.push_restraint_laws.Given as goal

abbrev pub invariant-loop-number : goal.invariant-loop-number
invariant-loop-number l = record {
  value : l.laws.items ≡ l.fn.laws.items ++ flat_map (restraint_laws l.m l.case.0) (range_with_len 0 l.number);
  encloses : (n part : ℕ) → n < l.number → part < restraint_member_count (restraint_at l.m n).kind →
      Within (start_of (case_law (restraint_at l.m n).kind (move_of l.m l.case.0 n) part)) (exact_start (restraint_at l.m n).kind (move_of l.m l.case.0 n) part);
}
