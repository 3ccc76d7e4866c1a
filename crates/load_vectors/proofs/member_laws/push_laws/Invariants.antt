use Rattle.std.proofs.Common.{◌≡◌, ◌++◌, ◌<◌, ℕ}
use Rattle.flex_interval.specs.Fraction.{Within}
use Rattle.lists.specs.Listed.{listed}
use Rattle.member_set.specs.Members.{start_of}
use Rattle.restraint_law.specs.States.{case_law, exact_start}
use Rattle.load_vectors.proofs.member_laws.push_laws.Given as goal

abbrev pub invariant-loop-part : goal.invariant-loop-part
invariant-loop-part l = record {
  value : l.laws.items ≡ l.fn.laws.items ++ listed l.part (case_law l.r.kind l.moved);
  encloses : (part : ℕ) → part < l.part → Within (start_of (case_law l.r.kind l.moved part)) (exact_start l.r.kind l.moved part);
}
