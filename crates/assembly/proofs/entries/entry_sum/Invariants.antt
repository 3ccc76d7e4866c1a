use Rattle.std.proofs.Common.{◌≡◌, ℕ, ◌<◌, length, slice_index, Ok}
use Rattle.flex_interval.specs.Operations.{add_of}
use Rattle.member_set.specs.Members.{nothing}
use Rattle.member_set.specs.Interval.{in_turn}
use Rattle.member_set.specs.States.{under}
use Rattle.assembly.proofs.Terms.{listed_term}
use Rattle.assembly.proofs.entries.entry_sum.Given as goal

abbrev pub invariant-loop-k : goal.invariant-loop-k
invariant-loop-k l =
    record {
      value : in_turn add_of nothing (listed_term (under l.row.b.now l.row.closed.now) l.row.number l.col l.k-items) l.k-index ≡ Ok l.total;
      inside : (t : ℕ) → t < length l.k-items → slice_index l.k-items t < length l.row.b.now.members;
    }
