use Rattle.std.proofs.Common.{◌≡◌, ℕ, ◌/◌, ◌<◌, length, slice_index}
use Rattle.member_set.specs.Members.{members_at}
use Rattle.member_set.specs.States.{under}
use Rattle.assembly.specs.Filling.{ScalesFirst}
use Rattle.assembly.proofs.scaling.scale.Given as goal

abbrev pub invariant-loop-k : goal.invariant-loop-k
invariant-loop-k l =
    record {
      items : l.k-items ≡ members_at l.b (l.row / 6);
      inside : (t : ℕ) → t < length l.k-items → slice_index l.k-items t < length l.b.members;
      one_each : length l.scaled ≡ length l.b.members;
      scaled : ScalesFirst (under l.b l.closed) l.row l.k-index l.scaled;
    }
