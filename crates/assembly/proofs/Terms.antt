-- The sum of an entry, member by member of a list.
use Rattle.std.proofs.Common.{◌≡◌, ℕ, ◌+◌, ◌/◌, ◌<◌, ◌⊎◌, List, length, slice_index, add-one, Ok, Err, sym, arith}
use Rattle.flex_interval.specs.Ends.{Ends}
use Rattle.flex_interval.specs.Operations.{add_of}
use Rattle.lists.specs.Results.{and_then}
use Rattle.flex_interval.specs.declared.fault.IvFault.{IvFault}
use Rattle.member_set.specs.declared.members.Built.{Built}
use Rattle.member_set.specs.Members.{IsBuilt, nothing, members_at, row_count}
use Rattle.member_set.specs.Interval.{Outcome, in_turn, FaultsStay}
use Rattle.assembly.specs.Stiffness.{entry_sum}
use Rattle.assembly.specs.Filling.{pair_entry}
use Rattle.assembly.proofs.Walks.{walked_sum}

-- what the t-th member of a list gives
abbrev pub listed_term : Built → ℕ → ℕ → List ℕ → ℕ → Outcome
listed_term b row col numbers t = pair_entry b row col (slice_index numbers t)

-- one member more
pub term-next : (b : Built) (row col n : ℕ) (numbers : List ℕ) (total : Ends) (after : Outcome) →
    in_turn add_of nothing (listed_term b row col numbers) n ≡ Ok total → after ≡ and_then (pair_entry b row col (slice_index numbers n)) (add_of total) →
    in_turn add_of nothing (listed_term b row col numbers) (n + 1) ≡ after
term-next b row col n numbers total after before now = rw (add-one n, before) (sym now)

-- the whole sum, where the list is that of either node
pub terms-whole : (b : Built) → IsBuilt b → (row col walked : ℕ) (numbers : List ℕ) → row < row_count b → col < row_count b → (walked ≡ row) ⊎ (walked ≡ col) →
    numbers ≡ members_at b (walked / 6) → in_turn add_of nothing (listed_term b row col numbers) (length numbers) ≡ entry_sum b row col
terms-whole b built row col walked numbers row_inside col_inside own items = rw items (walked_sum b built row col walked row_inside col_inside own)

-- a fault is that of the whole
pub terms-fault : FaultsStay → (b : Built) (row col n : ℕ) (numbers : List ℕ) (fault : IvFault) → n < length numbers →
    in_turn add_of nothing (listed_term b row col numbers) (n + 1) ≡ Err fault → in_turn add_of nothing (listed_term b row col numbers) (length numbers) ≡ Err fault
terms-fault stays b row col n numbers fault inside at = stays add_of nothing (listed_term b row col numbers) (n + 1) (length numbers) fault (omega arith) at
