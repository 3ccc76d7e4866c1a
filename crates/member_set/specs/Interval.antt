-- The interval that each call answers, or its fault, rounding by rounding.
use Rattle.std.specs.Prelude.{◌≡◌, ◌<◌, ◌≤◌, ℕ, zero, suc, ◌+◌, ◌-◌, ◌*◌, ◌/◌, ◌^◌, ◌&&◌, ◌==◌, nat_lt, List, length, slice_index, slice_index_or, ℤ, pos, unsigned_abs, Result, Ok, Err, if◌then◌else◌}
use Rattle.flex_interval.specs.Ends.{Ends}
use Rattle.flex_interval.specs.Operations.{point_of, add_of, sub_of, mul_of, max_of}
use Rattle.lists.specs.Results.{and_then}
use Rattle.flex_interval.specs.declared.fault.IvFault.{IvFault}
use Rattle.flex_interval.specs.declared.fault.IvFault.TheVariants.{Wide}
use Rattle.member_set.specs.declared.members.Member.{Member}
use Rattle.member_set.specs.declared.members.Law.{Law}
use Rattle.member_set.specs.declared.members.Law.TheVariants.{Linear, Oneway}
use Rattle.member_set.specs.declared.members.Built.{Built}
use Rattle.member_set.specs.Members.{nothing, shape_at, start_of, member_of, law_of, load_of, force_of, members_at, System}

-- an interval, or why there is none
abbrev pub Outcome : Type 0
Outcome = Result Ends IvFault

-- the interval of an outcome; that of 0 alone where there is none
abbrev pub found : Outcome → Ends
found (Ok e) = e
found (Err _) = nothing

-- the first n terms, one after the other, added to a start or taken from it
abbrev pub in_turn : (Ends → Ends → Outcome) → Ends → (ℕ → Outcome) → ℕ → Outcome
in_turn step start term zero = Ok start
in_turn step start term (suc n) = and_then (in_turn step start term n) (λ total. and_then (term n) (λ e. step total e))

-- a fault stays to the end
abbrev pub FaultsStay : Type 0
FaultsStay = (step : Ends → Ends → Outcome) (start : Ends) (term : ℕ → Outcome) (k n : ℕ) (fault : IvFault) →
    k ≤ n → in_turn step start term k ≡ Err fault → in_turn step start term n ≡ Err fault

-- how many shape numbers a member has: a member at one node only has the first six
abbrev pub place_count : Member → ℕ
place_count m = if m.n1 == m.n2 then 6 else 12

-- the row of a shape number's place
abbrev pub touched_row : Member → ℕ → ℕ
touched_row m place = if nat_lt place 6 then 6 * m.n1 + place else 6 * m.n2 + (place - 6)

-- a displacement of each row, as an interval: u itself, or bounds of it
abbrev pub points : List ℤ → ℕ → Ends
points u row = point_of (slice_index_or u row (pos 0))

abbrev pub intervals : List Ends → ℕ → Ends
intervals bounds row = slice_index_or bounds row nothing

-- one term of w.u
abbrev pub reach_term : Member → (ℕ → Ends) → ℕ → Outcome
reach_term m displacement place = mul_of (slice_index_or m.w place nothing) (displacement (touched_row m place)) 56

-- w.u
unfoldable pub reach_of : Member → (ℕ → Ends) → Outcome
reach_of m displacement = in_turn add_of nothing (reach_term m displacement) (place_count m)

-- what counts of a reach past the start: all of it, or nothing below 0
abbrev pub counted_of : Law → Ends → Ends
counted_of (Linear offset) past = past
counted_of (Oneway gap) past = max_of nothing past

-- the force by the law: kappa (x - start), and none below the gap of a one-way law
abbrev pub law_force_of : Member → Law → Ends → Outcome
law_force_of m law x = and_then (sub_of x (start_of law)) (λ past. mul_of m.kappa (counted_of law past) 36)

-- below 2^66 in size
abbrev pub limited_force : Ends → Outcome
limited_force f = if nat_lt (unsigned_abs f.lo) (2 ^ 66) && nat_lt (unsigned_abs f.hi) (2 ^ 66) then Ok f else Err Wide

-- the force of a member at displacements u, below 2^66 in size
unfoldable pub member_force_of : Member → Law → List ℤ → Outcome
member_force_of m law u = and_then (reach_of m (points u)) (λ x. and_then (law_force_of m law x) limited_force)

-- w_row times a force
abbrev pub pull_of : Member → ℕ → Ends → Outcome
pull_of m row force = mul_of (shape_at m row) force 56

-- what the t-th of the members at a row's node holds against the row's load
abbrev pub residual_term : Built → (ℕ → Outcome) → ℕ → ℕ → Outcome
residual_term b force row t =
    let k = slice_index (members_at b (row / 6)) t in and_then (force k) (pull_of (member_of b k) row)

-- the load of a row less w_row times force of each member at the row's node
unfoldable pub residual_with : Built → List Ends → (ℕ → Outcome) → ℕ → Outcome
residual_with b loads force row =
    in_turn sub_of (load_of loads row) (residual_term b force row) (length (members_at b (row / 6)))

-- the forces of the members at displacements u
abbrev pub forces_of : Built → List Law → List ℤ → ℕ → Outcome
forces_of b laws u k = member_force_of (member_of b k) (law_of laws k) u

-- the same, where the forces are those of displacements u
abbrev pub residual_of : System → List ℤ → ℕ → Outcome
residual_of s u row = residual_with s.structure s.loads (forces_of s.structure s.laws u) row

-- the list has each member's force
pub record HaveForces (b : Built) (force : ℕ → Outcome) (forces : List Ends) : Type 0 where
  pub one_each : length forces ≡ length b.members
  pub value : (k : ℕ) → k < length b.members → force k ≡ Ok (force_of forces k)
