-- Eight turns of refinement as a function of the system: the displacements, or that a turn is too wide.
use Rattle.std.specs.Prelude.{ℕ, zero, suc, ◌-◌, ◌*◌, ◌^◌, nat_lt, nat_le, Bool, not, List, length, replicate, set, Result, Ok, Err, is_err, if◌then◌else◌, ℤ, pos, ◌+ℤ◌, int_le, unsigned_abs}
use Rattle.int_laws.specs.Division.{nearest_of}
use Rattle.int_laws.specs.Matrices.{Vector, Entries}
use Rattle.flex_interval.specs.Operations.{middle_of}
use Rattle.flex_interval.specs.declared.fault.Wide.{Wide}
use Rattle.lists.specs.Listed.{listed}
use Rattle.lists.specs.Results.{and_then}
use Rattle.lists.specs.Rows.{position_of}
use Rattle.lists.specs.Search.{any_below, greatest_to}
use Rattle.member_set.specs.Interval.{found}
use Rattle.solve.specs.Substitution.{at, Numerator, forward_numerator, backward_numerator}
use Rattle.solve.specs.Refinement.{Problem, size_of, problem_residual, forward_side, backward_side}

-- a value, where no number leaves its limit
abbrev pub unless_wide : {A : Type 0} → Bool → A → Result A Wide
unless_wide leaves a = if leaves then Err (record {}) else Ok a

-- ---- G y = r and G^T z = s

-- whether a numerator's sizes sum to 2^126 or more
abbrev pub is_broad : Numerator → Bool
is_broad n = int_le (pos (2 ^ 126)) n.size

-- the first n unknowns of G y = r, each of those before it, and 0 for the others
abbrev pub forward_unknowns : ℕ → Entries → Vector → ℕ → List ℤ
forward_unknowns size g r zero = replicate size (pos 0)
forward_unknowns size g r (suc j) = let y = forward_unknowns size g r j in set y j (nearest_of (forward_numerator g r y j).value (g j j))

-- the solution of G y = r, where no numerator is too broad
abbrev pub forward_of : ℕ → Entries → Vector → Result (List ℤ) Wide
forward_of size g r =
    let y = forward_unknowns size g r size in
    unless_wide (any_below size (λ j. is_broad (forward_numerator g r y j))) y

-- the last n unknowns of G^T z = s, each of those after it, and 0 for the others
abbrev pub backward_unknowns : ℕ → Entries → Vector → ℕ → List ℤ
backward_unknowns size g s zero = replicate size (pos 0)
backward_unknowns size g s (suc n) =
    let z = backward_unknowns size g s n in
    let j = size - suc n in
    set z j (nearest_of (backward_numerator size g s z j).value (g j j))

-- the solution of G^T z = s, where no numerator is too broad
abbrev pub backward_of : ℕ → Entries → Vector → Result (List ℤ) Wide
backward_of size g s =
    let z = backward_unknowns size g s size in
    unless_wide (any_below size (λ j. is_broad (backward_numerator size g s z j))) z

-- ---- a turn

-- the middles of the residuals of displacements u, where every row has one
abbrev pub middles_of : Problem → List ℤ → Result (List ℤ) Wide
middles_of p u =
    unless_wide (any_below (size_of p) (λ row. is_err (problem_residual p u row))) (listed (size_of p) (λ row. middle_of (found (problem_residual p u row))))

-- whether 2^digits times each number is below 2^106 in size
abbrev pub has_room : List ℤ → ℕ → Bool
has_room r digits = not (any_below (length r) (λ row. nat_le (2 ^ 106) (unsigned_abs (at r row) * 2 ^ digits)))

-- the most digits, of at most 56, for which there is room
abbrev pub scale_of : List ℤ → Result ℕ Wide
scale_of r = unless_wide (not (has_room r 0)) (greatest_to 56 (has_room r))

-- u with the solution z added, which stands in the order of elimination
abbrev pub moved_at : Problem → List ℤ → List ℤ → ℕ → ℤ
moved_at p u z row = at u row +ℤ at z (position_of p.order row)

-- the same for all rows, where none passes 2^60 in size
abbrev pub moved_by : Problem → List ℤ → List ℤ → Result (List ℤ) Wide
moved_by p u z = unless_wide (any_below (size_of p) (λ row. nat_lt (2 ^ 60) (unsigned_abs (moved_at p u z row)))) (listed (size_of p) (moved_at p u z))

-- one turn from displacements u: the middles of the residuals, scaled, solved for, and the solution added
abbrev pub turn_of : Problem → List ℤ → Result (List ℤ) Wide
turn_of p u =
    and_then (middles_of p u) (λ r.
    and_then (scale_of r) (λ digits.
    and_then (forward_of (size_of p) p.factor (forward_side p.order r digits)) (λ y.
    and_then (backward_of (size_of p) p.factor (backward_side y digits)) (moved_by p u))))

-- n turns from rest
abbrev pub turns_of : Problem → ℕ → Result (List ℤ) Wide
turns_of p zero = Ok (replicate (size_of p) (pos 0))
turns_of p (suc n) = and_then (turns_of p n) (turn_of p)
