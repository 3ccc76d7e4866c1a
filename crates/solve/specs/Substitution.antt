-- Solving G y = r and G^T z = s for the factor G of a matrix, each quotient rounded to the nearest whole number. Entries and
-- unknowns stand in the order of elimination.
use Rattle.std.specs.Prelude.{ℕ, ◌+◌, ◌^◌, ◌<◌, ◌≤◌, ◌≡◌, nat_lt, List, length, slice_index_or, if◌then◌else◌, ℤ, pos, ◌-ℤ◌, ◌+ℤ◌, ◌*ℤ◌, ◌<ℤ◌, ◌≤ℤ◌}
use Rattle.int_laws.specs.Sums.{sum_below}
use Rattle.int_laws.specs.Matrices.{Vector, Entries, absolute}
use Rattle.int_laws.specs.Division.{nearest_of}

-- the number at a position of a list
abbrev pub at : List ℤ → ℕ → ℤ
at xs i = slice_index_or xs i (pos 0)

-- a number of the right side less the terms of the unknowns that are known, and the sum of the sizes of all these
pub record Numerator : Type 0 where
  pub value : ℤ
  pub size : ℤ

-- the sizes sum to less than 2^126
abbrev pub IsNarrow : Numerator → Type 0
IsNarrow n = n.size <ℤ pos (2 ^ 126)

abbrev pub IsBroad : Numerator → Type 0
IsBroad n = pos (2 ^ 126) ≤ℤ n.size

-- x is the numerator divided by the diagonal entry
pub record IsQuotient (n : Numerator) (diagonal x : ℤ) : Type 0 where
  pub narrow : IsNarrow n
  pub value : x ≡ nearest_of n.value diagonal

-- ---- G y = r: each unknown follows from those before it
abbrev pub forward_numerator : Entries → Vector → List ℤ → ℕ → Numerator
forward_numerator g r y j =
    record {
      value = r j -ℤ sum_below j (λ k. g j k *ℤ at y k);
      size = absolute (r j) +ℤ sum_below j (λ k. absolute (g j k *ℤ at y k));
    }

-- the unknowns before j are solved
abbrev pub IsForwardBelow : Entries → Vector → List ℤ → ℕ → Type 0
IsForwardBelow g r y j = (k : ℕ) → k < j → IsQuotient (forward_numerator g r y k) (g k k) (at y k)

-- y solves G y = r
pub record IsForward (n : ℕ) (g : Entries) (r : Vector) (y : List ℤ) : Type 0 where
  pub one_each : length y ≡ n
  pub solved : IsForwardBelow g r y n

-- the sizes of the terms that the unknowns before `known` give a numerator
abbrev pub forward_size : Entries → Vector → List ℤ → ℕ → ℕ → ℤ
forward_size g r y known j = absolute (r j) +ℤ sum_below known (λ k. absolute (g j k *ℤ at y k))

-- a numerator is too broad: the terms of unknowns that are solved already reach the limit
pub record ForwardBreaks (n : ℕ) (g : Entries) (r : Vector) : Type 0 where
  pub y : List ℤ
  pub known : ℕ
  pub position : ℕ
  pub solved_before : IsForwardBelow g r y known
  pub not_past : known ≤ position
  pub inside : position < n
  pub broad : pos (2 ^ 126) ≤ℤ forward_size g r y known position

-- ---- G^T z = s: each unknown follows from those after it
abbrev pub backward_numerator : ℕ → Entries → Vector → List ℤ → ℕ → Numerator
backward_numerator n g s z j =
    record {
      value = s j -ℤ sum_below n (λ i. if nat_lt j i then g i j *ℤ at z i else pos 0);
      size = absolute (s j) +ℤ sum_below n (λ i. if nat_lt j i then absolute (g i j *ℤ at z i) else pos 0);
    }

-- the unknowns from j on are solved
abbrev pub IsBackwardFrom : ℕ → Entries → Vector → List ℤ → ℕ → Type 0
IsBackwardFrom n g s z j = (k : ℕ) → j ≤ k → k < n → IsQuotient (backward_numerator n g s z k) (g k k) (at z k)

-- z solves G^T z = s
pub record IsBackward (n : ℕ) (g : Entries) (s : Vector) (z : List ℤ) : Type 0 where
  pub one_each : length z ≡ n
  pub solved : IsBackwardFrom n g s z 0

-- a numerator is too broad, where all after it are solved
pub record BackwardBreaks (n : ℕ) (g : Entries) (s : Vector) : Type 0 where
  pub z : List ℤ
  pub position : ℕ
  pub inside : position < n
  pub solved_after : IsBackwardFrom n g s z (position + 1)
  pub broad : IsBroad (backward_numerator n g s z position)
