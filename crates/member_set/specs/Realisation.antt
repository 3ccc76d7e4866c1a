-- A realisation of the enclosures and its equilibria, in whole numbers alone: what the certified bounds speak of. No
-- matrix, elimination order, factor or rounding stands in it.
--
-- A number of a realisation stands over the realisation's denominator, in the unit of its enclosure: stiffnesses in
-- 2^-20 N/m, shape numbers in 2^-56, displacements and initial deformations in 2^-56 m or rad, loads in 2^-40 N or N m.
use Rattle.std.specs.Prelude.{ℕ, ◌^◌, ◌<◌, ◌≡◌, List, length, slice_index_or, Bool, true, false, if◌then◌else◌, ℤ, pos, ◌-ℤ◌, ◌*ℤ◌, ◌<ℤ◌, ◌≤ℤ◌, ⊤}
use Rattle.int_laws.specs.Sums.{sum_below}
use Rattle.int_laws.specs.Matrices.{Vector, Entries}
use Rattle.flex_interval.specs.Ends.{Ends}
use Rattle.flex_interval.specs.Fraction.{Fraction, Within}
use Rattle.member_set.specs.declared.members.Member.{Member}
use Rattle.member_set.specs.declared.members.Built.{Built}
use Rattle.member_set.specs.declared.members.Law.{Law}
use Rattle.member_set.specs.declared.members.Law.TheVariants.{Linear, Oneway}
use Rattle.std.specs.Int.{int_max}
use Rattle.member_set.specs.Members.{nothing, shape_at, start_of, member_of, law_of, load_of, force_of, row_count, System}

-- n / q
abbrev pub fraction : ℤ → ℤ → Fraction
fraction n q = record { num = n; den = q }

-- a member's law in a realisation. A linear law has no number of its own: where its force begins is a number of the case.
-- The gap of a one-way law is a number of the structure
pub data ExactLaw : Type 0 where
  linear : ExactLaw
  oneway : ℤ → ExactLaw

-- a member in a realisation: its stiffness K, its shape number W on each row, and its law
pub record ExactMember : Type 0 where
  pub stiffness : ℤ
  pub shape : Vector
  pub law : ExactLaw

-- the numbers of a structure, whatever the case: its members over a denominator
pub record Stiffness : Type 0 where
  pub denominator : ℤ
  pub rows : ℕ
  pub members : ℕ
  pub member : ℕ → ExactMember

-- the numbers of a case, over the denominator of a stiffness: the initial deformation of each member, and the load of each row
pub record CaseNumbers : Type 0 where
  pub offset : Vector
  pub load : Vector

-- a structure under the loads of a case. Two cases of one structure can have one and the same stiffness
pub record Realisation : Type 0 where
  pub stiffness : Stiffness
  pub numbers : CaseNumbers

-- ---- what a realisation is of

-- the law is of its kind, and a number of its own is within its interval
abbrev pub IsLawWithin : ℤ → Law → ExactLaw → Type 0
IsLawWithin q (Linear offset) linear = ⊤
IsLawWithin q (Linear offset) (oneway g) = ⊥
IsLawWithin q (Oneway gap) linear = ⊥
IsLawWithin q (Oneway gap) (oneway g) = Within gap (fraction g q)

-- the initial deformation is within its interval; a one-way law has none
abbrev pub IsOffsetWithin : ℤ → Law → ℤ → Type 0
IsOffsetWithin q (Linear offset) d = Within offset (fraction d q)
IsOffsetWithin q (Oneway gap) d = ⊤

-- each number of a member is within its interval
pub record IsMemberWithin (q : ℤ) (m : Member) (law : Law) (x : ExactMember) : Type 0 where
  pub stiffness_within : Within m.kappa (fraction x.stiffness q)
  pub shape_within : (row : ℕ) → Within (shape_at m row) (fraction (x.shape row) q)
  pub law_within : IsLawWithin q law x.law

-- each stiffness and shape number of the structure is within its interval, whatever the others are
pub record IsStiffnessOf (b : Built) (laws : List Law) (s : Stiffness) : Type 0 where
  pub positive : pos 0 <ℤ s.denominator
  pub all_rows : s.rows ≡ row_count b
  pub all_members : s.members ≡ length b.members
  pub member_within : (k : ℕ) → k < s.members → IsMemberWithin s.denominator (member_of b k) (law_of laws k) (s.member k)

-- each initial deformation and load is within its interval, over the denominator of the stiffness
pub record AreCaseNumbers (s : System) (stiffness : Stiffness) (numbers : CaseNumbers) : Type 0 where
  pub offset_within : (k : ℕ) → k < stiffness.members → IsOffsetWithin stiffness.denominator (law_of s.laws k) (numbers.offset k)
  pub load_within : (row : ℕ) → row < stiffness.rows → Within (load_of s.loads row) (fraction (numbers.load row) stiffness.denominator)

-- the stiffness is one of the structure, and the numbers are some of the case
pub record IsRealisation (s : System) (r : Realisation) : Type 0 where
  pub stiffness : IsStiffnessOf s.structure s.laws r.stiffness
  pub numbers : AreCaseNumbers s r.stiffness r.numbers

-- ---- forces and equilibrium at displacements U, whole numbers over the denominator q

-- W.U, over all rows: 2^56 q^2 times how far the displacements reach along the member
abbrev pub exact_reach : ℕ → ExactMember → Vector → ℤ
exact_reach rows m u = sum_below rows (λ row. m.shape row *ℤ u row)

-- where the force begins: at the initial deformation, or at the gap
abbrev pub start_in : ExactLaw → ℤ → ℤ
start_in linear offset = offset
start_in (oneway g) offset = g

-- by how much a reach is past that: below 0 where it falls short
abbrev pub past_start : ℤ → ExactLaw → ℤ → ℤ → ℤ
past_start q law offset reach = reach -ℤ ((pos (2 ^ 56) *ℤ q) *ℤ start_in law offset)

-- what of a reach counts for the force: all that is past the start, where the law is linear; else nothing below 0
abbrev pub stretch : ℤ → ExactLaw → ℤ → ℤ → ℤ
stretch q linear offset reach = past_start q linear offset reach
stretch q (oneway g) offset reach = int_max (pos 0) (past_start q (oneway g) offset reach)

-- the force is proportional to all that is past the start
abbrev pub is_linear : ExactLaw → Bool
is_linear linear = true
is_linear (oneway g) = false

-- F = K times what counts, which is W.U - 2^56 q D for a linear law: 2^92 q^3 times the member's force
abbrev pub exact_force : ℤ → ExactMember → ℤ → ℤ → ℤ
exact_force q m offset reach = m.stiffness *ℤ stretch q m.law offset reach

-- how far displacements reach along a member
abbrev pub reach_in : Stiffness → Vector → ℕ → ℤ
reach_in s u k = exact_reach s.rows (s.member k) u

abbrev pub force_in : Realisation → Vector → ℕ → ℤ
force_in r u k = exact_force r.stiffness.denominator (r.stiffness.member k) (r.numbers.offset k) (reach_in r.stiffness u k)

-- by how much the reach along a member is past where its force begins
abbrev pub past_in : Realisation → Vector → ℕ → ℤ
past_in r u k = past_start r.stiffness.denominator (r.stiffness.member k).law (r.numbers.offset k) (reach_in r.stiffness u k)

-- the contact state of a one-way member: open where its reach is at most the gap, closed where it is at least the gap
abbrev pub IsInState : Realisation → Vector → ℕ → Bool → Type 0
IsInState r u k false = past_in r u k ≤ℤ pos 0
IsInState r u k true = pos 0 ≤ℤ past_in r u k

-- the sum over the members of W_row F: what they hold against the load of a row
abbrev pub resistance : Realisation → Vector → ℕ → ℤ
resistance r u row = sum_below r.stiffness.members (λ k. (r.stiffness.member k).shape row *ℤ force_in r u k)

-- ---- what every law keeps

-- with s the change of what counts of a reach, and d the change of the reach: s s ≤ s d, and s = d where the law is linear
pub record KeepsStretch (law : ExactLaw) (s d : ℤ) : Type 0 where
  pub between : (s *ℤ s) ≤ℤ (s *ℤ d)
  pub whole : is_linear law ≡ true → s ≡ d

-- each law does, from any reach to any other
abbrev pub LawsKeepStretch : Type 0
LawsKeepStretch = (q : ℤ) (law : ExactLaw) (offset x y : ℤ) →
    KeepsStretch law (stretch q law offset x -ℤ stretch q law offset y) (x -ℤ y)

-- 2^148 q^3 L
abbrev pub exact_load : Realisation → ℕ → ℤ
exact_load r row =
    (pos (2 ^ 148) *ℤ ((r.stiffness.denominator *ℤ r.stiffness.denominator) *ℤ r.stiffness.denominator)) *ℤ r.numbers.load row

-- every row is in balance
abbrev pub IsEquilibrium : Realisation → Vector → Type 0
IsEquilibrium r u = (row : ℕ) → row < r.stiffness.rows → resistance r u row ≡ exact_load r row

-- ---- the stiffness matrix

-- 2^112 q^3: a product of a stiffness and two shape numbers is so many times its value in 2^-20 N/m
abbrev pub entry_unit : ℤ → ℤ
entry_unit q = pos (2 ^ 112) *ℤ ((q *ℤ q) *ℤ q)

-- every member takes part
abbrev pub every_member : ℕ → Bool
every_member k = true

-- the members whose law is linear, which take part at all displacements
abbrev pub linear_members : Stiffness → ℕ → Bool
linear_members s k = is_linear (s.member k).law

-- the entry in a row and column: the sum of W_row K W_col over the members that take part, 2^112 q^3 times its value
abbrev pub exact_entry : (ℕ → Bool) → Stiffness → Entries
exact_entry takes_part s row col =
    sum_below s.members (λ k.
    if takes_part k then (s.member k).shape row *ℤ ((s.member k).stiffness *ℤ (s.member k).shape col) else pos 0)

-- where all laws are linear, every member takes part at all displacements
abbrev pub LinearIsEveryMember : Type 0
LinearIsEveryMember = (s : Stiffness) → ((k : ℕ) → k < s.members → is_linear (s.member k).law ≡ true) → (row col : ℕ) →
    exact_entry (linear_members s) s row col ≡ exact_entry every_member s row col

-- ---- displacements in whole units

-- displacements u in whole units, over the denominator q
abbrev pub displaced : ℤ → List ℤ → Vector
displaced q u row = q *ℤ slice_index_or u row (pos 0)

-- ---- the same as fractions, in the units of the enclosures

-- a reach, and a force, by their whole numbers
abbrev pub reach_fraction : ℤ → ℤ → Fraction
reach_fraction q reach = fraction reach (pos (2 ^ 56) *ℤ (q *ℤ q))

abbrev pub force_fraction : ℤ → ℤ → Fraction
force_fraction q force = fraction force (pos (2 ^ 92) *ℤ ((q *ℤ q) *ℤ q))

abbrev pub pull_fraction : ℤ → ℤ → Fraction
pull_fraction q pull = fraction pull (pos (2 ^ 148) *ℤ (((q *ℤ q) *ℤ q) *ℤ q))

-- each member's force at displacements U is within its interval
abbrev pub HoldForces : Realisation → Vector → List Ends → Type 0
HoldForces r u forces = (k : ℕ) → k < r.stiffness.members →
    Within (force_of forces k) (force_fraction r.stiffness.denominator (force_in r u k))

-- what is left of a row's load: 0 in an equilibrium
abbrev pub exact_residual : Realisation → Vector → ℕ → Fraction
exact_residual r u row = pull_fraction r.stiffness.denominator (exact_load r row -ℤ resistance r u row)

-- ---- what is always there

-- all lower ends, over 1
abbrev pub lower_law : Law → ExactLaw
lower_law (Linear offset) = linear
lower_law (Oneway gap) = oneway gap.lo

abbrev pub lower_offset : Law → ℤ
lower_offset (Linear offset) = offset.lo
lower_offset (Oneway gap) = pos 0

abbrev pub lower_stiffness : Built → List Law → Stiffness
lower_stiffness b laws =
    record {
      denominator = pos 1;
      rows = row_count b;
      members = length b.members;
      member = λ k. record {
        stiffness = (member_of b k).kappa.lo;
        shape = λ row. (shape_at (member_of b k) row).lo;
        law = lower_law (law_of laws k);
      };
    }

abbrev pub lower_ends : System → Realisation
lower_ends s =
    record {
      stiffness = lower_stiffness s.structure s.laws;
      numbers = record { offset = λ k. lower_offset (law_of s.laws k); load = λ row. (load_of s.loads row).lo };
    }

-- every interval holds a number
pub record HoldNumbers (s : System) : Type 0 where
  pub stiffnesses : (k : ℕ) → k < length s.structure.members → (member_of s.structure k).kappa.lo ≤ℤ (member_of s.structure k).kappa.hi
  pub shapes : (k row : ℕ) → k < length s.structure.members →
      (shape_at (member_of s.structure k) row).lo ≤ℤ (shape_at (member_of s.structure k) row).hi
  pub starts : (k : ℕ) → k < length s.structure.members → (start_of (law_of s.laws k)).lo ≤ℤ (start_of (law_of s.laws k)).hi
  pub loads_hold : (row : ℕ) → row < row_count s.structure → (load_of s.loads row).lo ≤ℤ (load_of s.loads row).hi

-- there is a realisation: that of all lower ends
abbrev pub LowerEndsAreRealisation : Type 0
LowerEndsAreRealisation = (s : System) → HoldNumbers s → IsRealisation s (lower_ends s)

-- no initial deformation, and no gap below 0
abbrev pub IsSlack : Law → Type 0
IsSlack (Linear offset) = offset ≡ nothing
IsSlack (Oneway gap) = pos 0 ≤ℤ gap.lo

-- no load, and no force without displacements
pub record IsAtRest (s : System) : Type 0 where
  pub slack : (k : ℕ) → k < length s.structure.members → IsSlack (law_of s.laws k)
  pub no_load : (row : ℕ) → row < row_count s.structure → load_of s.loads row ≡ nothing

-- zero displacements are an equilibrium of every realisation of a structure at rest
abbrev pub RestIsEquilibrium : Type 0
RestIsEquilibrium = (s : System) (r : Realisation) → IsAtRest s → IsRealisation s r → IsEquilibrium r (λ _. pos 0)
