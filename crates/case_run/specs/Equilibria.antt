-- What the answer of a case says of every equilibrium: of no matrix, factor or rounding.
use Rattle.std.specs.Prelude.{ℕ, ◌+◌, ◌<◌, ⊤, Bool, false, List, length, slice_index, slice_index_or, slice_get, ◌≡◌, Some}
use Rattle.flex_interval.specs.Ends.{Ends}
use Rattle.flex_interval.specs.Fraction.{Within}
use Rattle.member_set.specs.Members.{nothing}
use Rattle.member_set.specs.Realisation.{Realisation, IsInState, force_in, fraction, force_fraction}
use Rattle.int_laws.specs.Matrices.{Vector}
use Rattle.model_types.specs.Lists.{Lists}
use Rattle.model_types.specs.declared.answers.Bounds.{Bounds}
use Rattle.model_types.specs.declared.answers.CaseAnswer.{CaseAnswer}
use Rattle.model_types.specs.declared.answers.CaseAnswer.TheVariants.{Certified, Uncertified}
use Rattle.structure.specs.Elements.{element_member_count}
use Rattle.structure.specs.Restraints.{unilateral_of}
use Rattle.load_vectors.specs.Equilibria.{OfEquilibria}
use Rattle.model_types.specs.Fits.{bounds_of, ends_of}

-- the bounds at a place of a list
abbrev pub ends_at : List Bounds → ℕ → Ends
ends_at bounds place = ends_of (slice_index_or bounds place (bounds_of nothing))

-- each displacement, and the force of each member of a restraint, is within its bounds; each contact is in its state, where
-- `true` is closed
pub record AreWithin (m : Lists) (r : Realisation) (exact : Vector) (u loads : List Bounds) (states : List Bool) : Type 0 where
  pub displacement : (row : ℕ) → row < r.stiffness.rows → Within (ends_at u row) (fraction (exact row) r.stiffness.denominator)
  pub load : (k : ℕ) → element_member_count m + k < r.stiffness.members →
      Within (ends_at loads k) (force_fraction r.stiffness.denominator (force_in r exact (element_member_count m + k)))
  pub state : (number : ℕ) → number < length (unilateral_of m) →
      IsInState r exact (slice_index (unilateral_of m) number) (slice_index_or states number false)

-- certified bounds and states hold in every equilibrium
abbrev pub HoldsAlways : Lists → ℕ → CaseAnswer → Type 0
HoldsAlways m case (Certified u loads states) = OfEquilibria m case (λ r exact. AreWithin m r exact u loads states)
HoldsAlways m case (Uncertified cause guess) = ⊤

-- each answer does
abbrev pub HoldAlways : Lists → List CaseAnswer → Type 0
HoldAlways m answers = (case : ℕ) (a : CaseAnswer) → slice_get answers case ≡ Some a → HoldsAlways m case a
