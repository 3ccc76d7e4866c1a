-- The laws of a case that moves nothing.
use Rattle.std.proofs.Common.{◌≡◌, refl, ap, ◌∙◌, ℕ, ℤ, Bool, true, false, Option, Some, None, pos}
use Rattle.int_laws.specs.Division.{floor_of, ceil_of}
use Rattle.flex_interval.specs.Ends.{Ends}
use Rattle.member_set.specs.Members.{nothing}
use Rattle.member_set.specs.declared.members.Law.TheVariants as laws
use Rattle.model_types.specs.Kinds.{is_anchor}
use Rattle.model_types.specs.declared.records.RestraintKind.{RestraintKind}
use Rattle.restraint_law.specs.States.{micrometres_of, law_from, law_past, movement_by, one_way_gap, StillLawsAreOfTheirKind}

nothing_moves : (anchor : Bool) (part : ℕ) → movement_by anchor None part ≡ pos 0
nothing_moves true part = refl
nothing_moves false part = refl

no_micrometres : micrometres_of (pos 0) ≡ nothing
unfolding floor_of ceil_of
no_micrometres = refl

still : (gap : Option ℤ) → law_from gap (pos 0) ≡ law_past gap
still (Some gap) = refl
still None = ap (λ (e : Ends). laws.Linear e) no_micrometres

pub still_laws_are_of_their_kind : StillLawsAreOfTheirKind
still_laws_are_of_their_kind kind part = ap (λ (z : ℤ). law_from (one_way_gap kind) z) (nothing_moves (is_anchor kind) part) ∙ still (one_way_gap kind)
