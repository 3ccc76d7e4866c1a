-- What an answer says that tells the bounds of an enclosure.
use Rattle.std.specs.Prelude.{slice_index, slice_index_or}
use Rattle.std.proofs.Common.{◌≡◌, ℕ, ◌+◌, ◌<◌, false, ap, ◌∙◌, refl, Ok, List, length, map, drop, get_or}
use Rattle.std.proofs.Math.ListN.{get_or-map}
use Rattle.std.proofs.lemmas.List.{get_or-drop}
use Rattle.flex_interval.specs.Ends.{Ends}
use Rattle.member_set.specs.Members.{nothing}
use Rattle.member_set.specs.Realisation.{Realisation, IsInState}
use Rattle.int_laws.specs.Matrices.{Vector}
use Rattle.model_types.specs.Lists.{Lists}
use Rattle.model_types.specs.declared.answers.Bounds.{Bounds}
use Rattle.certificate.specs.declared.bounds.Enclosure.{Enclosure}
use Rattle.certificate.specs.Bounds.{EnclosesEquilibrium}
use Rattle.case_run.specs.Answers.{answer_with}
use Rattle.structure.specs.Elements.{element_member_count}
use Rattle.structure.specs.Restraints.{unilateral_of}
use Rattle.model_types.specs.Fits.{bounds_of}
use Rattle.load_vectors.specs.Equilibria.{OfEquilibria}
use Rattle.model_types.specs.Fits.{ends_of}
use Rattle.case_run.specs.Equilibria.{AreWithin, HoldsAlways, ends_at}

ends_at-map : (es : List Ends) (k : ℕ) → ends_at (map bounds_of es) k ≡ get_or es k nothing
ends_at-map es k = ap ends_of (get_or-map bounds_of es k nothing)

ends_at-drop : (first : ℕ) (es : List Ends) (k : ℕ) → ends_at (map bounds_of (drop first es)) k ≡ get_or es (first + k) nothing
ends_at-drop first es k = ends_at-map (drop first es) k ∙ get_or-drop first es k nothing

-- the bounds and states of an enclosure hold in an equilibrium
pub record HoldsIn (m : Lists) (e : Enclosure) (r : Realisation) (exact : Vector) : Type 0 where
  pub encloses : EnclosesEquilibrium e r exact
  pub states : (number : ℕ) → number < length (unilateral_of m) → IsInState r exact (slice_index (unilateral_of m) number) (slice_index_or e.closed number false)

told_within : (m : Lists) (e : Enclosure) (u loads : List Bounds) (r : Realisation) (exact : Vector) →
    u ≡ map bounds_of e.u → loads ≡ map bounds_of (drop (element_member_count m) e.force) → HoldsIn m e r exact → AreWithin m r exact u loads e.closed
told_within m e u loads r exact u_is loads_are holds =
    let first = element_member_count m in
    record {
      displacement = λ row inside. rw (u_is, ends_at-map e.u row) (holds.encloses.displacement row inside);
      load = λ k inside. rw (loads_are, ends_at-drop first e.force k) (holds.encloses.force (first + k) inside);
      state = holds.states;
    }

pub told_holds : (m : Lists) (case : ℕ) (e : Enclosure) → OfEquilibria m case (HoldsIn m e) → HoldsAlways m case (answer_with (element_member_count m) (Ok e))
told_holds m case e holds = λ b loads r exact structure loaded real balance.
    told_within m e _ _ r exact refl refl (holds b loads r exact structure loaded real balance)
