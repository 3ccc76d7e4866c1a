-- The records of a case that are found.
use Rattle.std.proofs.Common.{ℕ, List, All, inl, inr, subst, Some, None, slice_get, Option}
use Rattle.std.specs.Prelude.{IfSome}
use Rattle.std.proofs.lemmas.Option.{slice_get_cases}
use Rattle.model_types.specs.declared.records.Temp.{Temp}
use Rattle.model_types.specs.declared.records.Pressure.{Pressure}
use Rattle.model_types.specs.Ranges.{IsIn}
use Rattle.model_types.specs.declared.ranges.TheConstants.{PRESSURE, TEMPERATURE_CHANGE}
use Rattle.model_types.specs.Places.{found_at}
use Rattle.load_vectors.specs.Cases.{dt_or, p_or}

pub kept_at : {X : Type 0} (P : X → Type 0) (xs : List X) (i : ℕ) → All P xs → IfSome (slice_get xs i) P
kept_at P xs i all =
    elim ((slice_get_cases xs i).1) [
      | inl here ↦ rw here.2 (subst P here.3 (all i here.0 here.1))
      | inr past ↦ rw past.1 tt
    ]

pub kept_found : {X : Type 0} (P : X → Type 0) (xs : List X) (place : Option ℕ) → All P xs → IfSome (found_at xs place) P
kept_found P xs None all = tt
kept_found P xs (Some i) all = kept_at P xs i all

pub dt_in_range : (t : Option Temp) (dt : _) → IfSome t (λ r. IsIn TEMPERATURE_CHANGE r.dt) → IsIn TEMPERATURE_CHANGE dt → IsIn TEMPERATURE_CHANGE (dt_or t dt)
dt_in_range None dt own other = other
dt_in_range (Some r) dt own other = own

pub p_in_range : (t : Option Pressure) (p : _) → IfSome t (λ r. IsIn PRESSURE r.p) → IsIn PRESSURE p → IsIn PRESSURE (p_or t p)
p_in_range None p own other = other
p_in_range (Some r) p own other = own
