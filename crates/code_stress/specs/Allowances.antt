-- The allowable stress of a check at a station.
use Rattle.std.specs.Prelude.{ℕ, List, Option, None, Some, slice_get, ℤ, pos, unsigned_abs, Result, Ok}
use Rattle.flex_interval.specs.Ends.{Ends}
use Rattle.flex_interval.specs.Operations.{point_of}
use Rattle.flex_interval.specs.declared.fault.IvFault.{IvFault}
use Rattle.lists.specs.Results.{and_then}
use Rattle.model_types.specs.Fits.{ends_of}
use Rattle.model_types.specs.declared.answers.CheckAnswer.{CheckAnswer}
use Rattle.model_types.specs.declared.answers.CheckAnswer.TheVariants.{Stations, Unchecked}
use Rattle.model_types.specs.declared.answers.StationAnswer.{StationAnswer}
use Rattle.model_types.specs.declared.answers.StationAnswer.TheVariants.{Judged, Wide}
use Rattle.model_types.specs.declared.ids.CheckId.{CheckId}
use Rattle.model_types.specs.declared.records.CheckKind.{CheckKind}
use Rattle.model_types.specs.declared.records.CheckKind.TheVariants.{Sustained, Occasional, Expansion}
use Rattle.sif_factors.specs.Cycles.{cycle_factor_of}
use Rattle.code_stress.specs.Allowable.{kilopascals, occasional_whole, expansion_allowable_of}

-- the percentage of an occasional check
abbrev pub percent_or_default : Option ℤ → ℤ
percent_or_default None = pos 133
percent_or_default (Some percent) = percent

-- the stress that is judged at a station, where one is
abbrev pub judged_stress : Option StationAnswer → Option Ends
judged_stress (Some (Judged stress allowable)) = Some (ends_of stress)
judged_stress (Some Wide) = None
judged_stress None = None

abbrev pub stress_in : Option CheckAnswer → ℕ → Option Ends
stress_in (Some (Stations answers)) station = judged_stress (slice_get answers station)
stress_in (Some (Unchecked case)) station = None
stress_in None station = None

-- the sustained stress of a station by the check that an expansion check names, among the checks before it
abbrev pub sustained_stress : List CheckAnswer → Option CheckId → ℕ → Option Ends
sustained_stress earlier None station = None
sustained_stress earlier (Some check) station = stress_in (slice_get earlier check.0) station

-- the allowable of a check at a station: SH, so many percent of SH, or by the stress range factor
abbrev pub allowable_of : List CheckAnswer → CheckKind → ℕ → Result Ends IvFault
allowable_of earlier (Sustained case sh) station = Ok (point_of (kilopascals sh))
allowable_of earlier (Occasional case sh percent) station = Ok (point_of (occasional_whole sh (percent_or_default percent)))
allowable_of earlier (Expansion case1 case2 sc sh cycles fm sus) station =
    and_then (cycle_factor_of (unsigned_abs cycles) (unsigned_abs fm)) (λ f. expansion_allowable_of f sc sh (sustained_stress earlier sus station))
