-- The shifts in the order in which they are tried, and how an answer tells of a margin that there isn't.
use Rattle.std.specs.Prelude.{ℕ, ◌-◌, ◌*◌, ◌^◌, ℤ, pos}
use Rattle.model_types.specs.declared.answers.Cause.{Cause}
use Rattle.model_types.specs.declared.answers.Cause.TheVariants as causes
use Rattle.case_run.specs.Causes.{at_row}

-- the shifts: 2^44, 2^42 and so on down to 2^10, in units of 2^-20 N/m
abbrev pub shift_of : ℕ → ℤ
shift_of place = pos (2 ^ (44 - 2 * place))

abbrev pub last_place : ℕ
last_place = 17

abbrev pub margin_cause : ℕ → Cause
margin_cause = at_row (λ node freedom. causes.Margin (record { 0 = node }) freedom)
