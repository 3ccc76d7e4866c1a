-- The exit codes of the program.
use Rattle.std.specs.Prelude.{ℕ}
use Rattle.flex_io.specs.declared.outcome.Status.{Status}
use Rattle.flex_io.specs.declared.outcome.Status.TheVariants.{Done, Uncertified, Refused, Usage, ReadFault, WriteFault, NoMemory}

-- the number that the process ends with
abbrev pub code_of : Status → ℕ
code_of Done = 0
code_of Uncertified = 1
code_of Refused = 2
code_of Usage = 3
code_of ReadFault = 4
code_of WriteFault = 5
code_of NoMemory = 6
