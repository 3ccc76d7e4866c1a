-- What becomes of an answer that a run has to write: its output to one sink, its message to another.
use Rattle.std.specs.Prelude.{◌≡◌, ◌≢◌, ℕ, List, Option, length}
use Rattle.flex_io.specs.declared.outcome.Status.{Status}
use Rattle.flex_io.specs.declared.outcome.Status.TheVariants.{ReadFault}
use Rattle.flex_io.specs.Fault.{Rose}
use Rattle.flex_io.specs.Sink.{HasRoom}

-- an answer was written whole, its output and its message, and the run ends as the answer says
abbrev pub WritesAnswer : (List ℕ → List ℕ → Status → Type 0) → (List ℕ → Type 0) → (List ℕ → Type 0) → Status → Type 0
WritesAnswer Answers out err status = (output message : List ℕ) × Answers output message status × out output × err message

-- a first part of an answer was written, which the sinks didn't both tell room for
abbrev pub BreaksOff : (List ℕ → List ℕ → Status → Type 0) → (List ℕ → Type 0) → (List ℕ → Type 0) → Option ℕ → Option ℕ → Type 0
BreaksOff Answers out err out_room err_room =
    (output message : List ℕ) × (meant : Status) × Answers output message meant × out output × err message
    × ¬ (HasRoom out_room (length output) × HasRoom err_room (length message))

-- a read fault is told where the source's count of faults rose, and nowhere else
pub record TellsReadFault (told : Status) (before after : ℕ) : Type 0 where
  pub rose : told ≡ ReadFault → Rose before after
  pub steady : told ≢ ReadFault → after ≡ before
