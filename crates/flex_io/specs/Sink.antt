-- What writes add to a sink, where it tells the bytes that it holds and the room that it has left.
use Rattle.std.specs.Prelude.{◌≡◌, ℕ, ◌-◌, ◌≤◌, List, [], Option, Some, ◌++◌}
use Rattle.std.specs.Option.{option_map}
use Rattle.std.specs.Io.KnownBytes.{Appends}

-- it holds of a first part of these bytes, which may be none of them or all
abbrev pub SomePrefix : List ℕ → (List ℕ → Type 0) → Type 0
SomePrefix bytes holds = (part rest : List ℕ) × holds part × (bytes ≡ part ++ rest)

-- the sink tells its room, and so many bytes fit
abbrev pub HasRoom : Option ℕ → ℕ → Type 0
HasRoom room n = (free : ℕ) × (room ≡ Some free) × (n ≤ free)

-- the room that is left once n bytes more are held
abbrev pub room_after : Option ℕ → ℕ → Option ℕ
room_after room n = option_map (λ free. free - n) room

-- all these bytes were added to a sink. Where there are none, it stays as it was
pub record WritesAll {K : Type 0} (held : K → Option (List ℕ)) (before after : K) (bytes : List ℕ) : Type 0 where
  pub added : Appends (held before) (held after) bytes
  pub none : bytes ≡ [] → after ≡ before

-- a first part of these bytes was added to a sink. Where there are none, it stays as it was
pub record WritesPart {K : Type 0} (held : K → Option (List ℕ)) (before after : K) (bytes : List ℕ) : Type 0 where
  pub added : SomePrefix bytes (Appends (held before) (held after))
  pub none : bytes ≡ [] → after ≡ before
