-- The words of a line.
use Rattle.std.specs.Prelude.{◌≡◌, ℕ, ◌<◌, Option, None, Some, ◌==◌, ◌&&◌, ◌||◌, nat_lt, nat_le, Bool, List, [], length, filter}
use Rattle.std.specs.List.{before_first, slice_split, slice_index_or}
use Rattle.model_text.specs.declared.words.TheConstants.{MOST_WORDS, PLACES}

-- a space or a tab
abbrev pub is_blank : ℕ → Bool
is_blank b = b == 32 || b == 9

-- '#', with which a comment starts
abbrev pub starts_comment : ℕ → Bool
starts_comment b = b == 35

-- a byte from the space to '~', or a tab
abbrev pub is_allowed : ℕ → Bool
is_allowed b = (nat_le 32 b && nat_le b 126) || b == 9

-- a part between blanks that isn't empty
abbrev pub is_word : List ℕ → Bool
is_word part = nat_lt 0 (length part)

-- the words of a line: what blanks part, up to a comment
abbrev pub words : List ℕ → List (List ℕ)
words line = filter is_word (slice_split is_blank (before_first starts_comment line))

-- the word with k words before it, or nothing past the last
abbrev pub word : List (List ℕ) → ℕ → List ℕ
word ws k = slice_index_or ws k []

-- the parts between the blanks of what is left of a line, if anything is
abbrev pub parts_left : Option (List ℕ) → List (List ℕ)
parts_left None = []
parts_left (Some rest) = slice_split is_blank rest

-- the first words of a line are at hand: how many there are, and each of the first ten, nothing past the last
pub record AreFirstWords (ws : List (List ℕ)) (count : ℕ) (first : List (List ℕ)) : Type 0 where
  pub counted : count ≡ length ws
  pub size : length first ≡ PLACES
  pub each : (k : ℕ) → k < MOST_WORDS → slice_index_or first k [] ≡ word ws k
