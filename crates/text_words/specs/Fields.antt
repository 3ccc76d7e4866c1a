-- The lines of a text, and what stands before and after a byte.
use Rattle.std.specs.Prelude.{◌≡◌, ℕ, ◌+◌, List, [], ◌∷◌, ◌++◌, Option, None, Some, take, drop, ◌==◌, false, All, position}
use Rattle.std.specs.Option.{option_map}
use Rattle.std.specs.List.{join_with_byte, slice_split}

-- the lines of a text: what stands between its line feeds. After a line feed at the end one empty line follows
abbrev pub lines : List ℕ → List (List ℕ)
lines text = slice_split (λ b. b == 10) text

-- the lines of what is left of a text, if anything is
abbrev pub lines_left : Option (List ℕ) → List (List ℕ)
lines_left None = []
lines_left (Some rest) = lines rest

-- what stands before and after the first byte `end`, where there is one
abbrev pub split_at_first : ℕ → List ℕ → Option (List ℕ × List ℕ)
split_at_first end bytes = option_map (λ at. (take at bytes, drop (at + 1) bytes)) (position (λ b. b == end) bytes)

-- no byte is `end`
abbrev pub Lacks : ℕ → List ℕ → Type 0
Lacks end bytes = All (λ b. (b == end) ≡ false) bytes

-- the bytes are a front without `end`, that byte and the rest
pub record IsSplit (end : ℕ) (bytes front rest : List ℕ) : Type 0 where
  pub whole : bytes ≡ front ++ end ∷ rest
  pub lacks : Lacks end front

-- a line: its words with single spaces between them, and a line feed
unfoldable pub line : List (List ℕ) → List ℕ
line words = join_with_byte 32 words ++ 10 ∷ []
