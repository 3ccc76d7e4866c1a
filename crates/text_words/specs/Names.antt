-- The form of a name.
use Rattle.std.specs.Prelude.{◌≡◌, ℕ, ◌-◌, ◌==◌, ◌&&◌, ◌||◌, not, nat_lt, nat_le, Bool, IsTrue, List, ◌++◌, length, take, replicate, codes}
use Rattle.std.specs.Char.{is_ascii_alphanumeric}
use Rattle.std.specs.List.{list_all}
use Rattle.std.specs.Str.{bytes_eq}

-- a letter, a digit, '-', '_' or '.'
abbrev pub is_name_byte : ℕ → Bool
is_name_byte b = is_ascii_alphanumeric b || b == 45 || b == 95 || b == 46

-- 1 to 16 such bytes, and not '-' alone
abbrev pub is_name : List ℕ → Bool
is_name bytes = nat_lt 0 (length bytes) && nat_le (length bytes) 16 && list_all is_name_byte bytes && not (bytes_eq bytes (codes "-"))

abbrev pub IsName : List ℕ → Type 0
IsName bytes = IsTrue (is_name bytes)

-- a name of at most 16 bytes, filled up with zeros
abbrev pub padded : List ℕ → List ℕ
padded bytes = bytes ++ replicate (16 - length bytes) 0

-- sixteen bytes, of which the first len are a name and the rest are zeros
pub record HoldsName (bytes : List ℕ) (len : ℕ) : Type 0 where
  pub name : IsName (take len bytes)
  pub filled : length (take len bytes) ≡ len
  pub rest : padded (take len bytes) ≡ bytes
