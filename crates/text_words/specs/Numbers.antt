-- The form of a number, and what it is.
use Rattle.std.specs.Prelude.{◌≡◌, ℕ, ◌<◌, ◌≤◌, ◌^◌, Bool, true, not, ◌||◌, ◌&&◌, List, ◌∷◌, length, drop, ℤ, pos, negsuc, neg_ℤ, unsigned_abs, Result, Ok, Err, nat_lt, ◌==◌, if◌then◌else◌, slice_index, codes}
use Rattle.std.specs.List.{list_all}
use Rattle.std.specs.Char.{is_ascii_digit}
use Rattle.std.specs.Str.{bytes_eq}
use Rattle.std.specs.Str.Parse.{digits_value}
use Rattle.std.specs.Fmt.{signed_decimal}
use Rattle.text_words.specs.declared.numbers.NumberFault.{NumberFault}
use Rattle.text_words.specs.declared.numbers.NumberFault.TheVariants.{NotANumber, TooLong}

-- the word is the number's decimal form, of at most 18 digits
pub record IsNumber (word : List ℕ) (n : ℤ) : Type 0 where
  pub form : word ≡ signed_decimal n
  pub short : unsigned_abs n < 10 ^ 18

-- a `-` stands in front
abbrev pub has_sign : List ℕ → Bool
has_sign word = slice_index word 0 == 45

-- the word without its sign
abbrev pub digits_part : List ℕ → List ℕ
digits_part word = if has_sign word then drop 1 word else word

-- digits without a leading zero
abbrev pub is_plain_digits : List ℕ → Bool
is_plain_digits digits = nat_lt 0 (length digits) && list_all is_ascii_digit digits && not (slice_index digits 0 == 48)

-- `0`, or an optional `-` and digits without a leading zero
abbrev pub has_number_form : List ℕ → Bool
has_number_form word = bytes_eq word (codes "0") || is_plain_digits (digits_part word)

-- digits behind a `-` where the number is negative
abbrev pub with_sign : ℤ → List ℕ → List ℕ
with_sign (pos n) digits = digits
with_sign (negsuc n) digits = 45 ∷ digits

-- the word is the decimal form of a number of over 18 digits
pub record IsLongNumber (word : List ℕ) (n : ℤ) : Type 0 where
  pub digits : List ℕ
  pub plain : is_plain_digits digits ≡ true
  pub value : digits_value 10 digits ≡ unsigned_abs n
  pub form : word ≡ with_sign n digits
  pub long : 10 ^ 18 ≤ unsigned_abs n

-- what the digits and the sign represent
abbrev pub signed_value : List ℕ → ℤ
signed_value word = if has_sign word then neg_ℤ (pos (digits_value 10 (digits_part word))) else pos (digits_value 10 word)

-- the number that a word represents, or why it represents none
unfoldable pub number_of : List ℕ → Result ℤ NumberFault
number_of word =
    if not (has_number_form word) then Err NotANumber else
    if nat_lt 18 (length (digits_part word)) then Err TooLong else Ok (signed_value word)
