-- The fields of a record: what a word gives, or the number that refuses it.
use Rattle.std.specs.Prelude.{ℕ, ◌+◌, ◌&&◌, Bool, not, ℤ, pos, unsigned_abs, int_le, List, Option, Some, None, Result, Ok, Err, if◌then◌else◌, codes}
use Rattle.std.specs.Ordering.{int_eq}
use Rattle.std.specs.Str.{bytes_eq}
use Rattle.text_words.specs.Names.{is_name}
use Rattle.angle_table.specs.HalfAngle.{is_bend_angle}
use Rattle.model_types.specs.declared.ranges.Range.{Range}
use Rattle.model_types.specs.declared.records.TeeKind.{TeeKind}
use Rattle.model_types.specs.declared.records.TeeKind.TheVariants.{Unreinforced, Pad, Coefficient}
use Rattle.model_types.specs.declared.ranges.TheConstants.{DIRECTION_PART, PAD_THICKNESS, TEE_COEFFICIENT}
use Rattle.model_text.specs.declared.fields.TheConstants.{ANGLE, FLAG, NOTHING}
use Rattle.text_words.specs.Numbers.{number_of}
use Rattle.text_words.specs.declared.numbers.NumberFault.{NumberFault}
use Rattle.text_words.specs.declared.numbers.NumberFault.TheVariants.{NotANumber, TooLong}
use Rattle.model_text.specs.declared.fields.Direction.{Direction}
use Rattle.model_text.specs.Words.{word}

infixl 10 ◌>>=◌
-- the next step, unless the last one was refused
abbrev pub ◌>>=◌ : {A B : Type 0} → Result A ℕ → (A → Result B ℕ) → Result B ℕ
(Ok x) >>= f = f x
(Err n) >>= f = Err n

-- refused by a number where a test holds
abbrev pub refuse_if : Bool → ℕ → Result (Unit {0}) ℕ
refuse_if b number = if b then Err number else Ok tt

-- a name: 7 where the word isn't one
abbrev pub name_at : List ℕ → Result (List ℕ) ℕ
name_at w = if is_name w then Ok w else Err 7

abbrev pub is_in : Range → ℤ → Bool
is_in range n = int_le range.least n && int_le n range.most

-- a number in a range: 6 where the word is no number, and 7 where it has too many digits or is out of the range
abbrev pub in_range : Range → Result ℤ NumberFault → Result ℤ ℕ
in_range range (Ok n) = if is_in range n then Ok n else Err 7
in_range range (Err NotANumber) = Err 6
in_range range (Err TooLong) = Err 7

unfoldable pub number_in : Range → List ℕ → Result ℤ ℕ
number_in range w = in_range range (number_of w)

-- '-', which stands for the default
abbrev pub is_default : List ℕ → Bool
is_default w = bytes_eq w (codes "-")

-- a number in a range, or the default
unfoldable pub number_or_default : Range → List ℕ → Result (Option ℤ) ℕ
number_or_default range w = if is_default w then Ok None else (number_in range w >>= λ n. Ok (Some n))

-- the angle of a bend: 7 where it is none of the six
unfoldable pub angle_at : List ℕ → Result ℕ ℕ
angle_at w = do
  angle ← number_in ANGLE w
  _ ← refuse_if (not (is_bend_angle (unsigned_abs angle))) 7
  Ok (unsigned_abs angle)

-- how a tee is made, in two words from word k on: 9 where the first is no kind of tee
unfoldable pub connection_at : List (List ℕ) → ℕ → Result TeeKind ℕ
connection_at ws k =
    if bytes_eq (word ws k) (codes "unreinforced") then (number_in NOTHING (word ws (k + 1)) >>= λ _. Ok Unreinforced) else
    if bytes_eq (word ws k) (codes "pad") then (number_in PAD_THICKNESS (word ws (k + 1)) >>= λ thickness. Ok (Pad thickness)) else
    if bytes_eq (word ws k) (codes "coefficient") then (number_in TEE_COEFFICIENT (word ws (k + 1)) >>= λ c. Ok (Coefficient c)) else
    Err 9

-- 0 or 1
unfoldable pub flag_at : List ℕ → Result Bool ℕ
flag_at w = number_in FLAG w >>= λ n. Ok (int_eq n (pos 1))

abbrev pub is_zero : ℤ → ℤ → ℤ → Bool
is_zero x y z = int_eq x (pos 0) && int_eq y (pos 0) && int_eq z (pos 0)

-- a direction, in three words from word k on: 7 where all its parts are 0
unfoldable pub direction_at : List (List ℕ) → ℕ → Result Direction ℕ
direction_at ws k = do
  x ← number_in DIRECTION_PART (word ws k)
  y ← number_in DIRECTION_PART (word ws (k + 1))
  z ← number_in DIRECTION_PART (word ws (k + 2))
  _ ← refuse_if (is_zero x y z) 7
  Ok (record { x = x; y = y; z = z })
