-- What each operation's answer encloses, as laws of the definitions: of no call.
use Rattle.std.specs.Prelude.{◌≡◌, ℕ, Ok}
use Rattle.flex_interval.specs.Ends.{Ends}
use Rattle.flex_interval.specs.Fraction.{Fraction, Within, plus, minus, times}
use Rattle.flex_interval.specs.Operations.{add_of, sub_of, mul_of}

-- a sum's interval holds each sum of two numbers
abbrev pub SumHolds : Type 0
SumHolds = (a b e : Ends) (x y : Fraction) → add_of a b ≡ Ok e → Within a x → Within b y → Within e (plus x y)

-- a difference's holds each difference
abbrev pub DifferenceHolds : Type 0
DifferenceHolds = (a b e : Ends) (x y : Fraction) → sub_of a b ≡ Ok e → Within a x → Within b y → Within e (minus x y)

-- a product's holds each product
abbrev pub ProductHolds : Type 0
ProductHolds = (a b e : Ends) (s : ℕ) (x y : Fraction) → mul_of a b s ≡ Ok e → Within a x → Within b y → Within e (times x y s)
