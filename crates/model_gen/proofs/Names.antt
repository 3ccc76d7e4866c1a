-- The names of generated records: they are in form, and no two are the same.
use Rattle.std.proofs.Common.{◌≡◌, ◌≢◌, ℕ, ◌^◌, ◌<◌, ◌≤◌, not, true, false, List, [], ◌∷◌, length, codes, ap, arith}
use Rattle.std.proofs.lemmas.Bool.{and_from, lt-ltb, le-leb}
use Rattle.std.proofs.lemmas.Bool.Decides.{nat_tests}
use Rattle.std.proofs.lemmas.Fmt.{decimal_injective, digits_decimal, length-decimal-le}
use Rattle.std.proofs.lemmas.List.Elements.{All-weaker}
use Rattle.std.proofs.lemmas.List.Sums.{AllPass-from_list_all, list_all-from_AllPass}
use Rattle.std.specs.Char.{is_ascii_digit}
use Rattle.std.specs.Fmt.{decimal}
use Rattle.std.specs.List.{list_all}
use Rattle.std.specs.Str.{bytes_eq}
use Rattle.text_words.specs.Names.{IsName, is_name_byte}
use Rattle.text_words.proofs.NumberLemmas.{own}

name_digit : (b : ℕ) → is_ascii_digit b ≡ true → is_name_byte b ≡ true
name_digit b digit = grind (arith, nat_tests)

name_digits : (i : ℕ) → i < 2 ^ 32 → list_all is_name_byte (decimal i) ≡ true
name_digits i small =
    list_all-from_AllPass is_name_byte (decimal i)
    (All-weaker (λ b. is_ascii_digit b ≡ true) (λ b. is_name_byte b ≡ true) name_digit (decimal i) (AllPass-from_list_all is_ascii_digit (decimal i) (digits_decimal own i (omega arith))))

-- a letter and a number are a name
pub is_name : (letter i : ℕ) → i < 2 ^ 32 → is_name_byte letter ≡ true → ((ds : List ℕ) → bytes_eq (letter ∷ ds) (codes "-") ≡ false) → IsName (letter ∷ decimal i)
is_name letter i small plain other =
    let name = letter ∷ decimal i in
    let few : length (decimal i) ≤ 10 = length-decimal-le 10 i (omega arith) (omega arith) (omega arith) in
    and_from _ _
    (and_from _ _ (and_from _ _ (lt-ltb 0 (length name) (omega arith)) (le-leb (length name) 16 (omega arith))) (and_from (is_name_byte letter) (list_all is_name_byte (decimal i)) plain (name_digits i small)))
    (ap not (other (decimal i)))

-- two numbers make two names
pub apart : (letter i j : ℕ) → i < j → j < 2 ^ 32 → (letter ∷ decimal i) ≢ (letter ∷ decimal j)
apart letter i j less small same =
    let digits : decimal i ≡ decimal j = ap (λ l. tail_of l) same in
    omega (arith, less, decimal_injective i j (omega arith) (omega arith) digits)
  where
    tail_of : List ℕ → List ℕ
    tail_of [] = []
    tail_of (x ∷ xs) = xs
