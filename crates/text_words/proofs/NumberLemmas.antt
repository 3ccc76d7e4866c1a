-- The decimal forms are just what is read as numbers.
use Rattle.std.proofs.Common.{◌≡◌, ◌≢◌, ◌↔◌, ℕ, zero, suc, ◌+◌, ◌-◌, ◌*◌, ◌^◌, ◌<◌, ◌≤◌, nat_lt, Bool, true, false, not, cond, List, [], ◌∷◌, length, get_or, take, ℤ, pos, negsuc, neg_ℤ, Result, Ok, Err, IfOk, refl, sym, ap, ◌∙◌, subst, inl, inr, arith, rules}
use Rattle.std.proofs.lemmas.Bool.{both_ways, cases_Bool, cases_eq, cond-true, cond-false, not-false, not_from_true, or_right, or_cases, and_parts, and_from, lt-ltb, le-ltb, ltb-true, ltb-false, not-true, eqb-true, eqb-false, ne_eqb, not_from_false}
use Rattle.std.proofs.lemmas.Fmt.{decimal_digit, decimal_nonempty, length-decimal-le, first_decimal, digits_decimal, digits_value-decimal, decimal-digits_value}
use Rattle.std.proofs.lemmas.Slice.Eq.{bytes_eq-Decides}
use Rattle.std.specs.Fmt.{decimal}
use Rattle.std.proofs.lemmas.Bool.Decides.{nat_tests}
use Rattle.std.proofs.lemmas.Int.Digits.{digits_value_more}
use Rattle.std.proofs.lemmas.List.Sums.{AllPass-from_list_all}
use Rattle.std.proofs.lemmas.Str.Parse.{IsNumeralModel, numerals_by_value, digits_value_short, digits_value-take-le}
use Rattle.std.specs.Char.{is_ascii_digit, digit_value}
use Rattle.std.specs.List.{list_all}
use Rattle.std.specs.Str.Parse.{digits_value}
use Rattle.text_words.specs.declared.numbers.NumberFault.{NumberFault}
use Rattle.text_words.specs.declared.numbers.NumberFault.TheVariants.{NotANumber, TooLong}
use Rattle.text_words.specs.Numbers.{IsNumber, IsLongNumber, has_sign, digits_part, is_plain_digits, has_number_form, signed_value, number_of}

-- `list_all is_ascii_digit` tells the texts of digits
pub own : IsNumeralModel (λ ds. list_all is_ascii_digit ds ≡ true) (digits_value 10)
own = numerals_by_value _ (search rules)

pub front_small : (ds : List ℕ) (i : ℕ) → list_all is_ascii_digit ds ≡ true → length ds ≤ 18 → digits_value 10 (take i ds) < 10 ^ 18
front_small ds i each short = omega (arith, digits_value-take-le 10 ds i (omega arith), digits_value_short own ds 18 each short)

pub front_more : (ds : List ℕ) (i : ℕ) → list_all is_ascii_digit ds ≡ true → i < length ds → digits_value 10 (take (i + 1) ds) ≡ digits_value 10 (take i ds) * 10 + (get_or ds i 0 - 48)
front_more ds i each inside =
    let digit = AllPass-from_list_all is_ascii_digit ds each i 0 inside in
    let worth : digit_value (get_or ds i 0) ≡ get_or ds i 0 - 48 = grind (arith, nat_tests) in
    rw (digits_value_more 10 ds i inside, worth)

-- the first byte of a text of digits is no sign
no_sign : (ds : List ℕ) → list_all is_ascii_digit ds ≡ true → 0 < length ds → has_sign ds ≡ false
no_sign ds each some =
    let digit = AllPass-from_list_all is_ascii_digit ds each 0 0 some in
    grind (arith, nat_tests)

-- digits without a leading zero are the decimal form of what they represent
record IsPlain (ds : List ℕ) : Type 0 where
  some : 0 < length ds
  each : list_all is_ascii_digit ds ≡ true
  first : get_or ds 0 0 ≢ 48

plain_parts : (ds : List ℕ) → is_plain_digits ds ≡ true → IsPlain ds
plain_parts ds h =
    let a = and_parts _ _ h in
    let b = and_parts _ _ a.0 in
    record {
      some = ltb-true _ _ b.0;
      each = b.1;
      first = eqb-false _ _ (not-true _ a.1);
    }

plain_test : (ds : List ℕ) → IsPlain ds → is_plain_digits ds ≡ true
plain_test ds plain =
    and_from _ _ (and_from _ _ (lt-ltb _ _ plain.some) plain.each) (not_from_false _ (ne_eqb _ _ plain.first))

value_small : (ds : List ℕ) → IsPlain ds → length ds ≤ 18 → digits_value 10 ds < 10 ^ 18
value_small ds plain short = digits_value_short own ds 18 plain.each short

decimal_value : (ds : List ℕ) → IsPlain ds → length ds ≤ 18 → decimal (digits_value 10 ds) ≡ ds
decimal_value ds plain short =
    decimal-digits_value own ds plain.each plain.some (λ zero. absurd (plain.first zero)) (omega (arith, value_small ds plain short))

decimal_plain : (n : ℕ) → 0 < n → n < 10 ^ 18 → IsPlain (decimal n)
decimal_plain n some small = record {
  some = decimal_nonempty n (omega arith);
  each = digits_decimal own n (omega arith);
  first = λ zero. absurd (omega (arith, first_decimal n some (omega arith)));
}

-- a text that begins with `-` is that sign and the digits part
signed_parts : (word : List ℕ) → has_sign word ≡ true → word ≡ 45 ∷ digits_part word
signed_parts [] h = absurd (both_ways false refl h)
signed_parts (c ∷ cs) h = rw (h, eqb-true c 45 h) refl

negative_form : (word : List ℕ) (v : ℕ) → word ≡ 45 ∷ decimal v → 0 < v → v < 10 ^ 18 → IsNumber word (neg_ℤ (pos v))
negative_form word zero e some small = absurd (omega arith)
negative_form word (suc n) e some small = record { form = e; short = small }

value_some : (ds : List ℕ) → IsPlain ds → length ds ≤ 18 → 0 < digits_value 10 ds
value_some ds plain short =
    elim (cases_eq (digits_value 10 ds) 0) [
      | inl none ↦
          let zero_form : ds ≡ 48 ∷ [] = sym (decimal_value ds plain short) ∙ ap decimal none ∙ decimal_digit 0 (omega arith) in
          absurd (plain.first (ap (λ (xs : List ℕ). get_or xs 0 0) zero_form))
      | inr some ↦ omega arith
    ]

-- a word that is plain digits behind an optional sign is the decimal form of what it represents
plain_is_number : (word : List ℕ) → IsPlain (digits_part word) → length (digits_part word) ≤ 18 → IsNumber word (signed_value word)
plain_is_number word plain short =
    let ds : List ℕ = digits_part word in
    let value = decimal_value ds plain short in
    let small = value_small ds plain short in
    elim (cases_Bool (has_sign word)) [
      | inl negative ↦
          subst (IsNumber word) (sym (cond-true (has_sign word) _ _ negative)) (negative_form word (digits_value 10 ds) (signed_parts word negative ∙ ap (λ xs. 45 ∷ xs) (sym value)) (value_some ds plain short) small)
      | inr positive ↦
          let whole : ds ≡ word = cond-false (has_sign word) _ _ positive in
          subst (IsNumber word) (sym (cond-false (has_sign word) _ _ positive)) record {
            form = rw whole at (sym value);
            short = rw whole at small;
          }
    ]

-- a word in the form of a number, of at most 18 digits, is the decimal form of what it represents
form_is_number : (word : List ℕ) → has_number_form word ≡ true → length (digits_part word) ≤ 18 → IsNumber word (signed_value word)
form_is_number word form short =
    elim (or_cases _ _ form) [
      | inl zero_word ↦
          let is : word ≡ 48 ∷ [] = (bytes_eq-Decides word (48 ∷ [])).0 zero_word in
          rw is record { form = sym (decimal_digit 0 (omega arith)); short = omega arith }
      | inr plain ↦ plain_is_number word (plain_parts _ plain) short
    ]

after_guard : {A : Type 0} (b : Bool) (e : NumberFault) (r : Result A NumberFault) (x : A) → cond b (Err e) r ≡ Ok x → (b ≡ false) × (r ≡ Ok x)
after_guard true e r x h = absurd (cc)
after_guard false e r x h = (refl, h)

-- what is read is the number's decimal form
pub IsNumber-number_of : (word : List ℕ) (n : ℤ) → number_of word ≡ Ok n → IsNumber word n
unfolding number_of
IsNumber-number_of word n h =
    let a : (not (has_number_form word) ≡ false) × (cond (nat_lt 18 (length (digits_part word))) (Err TooLong) (Ok (signed_value word)) ≡ Ok n) = after_guard _ _ _ n h in
    let b : (nat_lt 18 (length (digits_part word)) ≡ false) × (◌≡◌ {A = Result ℤ NumberFault} (Ok (signed_value word)) (Ok n)) = after_guard _ _ _ n a.1 in
    let value : signed_value word ≡ n = cc b.1 in
    subst (IsNumber word) value (form_is_number word (not-false _ a.0) (ltb-false _ _ b.0))

pub if_read : (word : List ℕ) (r : Result ℤ NumberFault) → r ≡ number_of word → IfOk r (IsNumber word)
if_read word (Ok n) e = IsNumber-number_of word n (sym e)
if_read word (Err fault) e = tt

read_as : (word : List ℕ) → has_number_form word ≡ true → length (digits_part word) ≤ 18 → number_of word ≡ Ok (signed_value word)
unfolding number_of
read_as word form short =
    cond-false _ _ _ (not_from_true _ form) ∙ cond-false _ _ _ (le-ltb _ _ short)

read_plain : (word : List ℕ) → is_plain_digits (digits_part word) ≡ true → length (digits_part word) ≤ 18 → number_of word ≡ Ok (signed_value word)
read_plain word plain short = read_as word (or_right _ _ plain) short

-- each decimal form of at most 18 digits is read as its number
pub number_of-IsNumber : (word : List ℕ) (n : ℤ) → IsNumber word n → number_of word ≡ Ok n
number_of-IsNumber word (pos zero) is =
    let zero_word : word ≡ 48 ∷ [] = is.form ∙ decimal_digit 0 (omega arith) in
    rw zero_word (read_as (48 ∷ []) refl (omega arith))
number_of-IsNumber word (pos (suc n)) is =
    let ds = decimal (suc n) in
    let plain = decimal_plain (suc n) (omega arith) is.short in
    let unsigned : digits_part ds ≡ ds = cond-false _ _ _ (no_sign ds plain.each plain.some) in
    let short = length-decimal-le 18 (suc n) (omega arith) is.short (omega (arith, is.short)) in
    let value : signed_value ds ≡ pos (suc n) = cond-false _ _ _ (no_sign ds plain.each plain.some) ∙ ap pos (digits_value-decimal own (suc n) (omega (arith, is.short))) in
    rw is.form (read_plain ds (rw unsigned (plain_test ds plain)) (rw unsigned short) ∙ ap (λ z. Ok z) value)
number_of-IsNumber word (negsuc n) is =
    let ds = decimal (suc n) in
    let plain = decimal_plain (suc n) (omega arith) is.short in
    let short = length-decimal-le 18 (suc n) (omega arith) is.short (omega (arith, is.short)) in
    let value : signed_value (45 ∷ ds) ≡ negsuc n = ap (λ v. neg_ℤ (pos v)) (digits_value-decimal own (suc n) (omega (arith, is.short))) in
    rw is.form (read_plain (45 ∷ ds) (plain_test ds plain) short ∙ ap (λ z. Ok z) value)

-- ---- numbers of over 18 digits

abbrev ten_to : ℕ → ℕ
ten_to zero = 1
ten_to (suc i) = ten_to i * 10

-- more than i digits without a leading zero represent at least 10^i
front_large : (ds : List ℕ) (i : ℕ) → IsPlain ds → i < length ds → ten_to i ≤ digits_value 10 (take (i + 1) ds)
front_large ds zero plain inside =
    let digit = AllPass-from_list_all is_ascii_digit ds plain.each 0 0 inside in
    let large : 48 < get_or ds 0 0 = grind (arith, nat_tests, plain.first) in
    omega (arith, front_more ds 0 plain.each inside, large)
front_large ds (suc i) plain inside =
    let more = front_more ds (suc i) plain.each inside in
    let less = front_large ds i plain (omega (arith, inside)) in
    let place : i + 1 ≡ suc i = omega arith in
    let before : ten_to i ≤ digits_value 10 (take (suc i) ds) = subst (λ k. ten_to i ≤ digits_value 10 (take k ds)) place less in
    omega (arith, more, before)

value_large : (ds : List ℕ) → IsPlain ds → 18 < length ds → 10 ^ 18 ≤ digits_value 10 ds
value_large ds plain long = omega (arith, front_large ds 18 plain long, digits_value-take-le 10 ds 19 (omega (arith, long)))

length_large : (ds : List ℕ) → IsPlain ds → 10 ^ 18 ≤ digits_value 10 ds → nat_lt 18 (length ds) ≡ true
length_large ds plain large = by (nat_lt 18 (length ds)) refl
  where
    by : (b : Bool) → nat_lt 18 (length ds) ≡ b → nat_lt 18 (length ds) ≡ true
    by true e = e
    by false e = absurd (omega (arith, large, value_small ds plain (ltb-false _ _ e)))

long_word : (word : List ℕ) → is_plain_digits (digits_part word) ≡ true → 18 < length (digits_part word) → (n : ℤ) × IsLongNumber word n
long_word word plain long = by (has_sign word) (digits_value 10 (digits_part word)) refl refl
  where
    large : 10 ^ 18 ≤ digits_value 10 (digits_part word)
    large = value_large (digits_part word) (plain_parts _ plain) long

    by : (b : Bool) (v : ℕ) → has_sign word ≡ b → digits_value 10 (digits_part word) ≡ v → (n : ℤ) × IsLongNumber word n
    by true zero s e = absurd (omega (arith, large, e))
    by true (suc k) s e = (negsuc k, record { digits = digits_part word; plain = plain; value = e; form = signed_parts word s; long = omega (arith, large, e) })
    by false v s e = (pos v, record { digits = digits_part word; plain = plain; value = e; form = sym (cond-false (has_sign word) _ _ s); long = omega (arith, large, e) })

faults_differ : ◌≡◌ {A = Result ℤ NumberFault} (Err NotANumber) (Err TooLong) → ⊥
faults_differ h = cc

ok_not_err : (n : ℤ) → ◌≡◌ {A = Result ℤ NumberFault} (Ok n) (Err TooLong) → ⊥
ok_not_err n h = cc

-- what is refused as too long, and what isn't a number
long_form : (word : List ℕ) (form long : Bool) → has_number_form word ≡ form → nat_lt 18 (length (digits_part word)) ≡ long → number_of word ≡ Err TooLong → (n : ℤ) × IsLongNumber word n
unfolding number_of
long_form word false long f l h =
    let refused : number_of word ≡ Err NotANumber = cond-true _ _ _ (ap not f) in
    absurd (faults_differ (sym refused ∙ h))
long_form word true false f l h =
    let read : number_of word ≡ Ok (signed_value word) = cond-false _ _ _ (ap not f) ∙ cond-false _ _ _ l in
    absurd (ok_not_err (signed_value word) (sym read ∙ h))
long_form word true true f l h =
    elim (or_cases _ _ f) [
      | inl zero_word ↦
          let is : word ≡ 48 ∷ [] = (bytes_eq-Decides word (48 ∷ [])).0 zero_word in
          let short : length (digits_part word) ≡ 1 = rw is refl in
          absurd (omega (arith, short, ltb-true _ _ l))
      | inr plain ↦ long_word word plain (ltb-true _ _ l)
    ]

too_long : (word ds : List ℕ) → digits_part word ≡ ds → is_plain_digits ds ≡ true → 10 ^ 18 ≤ digits_value 10 ds → number_of word ≡ Err TooLong
unfolding number_of
too_long word ds is plain large =
    let form : has_number_form word ≡ true = or_right _ _ (ap is_plain_digits is ∙ plain) in
    let long : nat_lt 18 (length (digits_part word)) ≡ true = ap (λ l. nat_lt 18 (length l)) is ∙ length_large ds (plain_parts _ plain) large in
    cond-false _ _ _ (not_from_true _ form) ∙ cond-true _ _ _ long

long_read : (word : List ℕ) (n : ℤ) → IsLongNumber word n → number_of word ≡ Err TooLong
long_read word (pos v) is =
    let plain = plain_parts is.digits is.plain in
    let unsigned : digits_part is.digits ≡ is.digits = cond-false _ _ _ (no_sign is.digits plain.each plain.some) in
    too_long word is.digits (ap digits_part is.form ∙ unsigned) is.plain (omega (arith, is.long, is.value))
long_read word (negsuc v) is = too_long word is.digits (ap digits_part is.form) is.plain (omega (arith, is.long, is.value))

-- a word is too long exactly where it is the decimal form of a number of over 18 digits
pub number_of-long : (word : List ℕ) (r : Result ℤ NumberFault) → r ≡ number_of word → (r ≡ Err TooLong) ↔ ((n : ℤ) × IsLongNumber word n)
number_of-long word r e = (
  (λ h. long_form word (has_number_form word) (nat_lt 18 (length (digits_part word))) refl refl (sym e ∙ h)),
  (λ found. e ∙ long_read word found.0 found.1),
)
