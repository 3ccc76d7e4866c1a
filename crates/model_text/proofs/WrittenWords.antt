-- The words of a canonical text are plain, and are read as what they were written for.
use Rattle.std.proofs.Common.{◌≡◌, ◌≢◌, ℕ, suc, ◌+◌, ◌^◌, ◌<◌, ◌≤◌, ◌&&◌, ◌==◌, nat_lt, nat_le, not, Bool, true, false, List, [], ◌∷◌, ◌++◌, length, length-append, append_assoc, get_or, ℤ, pos, negsuc, neg_ℤ, ◌≤ℤ◌, int_le, unsigned_abs, IsTrue, codes, position, unwrap_or, Option, Some, None, IfSome, Result, Ok, Err, AllPairs, nat_eq, int_eq, if◌then◌else◌, refl, sym, ap, ◌∙◌, arith}
use Rattle.std.proofs.lemmas.Bool.{and_parts, and_from, cond-true, cond-false, lt-ltb, ltb-true, false_from_ne_true}
use Rattle.std.proofs.lemmas.Bool.Decides.{nat_tests, Decides-int_eq}
use Rattle.std.proofs.lemmas.Fmt.{decimal_nonempty, digits_decimal, decimal_digit}
use Rattle.std.proofs.lemmas.Int.{ints}
use Rattle.std.proofs.lemmas.List.{get_or_at}
use Rattle.std.proofs.lemmas.List.Elements.{All-weaker}
use Rattle.std.proofs.lemmas.List.Sums.{AllPass-from_list_all, list_all-from_AllPass, position_or_len_is}
use Rattle.std.proofs.lemmas.Slice.Eq.{bytes_eq-Decides}
use Rattle.std.specs.Char.{is_ascii_digit}
use Rattle.std.specs.Cmp.Lexicographic.{pointwise}
use Rattle.std.specs.Fmt.{decimal, signed_decimal}
use Rattle.std.specs.List.{list_all, position_or_len}
use Rattle.std.specs.Str.{bytes_eq}
use Rattle.angle_table.specs.HalfAngle.{is_bend_angle}
use Rattle.text_words.specs.Names.{IsName, is_name, is_name_byte}
use Rattle.text_words.specs.Numbers.{number_of}
use Rattle.text_words.proofs.NumberLemmas.{own, number_of-IsNumber}
use Rattle.model_types.specs.declared.records.Record.{Record}
use Rattle.model_types.specs.declared.ids.CheckId.{CheckId}
use Rattle.model_types.specs.declared.ids.Space.TheVariants as space_of
use Rattle.model_types.specs.Lists.{Lists, names_in}
use Rattle.model_types.specs.Ranges.{IsIn, IsDirection, TeeInForm}
use Rattle.model_text.specs.Fields.{◌>>=◌, name_at, is_in, in_range, number_in, angle_at, number_or_default, is_default, flag_at, connection_at, is_zero, direction_at}
use Rattle.model_text.specs.Rows.{Field, own_name, name_in, check_or_none, within, within_or_default, bend_angle, flag, connection, direction, kind_word, first_word, row, Value, Values, width, row_width, made, number_named, check_named, read_field, read_row, record_in, name_of, check_word, number_word, flag_word, connection_words, field_words, row_words, form_words}
use Rattle.model_types.specs.declared.ranges.Range.{Range}
use Rattle.model_types.specs.declared.records.TeeKind.{TeeKind}
use Rattle.model_types.specs.declared.records.TeeKind.TheVariants.{Unreinforced, Pad, Coefficient}
use Rattle.model_types.specs.declared.ranges.TheConstants.{DIRECTION_PART, PAD_THICKNESS, TEE_COEFFICIENT}
use Rattle.model_text.specs.declared.fields.TheConstants.{ANGLE, FLAG, NOTHING}
use Rattle.model_text.specs.declared.records.Form.{Form}
use Rattle.model_text.specs.Words.{word}
use Rattle.model_text.specs.declared.fields.Direction.{Direction}
use Rattle.model_text.proofs.PlainWords.{is_plain_byte, is_plain, IsPlain, ArePlain, no_words, one_more}

-- a step that isn't refused hands on its value
pub after_step : {A B : Type 0} (r : Result A ℕ) (x : A) (f : A → Result B ℕ) (y : Result B ℕ) → r ≡ Ok x → f x ≡ y → (r >>= f) ≡ y
after_step r x f y step rest = ap (λ q. q >>= f) step ∙ rest

-- bytes that are all of a plain kind, and at least one
plain_from : (test : ℕ → Bool) → ((b : ℕ) → test b ≡ true → is_plain_byte b ≡ true) → (w : List ℕ) → 0 < length w → list_all test w ≡ true → IsPlain w
plain_from test holds w some each = record {
  passes =
      and_from (nat_lt 0 (length w)) (list_all is_plain_byte w) (lt-ltb 0 (length w) some)
      (list_all-from_AllPass is_plain_byte w (All-weaker (λ b. test b ≡ true) (λ b. is_plain_byte b ≡ true) holds w (AllPass-from_list_all test w each)));
}

plain_name_byte : (b : ℕ) → is_name_byte b ≡ true → is_plain_byte b ≡ true
plain_name_byte b name = grind (arith, nat_tests)

plain_digit : (b : ℕ) → is_ascii_digit b ≡ true → is_plain_byte b ≡ true
plain_digit b digit = grind (arith, nat_tests)

-- a name
module _ (w : List ℕ) (name : IsName w) where
  pub plain_name : IsPlain w
  plain_name =
      let bytes = and_parts (nat_lt 0 (length w) && nat_le (length w) 16 && list_all is_name_byte w) (not (bytes_eq w (codes "-"))) name in
      let sizes = and_parts (nat_lt 0 (length w) && nat_le (length w) 16) (list_all is_name_byte w) bytes.0 in
      let least = and_parts (nat_lt 0 (length w)) (nat_le (length w) 16) sizes.0 in
      plain_from is_name_byte plain_name_byte w (ltb-true 0 (length w) least.0) sizes.1

  pub reads_name : name_at w ≡ Ok w
  reads_name = cond-true (is_name w) (Ok w) (Err 7) name

-- a name among distinct ones is found at its place
pub found_name : (names : List (List ℕ)) (n : ℕ) → AllPairs (λ a b. a ≢ b) names → n < length names → unwrap_or (position (pointwise nat_eq (get_or names n [])) names) 4294967295 ≡ n
found_name names n distinct inside =
    let p : List ℕ → Bool = pointwise nat_eq (get_or names n []) in
    let place : position_or_len p names ≡ n =
    position_or_len_is p names n [] (omega arith)
    (λ k before. false_from_ne_true (p (get_or names k [])) (λ same. distinct k n [] before inside (sym ((bytes_eq-Decides (get_or names n []) (get_or names k [])).0 same))))
    (λ here. (bytes_eq-Decides (get_or names n []) (get_or names n [])).1 refl) in
    let there : nat_lt (position_or_len p names) (length names) ≡ true = lt-ltb _ _ (omega arith) in
    ap (λ o. unwrap_or o 4294967295) (cond-true _ (Some (position_or_len p names)) None there) ∙ place

-- numbers of at most 18 digits
abbrev pub is_short : Range → Bool
is_short range = int_le (neg_ℤ (pos 999999999999999999)) range.least && int_le range.most (pos 999999999999999999)

int_le_tells : (a b : ℤ) → int_le a b ≡ true → a ≤ℤ b
int_le_tells a b test = grind (arith, ints)

int_le_from : (a b : ℤ) → a ≤ℤ b → int_le a b ≡ true
int_le_from a b least = grind (arith, ints)

short_number : (range : Range) (n : ℤ) → is_short range ≡ true → IsIn range n → unsigned_abs n < 10 ^ 18
short_number range n short is =
    let parts = and_parts (int_le (neg_ℤ (pos 999999999999999999)) range.least) (int_le range.most (pos 999999999999999999)) short in
    let low : neg_ℤ (pos 999999999999999999) ≤ℤ range.least = int_le_tells _ _ parts.0 in
    let high : range.most ≤ℤ pos 999999999999999999 = int_le_tells _ _ parts.1 in
    omega (arith, ints, is.least, is.most)

-- a sign before digits
plain_minus : (ds : List ℕ) → IsPlain ds → IsPlain (45 ∷ ds)
plain_minus ds plain =
    let parts = and_parts (nat_lt 0 (length ds)) (list_all is_plain_byte ds) plain.passes in
    record { passes = and_from (nat_lt 0 (length (45 ∷ ds))) (list_all is_plain_byte (45 ∷ ds)) (lt-ltb 0 (length (45 ∷ ds)) (omega arith)) parts.1 }

plain_digits : (n : ℕ) → n < 2 ^ 64 → IsPlain (decimal n)
plain_digits n small = plain_from is_ascii_digit plain_digit (decimal n) (decimal_nonempty n small) (digits_decimal own n small)

plain_number : (n : ℤ) → unsigned_abs n < 10 ^ 18 → IsPlain (signed_decimal n)
plain_number (pos n) short = plain_digits n (omega arith)
plain_number (negsuc n) short = plain_minus (decimal (suc n)) (plain_digits (suc n) (omega arith))

module _ (range : Range) (n : ℤ) (short : is_short range ≡ true) (is : IsIn range n) where
  pub plain_number_in : IsPlain (signed_decimal n)
  plain_number_in = plain_number n (short_number range n short is)

  in_its_range : is_in range n ≡ true
  in_its_range = and_from (int_le range.least n) (int_le n range.most) (int_le_from _ _ is.least) (int_le_from _ _ is.most)

  pub reads_number : number_in range (signed_decimal n) ≡ Ok n
  unfolding number_in
  reads_number = ap (in_range range) (number_of-IsNumber (signed_decimal n) n (record { form = refl; short = short_number range n short is })) ∙ cond-true (is_in range n) (Ok n) (Err 7) in_its_range

-- a number isn't the default
default_is_none : (range : Range) (n : ℤ) → number_in range (codes "-") ≡ Ok n → ⊥
unfolding number_in number_of
default_is_none range n e = absurd (cc)

module _ (range : Range) (short : is_short range ≡ true) where
  no_default : (n : ℤ) → IsIn range n → is_default (signed_decimal n) ≡ false
  no_default n is = false_from_ne_true (is_default (signed_decimal n)) (λ same.
      let word : signed_decimal n ≡ codes "-" = (bytes_eq-Decides (signed_decimal n) (codes "-")).0 same in
      let read = reads_number range n short is in
      default_is_none range n (sym (ap (number_in range) word) ∙ read))

  -- a number or the default
  pub plain_or_default : (n : Option ℤ) → IfSome n (IsIn range) → IsPlain (number_word n)
  plain_or_default None is = record { passes = refl }
  plain_or_default (Some n) is = plain_number_in range n short is

  pub reads_or_default : (n : Option ℤ) → IfSome n (IsIn range) → number_or_default range (number_word n) ≡ Ok n
  unfolding number_or_default
  reads_or_default None is = refl
  reads_or_default (Some n) is = cond-false (is_default (signed_decimal n)) _ _ (no_default n is) ∙ ap (λ r. r >>= λ n. Ok (Some n)) (reads_number range n short is)

-- 0 or 1
pub plain_flag : (b : Bool) → IsPlain (flag_word b)
plain_flag true = record { passes = refl }
plain_flag false = record { passes = refl }

digit_read : (n : ℕ) → n ≤ 1 → number_in FLAG ((48 + n) ∷ []) ≡ Ok (pos n)
digit_read n small =
    let least : pos 0 ≤ℤ pos n = omega (arith, ints) in
    let most : pos n ≤ℤ pos 1 = omega (arith, ints) in
    sym (ap (number_in FLAG) (decimal_digit n (omega arith))) ∙ reads_number FLAG (pos n) refl (record { least = least; most = most })

pub reads_flag : (b : Bool) → flag_at (flag_word b) ≡ Ok b
unfolding flag_at
reads_flag true = ap (λ r. r >>= λ n. Ok (int_eq n (pos 1))) (digit_read 1 (omega arith))
reads_flag false = ap (λ r. r >>= λ n. Ok (int_eq n (pos 1))) (digit_read 0 (omega arith))

-- the angle of a bend is one of six numbers
angle_in : (n : ℕ) → IsTrue (is_bend_angle n) → IsIn ANGLE (pos n)
angle_in n listed = let bounds : (22500 ≤ n) × (n ≤ 180000) = grind (arith, nat_tests) in record { least = omega (arith, ints, bounds.0); most = omega (arith, ints, bounds.1) }

reads_angle : (n : ℕ) → IsTrue (is_bend_angle n) → angle_at (decimal n) ≡ Ok n
unfolding angle_at
reads_angle n listed =
    after_step _ (pos n) _ _ (reads_number ANGLE (pos n) refl (angle_in n listed))
    (after_step _ tt _ _ (cond-false (not (is_bend_angle n)) (Err 7) (Ok tt) (ap not listed)) refl)

plain_angle : (n : ℕ) → IsTrue (is_bend_angle n) → IsPlain (decimal n)
plain_angle n listed = plain_number_in ANGLE (pos n) refl (angle_in n listed)

-- a direction
not_all_zero : (x y z : ℤ) → IsDirection x y z → is_zero x y z ≡ false
not_all_zero x y z is = false_from_ne_true (is_zero x y z) (λ zero.
    let last = and_parts _ _ zero in
    let first = and_parts _ _ last.0 in
    is.not_zero ((Decides-int_eq x (pos 0)).0 first.0, (Decides-int_eq y (pos 0)).0 first.1, (Decides-int_eq z (pos 0)).0 last.1))

-- two counts that are the same
same_count : (a b : ℕ) → a ≡ b → not (a == b) ≡ false
same_count a b same = grind (arith, nat_tests)

-- the word behind some words
word_at : (done : List (List ℕ)) (w : List ℕ) (rest : List (List ℕ)) (k : ℕ) → k ≡ length done → word (done ++ w ∷ rest) k ≡ w
word_at done w rest k at = get_or_at done w rest [] k (sym at)

-- and behind some more
word_behind : (done more : List (List ℕ)) (w : List ℕ) (rest : List (List ℕ)) (k : ℕ) → k ≡ length done + length more → word (done ++ (more ++ w ∷ rest)) k ≡ w
word_behind done more w rest k at =
    ap (λ ws. word ws k) (sym (append_assoc done more (w ∷ rest))) ∙ word_at (done ++ more) w rest k (omega (arith, length-append done more))

reads_direction : (done rest : List (List ℕ)) (d : Direction) (k : ℕ) → k ≡ length done → IsDirection d.x d.y d.z
    → direction_at (done ++ signed_decimal d.x ∷ signed_decimal d.y ∷ signed_decimal d.z ∷ rest) k ≡ Ok d
unfolding direction_at
reads_direction done rest d k at is =
    let x = signed_decimal d.x in
    let y = signed_decimal d.y in
    let z = signed_decimal d.z in
    after_step _ d.x _ _ (ap (number_in DIRECTION_PART) (word_at done x (y ∷ z ∷ rest) k at) ∙ reads_number DIRECTION_PART d.x refl is.x_part)
    (after_step _ d.y _ _ (ap (number_in DIRECTION_PART) (word_behind done (x ∷ []) y (z ∷ rest) (k + 1) (omega arith)) ∙ reads_number DIRECTION_PART d.y refl is.y_part)
    (after_step _ d.z _ _ (ap (number_in DIRECTION_PART) (word_behind done (x ∷ y ∷ []) z rest (k + 2) (omega arith)) ∙ reads_number DIRECTION_PART d.z refl is.z_part)
    (after_step _ tt _ _ (cond-false (is_zero d.x d.y d.z) (Err 7) (Ok tt) (not_all_zero d.x d.y d.z is)) refl)))

-- how a tee is made, by the word of its kind
abbrev connection_by : List ℕ → List ℕ → Result TeeKind ℕ
connection_by kind value =
    if bytes_eq kind (codes "unreinforced") then (number_in NOTHING value >>= λ _. Ok Unreinforced) else
    if bytes_eq kind (codes "pad") then (number_in PAD_THICKNESS value >>= λ thickness. Ok (Pad thickness)) else
    if bytes_eq kind (codes "coefficient") then (number_in TEE_COEFFICIENT value >>= λ c. Ok (Coefficient c)) else
    Err 9

by_words : (done rest : List (List ℕ)) (kind value : List ℕ) (k : ℕ) → k ≡ length done → connection_at (done ++ kind ∷ value ∷ rest) k ≡ connection_by kind value
unfolding connection_at
by_words done rest kind value k at =
    ap (λ w. connection_by w (word (done ++ kind ∷ value ∷ rest) (k + 1))) (word_at done kind (value ∷ rest) k at)
    ∙ ap (connection_by kind) (word_behind done (kind ∷ []) value rest (k + 1) (omega (arith, at)))

nothing_read : number_in NOTHING (codes "0") ≡ Ok (pos 0)
nothing_read =
    let least : pos 0 ≤ℤ pos 0 = omega (arith, ints) in
    sym (ap (number_in NOTHING) (decimal_digit 0 (omega arith))) ∙ reads_number NOTHING (pos 0) refl (record { least = least; most = least })

reads_connection : (done rest : List (List ℕ)) (kind : TeeKind) (k : ℕ) → k ≡ length done → TeeInForm kind → connection_at (done ++ (connection_words kind ++ rest)) k ≡ Ok kind
reads_connection done rest Unreinforced k at is =
    by_words done rest (codes "unreinforced") (codes "0") k at ∙ after_step _ (pos 0) _ _ nothing_read refl
reads_connection done rest (Pad thickness) k at is =
    by_words done rest (codes "pad") (signed_decimal thickness) k at ∙ after_step _ thickness _ _ (reads_number PAD_THICKNESS thickness refl is) refl
reads_connection done rest (Coefficient c) k at is =
    by_words done rest (codes "coefficient") (signed_decimal c) k at ∙ after_step _ c _ _ (reads_number TEE_COEFFICIENT c refl is) refl

plain_connection : (kind : TeeKind) (rest : List (List ℕ)) → TeeInForm kind → ArePlain rest → ArePlain (connection_words kind ++ rest)
plain_connection Unreinforced rest is plain = one_more _ _ (record { passes = refl }) (one_more _ _ (record { passes = refl }) plain)
plain_connection (Pad thickness) rest is plain = one_more _ _ (record { passes = refl }) (one_more _ _ (plain_number_in PAD_THICKNESS thickness refl is) plain)
plain_connection (Coefficient c) rest is plain = one_more _ _ (record { passes = refl }) (one_more _ _ (plain_number_in TEE_COEFFICIENT c refl is) plain)

length-connection : (kind : TeeKind) → length (connection_words kind) ≡ 2
length-connection Unreinforced = refl
length-connection (Pad thickness) = refl
length-connection (Coefficient c) = refl

-- the name at a place is plain, read as a name, and found there
pub record IsNamed (names : List (List ℕ)) (n : ℕ) : Type 0 where
  pub plain : IsPlain (get_or names n [])
  pub reads : name_at (get_or names n []) ≡ Ok (get_or names n [])
  pub found : unwrap_or (position (pointwise nat_eq (get_or names n [])) names) 4294967295 ≡ n

-- a check is named, or none is
abbrev pub IsNamedCheck : Lists → Option CheckId → Type 0
IsNamedCheck m named = IfSome named (λ id. IsNamed (names_in m space_of.Check) id.0)

plain_check : (m : Lists) (named : Option CheckId) → IsNamedCheck m named → IsPlain (check_word m named)
plain_check m None is = record { passes = refl }
plain_check m (Some id) is = is.plain

-- a name isn't the word for none
name_is_none : (w : List ℕ) → name_at (codes "-") ≡ Ok w → ⊥
name_is_none w e = absurd (cc)

reads_check : (m : Lists) (named : Option CheckId) → IsNamedCheck m named → check_named m (check_word m named) ≡ Ok named
reads_check m None is = refl
reads_check m (Some id) is =
    let name = name_of m space_of.Check id.0 in
    let some : is_default name ≡ false = false_from_ne_true (is_default name) (λ none.
    name_is_none name (sym (ap name_at ((bytes_eq-Decides name (codes "-")).0 none)) ∙ is.reads)) in
    cond-false (is_default name) _ _ some
    ∙ after_step (number_named m space_of.Check name) id.0 _ _ (after_step (name_at name) name _ _ is.reads (ap Ok is.found)) refl

-- what a value has to be, so that its words are read as it
abbrev pub IsInField : Lists → (f : Field) → Value f → Type 0
IsInField m own_name name = IsName name
IsInField m (name_in space) n = IsNamed (names_in m space) n
IsInField m check_or_none named = IsNamedCheck m named
IsInField m (within range) n = IsIn range n
IsInField m (within_or_default range) n = IfSome n (IsIn range)
IsInField m bend_angle n = IsTrue (is_bend_angle n)
IsInField m flag b = Unit {0}
IsInField m connection kind = TeeInForm kind
IsInField m direction d = IsDirection d.x d.y d.z
IsInField m (kind_word w) _ = Unit {0}

abbrev pub AreInRow : Lists → (fs : List Field) → Values fs → Type 0
AreInRow m [] vs = Unit {0}
AreInRow m (f ∷ fs) (v, vs) = IsInField m f v × AreInRow m fs vs

-- the numbers of a field have at most 18 digits, and its own word is plain
abbrev is_short_field : Field → Bool
is_short_field own_name = true
is_short_field (name_in space) = true
is_short_field check_or_none = true
is_short_field (within range) = is_short range
is_short_field (within_or_default range) = is_short range
is_short_field bend_angle = true
is_short_field flag = true
is_short_field connection = true
is_short_field direction = true
is_short_field (kind_word w) = is_plain w

abbrev pub is_short_row : List Field → Bool
is_short_row [] = true
is_short_row (f ∷ fs) = is_short_field f && is_short_row fs

module _ (m : Lists) where
  reads_field : (f : Field) (v : Value f) (done rest : List (List ℕ)) (k : ℕ) → k ≡ length done → is_short_field f ≡ true → IsInField m f v → read_field m f (done ++ (field_words m f v ++ rest)) k ≡ Ok v
  reads_field own_name v done rest k at short is = ap name_at (word_at done v rest k at) ∙ reads_name v is
  reads_field (name_in space) n done rest k at short is =
      ap (number_named m space) (word_at done (name_of m space n) rest k at) ∙ after_step _ (name_of m space n) _ _ is.reads (ap Ok is.found)
  reads_field check_or_none v done rest k at short is = ap (check_named m) (word_at done (check_word m v) rest k at) ∙ reads_check m v is
  reads_field (within range) v done rest k at short is = ap (number_in range) (word_at done (signed_decimal v) rest k at) ∙ reads_number range v short is
  reads_field bend_angle n done rest k at short is = ap angle_at (word_at done (decimal n) rest k at) ∙ reads_angle n is
  reads_field (within_or_default range) v done rest k at short is = ap (number_or_default range) (word_at done (number_word v) rest k at) ∙ reads_or_default range short v is
  reads_field flag v done rest k at short is = ap flag_at (word_at done (flag_word v) rest k at) ∙ reads_flag v
  reads_field connection v done rest k at short is = reads_connection done rest v k at is
  reads_field direction v done rest k at short is = reads_direction done rest v k at is
  reads_field (kind_word w) v done rest k at short is = refl

  field_plain : (f : Field) (v : Value f) (rest : List (List ℕ)) → is_short_field f ≡ true → IsInField m f v → ArePlain rest → ArePlain (field_words m f v ++ rest)
  field_plain own_name v rest short is plain = one_more _ _ (plain_name v is) plain
  field_plain (name_in space) n rest short is plain = one_more _ _ is.plain plain
  field_plain check_or_none v rest short is plain = one_more _ _ (plain_check m v is) plain
  field_plain (within range) v rest short is plain = one_more _ _ (plain_number_in range v short is) plain
  field_plain bend_angle n rest short is plain = one_more _ _ (plain_angle n is) plain
  field_plain (within_or_default range) v rest short is plain = one_more _ _ (plain_or_default range short v is) plain
  field_plain flag v rest short is plain = one_more _ _ (plain_flag v) plain
  field_plain connection v rest short is plain = plain_connection v rest is plain
  field_plain direction v rest short is plain =
      one_more _ _ (plain_number_in DIRECTION_PART v.x refl is.x_part)
      (one_more _ _ (plain_number_in DIRECTION_PART v.y refl is.y_part) (one_more _ _ (plain_number_in DIRECTION_PART v.z refl is.z_part) plain))
  field_plain (kind_word w) v rest short is plain = one_more _ _ (record { passes = short }) plain

  length-field : (f : Field) (v : Value f) → length (field_words m f v) ≡ width f
  length-field own_name v = refl
  length-field (name_in space) v = refl
  length-field check_or_none v = refl
  length-field (within range) v = refl
  length-field bend_angle v = refl
  length-field (within_or_default range) v = refl
  length-field flag v = refl
  length-field connection v = length-connection v
  length-field direction v = refl
  length-field (kind_word w) v = refl

  length-row : (fs : List Field) (vs : Values fs) → length (row_words m fs vs) ≡ row_width fs
  length-row [] vs = refl
  length-row (f ∷ fs) (v, vs) = omega (arith, length-append (field_words m f v) (row_words m fs vs), length-field f v, length-row fs vs)

  row_plain : (fs : List Field) (vs : Values fs) → is_short_row fs ≡ true → AreInRow m fs vs → ArePlain (row_words m fs vs)
  row_plain [] vs short are = no_words
  row_plain (f ∷ fs) (v, vs) short are =
      let both = and_parts (is_short_field f) (is_short_row fs) short in
      field_plain f v (row_words m fs vs) both.0 are.0 (row_plain fs vs both.1 are.1)

  -- the fields are read from left to right
  reads_row : (fs : List Field) (vs : Values fs) (done : List (List ℕ)) (k : ℕ) (make : Values fs → Record) → k ≡ length done → is_short_row fs ≡ true → AreInRow m fs vs
      → read_row m fs (done ++ row_words m fs vs) k make ≡ Ok (make vs)
  reads_row [] vs done k make at short are = refl
  reads_row (f ∷ fs) (v, vs) done k make at short are =
      let both = and_parts (is_short_field f) (is_short_row fs) short in
      let next : k + width f ≡ length (done ++ field_words m f v) = omega (arith, length-append done (field_words m f v), length-field f v) in
      after_step (read_field m f (done ++ (field_words m f v ++ row_words m fs vs)) k) v _ _ (reads_field f v done (row_words m fs vs) k at both.0 are.0)
      (ap (λ ws. read_row m fs ws (k + width f) (λ rest. make (v, rest))) (sym (append_assoc done (field_words m f v) (row_words m fs vs)))
      ∙ reads_row fs vs (done ++ field_words m f v) (k + width f) (λ rest. make (v, rest)) next both.1 are.1)

  -- a line in a form is read as its record
  module _ (f : Form) (vs : Values (row f)) (short : is_short_row (row f) ≡ true) (are : AreInRow m (row f) vs) where
    pub form_plain : ArePlain (row_words m (row f) vs)
    form_plain = row_plain (row f) vs short are

    pub form_read : record_in m f (form_words m f vs) ≡ Ok (made f vs)
    form_read =
        let counted : length (form_words m f vs) ≡ 1 + row_width (row f) = omega (arith, length-row (row f) vs) in
        after_step _ tt _ _ (cond-false (not (length (form_words m f vs) == 1 + row_width (row f))) (Err 5) (Ok tt) (same_count _ _ counted))
        (reads_row (row f) vs (first_word f ∷ []) 1 (made f) refl short are)
