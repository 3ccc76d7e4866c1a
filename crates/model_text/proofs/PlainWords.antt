-- Plain words with single spaces between them are the words of a line.
use Rattle.std.proofs.Common.{◌≡◌, ℕ, ◌==◌, ◌&&◌, not, nat_lt, nat_le, Bool, true, false, List, [], ◌∷◌, ◌++◌, length, take, filter, All, refl, ap, ◌∙◌, append_assoc, take_all, arith}
use Rattle.std.proofs.lemmas.Bool.{and_parts, cond-true}
use Rattle.std.proofs.lemmas.Bool.Decides.{nat_tests}
use Rattle.std.proofs.lemmas.List.Elements.{All-nil, All-cons, All-head, All-tail, All-append, All-weaker}
use Rattle.std.proofs.lemmas.List.Splits.{slice_split_none, slice_split_at}
use Rattle.std.proofs.lemmas.List.Sums.{AllPass-from_list_all, list_all-from_AllPass, position_or_len_is}
use Rattle.std.specs.List.{list_all, join_with_byte, slice_split, before_first, position_or_len}
use Rattle.text_words.specs.Fields.{line, lines}
use Rattle.model_text.specs.Words.{is_blank, starts_comment, is_allowed, is_word, words}

-- a byte of a word: allowed, and neither a blank nor '#'
abbrev pub is_plain_byte : ℕ → Bool
is_plain_byte b = nat_le 33 b && nat_le b 126 && not (b == 35)

-- at least one such byte, and no other
abbrev pub is_plain : List ℕ → Bool
is_plain word = nat_lt 0 (length word) && list_all is_plain_byte word

pub record IsPlain (word : List ℕ) : Type 0 where
  pub passes : is_plain word ≡ true

pub record ArePlain (ws : List (List ℕ)) : Type 0 where
  pub each : All IsPlain ws

pub no_words : ArePlain []
no_words = record { each = All-nil IsPlain }

pub one_more : (w : List ℕ) (ws : List (List ℕ)) → IsPlain w → ArePlain ws → ArePlain (w ∷ ws)
one_more w ws plain are = record { each = All-cons IsPlain w ws plain are.each }

first : (w : List ℕ) (ws : List (List ℕ)) → ArePlain (w ∷ ws) → IsPlain w
first w ws are = All-head IsPlain w ws are.each

others : (w : List ℕ) (ws : List (List ℕ)) → ArePlain (w ∷ ws) → ArePlain ws
others w ws are = record { each = All-tail IsPlain w ws are.each }

plain_no_blank : (b : ℕ) → is_plain_byte b ≡ true → is_blank b ≡ false
plain_no_blank b plain = grind (arith, nat_tests)

plain_no_comment : (b : ℕ) → is_plain_byte b ≡ true → starts_comment b ≡ false
plain_no_comment b plain = grind (arith, nat_tests)

plain_no_feed : (b : ℕ) → is_plain_byte b ≡ true → (b == 10) ≡ false
plain_no_feed b plain = grind (arith, nat_tests)

plain_allowed : (b : ℕ) → is_plain_byte b ≡ true → is_allowed b ≡ true
plain_allowed b plain = grind (arith, nat_tests)

-- what holds of plain bytes holds of each byte of a plain word
each_byte : (P : ℕ → Type 0) → ((b : ℕ) → is_plain_byte b ≡ true → P b) → (w : List ℕ) → IsPlain w → All P w
each_byte P holds w plain = All-weaker (λ b. is_plain_byte b ≡ true) P holds w (AllPass-from_list_all is_plain_byte w (and_parts (nat_lt 0 (length w)) (list_all is_plain_byte w) plain.passes).1)

-- what holds of plain bytes and of the space holds of each byte of a line
each_byte_joined : (P : ℕ → Type 0) → ((b : ℕ) → is_plain_byte b ≡ true → P b) → P 32 → (ws : List (List ℕ)) → ArePlain ws → All P (join_with_byte 32 ws)
each_byte_joined P holds space [] plain = All-nil P
each_byte_joined P holds space (w ∷ []) plain = each_byte P holds w (first w [] plain)
each_byte_joined P holds space (w ∷ v ∷ ws) plain =
    All-append P w (32 ∷ join_with_byte 32 (v ∷ ws)) (each_byte P holds w (first w (v ∷ ws) plain))
    (All-cons P 32 (join_with_byte 32 (v ∷ ws)) space (each_byte_joined P holds space (v ∷ ws) (others w (v ∷ ws) plain)))

-- a line is split at its spaces into its words
split_joined : (w : List ℕ) (ws : List (List ℕ)) → ArePlain (w ∷ ws) → slice_split is_blank (join_with_byte 32 (w ∷ ws)) ≡ w ∷ ws
split_joined w [] plain = slice_split_none is_blank w (each_byte (λ b. is_blank b ≡ false) plain_no_blank w (first w [] plain))
split_joined w (v ∷ ws) plain =
    slice_split_at is_blank w 32 (join_with_byte 32 (v ∷ ws)) (each_byte (λ b. is_blank b ≡ false) plain_no_blank w (first w (v ∷ ws) plain)) refl
    ∙ ap (λ l. w ∷ l) (split_joined v ws (others w (v ∷ ws) plain))

-- where nothing is found, everything stands before it
before_first-none : (p : ℕ → Bool) (xs : List ℕ) → All (λ x. p x ≡ false) xs → before_first p xs ≡ xs
before_first-none p xs none =
    let all : position_or_len p xs ≡ length xs = position_or_len_is p xs (length xs) 0 (omega arith) (λ k inside. none k 0 inside) (λ past. absurd (omega arith)) in
    ap (λ n. take n xs) all ∙ take_all (length xs) xs (omega arith)

filter_plain : (ws : List (List ℕ)) → ArePlain ws → filter is_word ws ≡ ws
filter_plain [] plain = refl
filter_plain (w ∷ ws) plain =
    cond-true (is_word w) _ _ (and_parts (nat_lt 0 (length w)) (list_all is_plain_byte w) (first w ws plain).passes).0 ∙ ap (λ l. w ∷ l) (filter_plain ws (others w ws plain))

-- the words of the line
pub words-joined : (ws : List (List ℕ)) → ArePlain ws → words (join_with_byte 32 ws) ≡ ws
words-joined [] plain = refl
words-joined (w ∷ ws) plain =
    ap (λ l. filter is_word (slice_split is_blank l)) (before_first-none starts_comment (join_with_byte 32 (w ∷ ws)) (each_byte_joined (λ b. starts_comment b ≡ false) plain_no_comment refl (w ∷ ws) plain))
    ∙ ap (filter is_word) (split_joined w ws plain) ∙ filter_plain (w ∷ ws) plain

module _ (ws : List (List ℕ)) (plain : ArePlain ws) where
  -- each byte of the line may stand in a text
  pub allowed-joined : list_all is_allowed (join_with_byte 32 ws) ≡ true
  allowed-joined = list_all-from_AllPass is_allowed (join_with_byte 32 ws) (each_byte_joined (λ b. is_allowed b ≡ true) plain_allowed refl ws plain)

  -- the line is the first of a text that begins with it
  pub lines-line : (rest : List ℕ) → lines (line ws ++ rest) ≡ join_with_byte 32 ws ∷ lines rest
  unfolding line
  lines-line rest =
      ap lines (append_assoc (join_with_byte 32 ws) (10 ∷ []) rest)
      ∙ slice_split_at (λ b. b == 10) (join_with_byte 32 ws) 10 rest (each_byte_joined (λ b. (b == 10) ≡ false) plain_no_feed refl ws plain) refl
