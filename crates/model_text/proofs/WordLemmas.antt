-- Lemmas on the words of a line.
use Rattle.std.proofs.Common.{◌≡◌, ◌≢◌, zero, suc, set, inl, inr, subst, length-append, append_assoc, append-nil, ℕ, ◌+◌, ◌<◌, ◌≤◌, All, [], ◌∷◌, ◌++◌, filter, drop, get_or, length-take-le, add-one, not, Bool, true, false, nat_lt, cond, List, length, take, Some, None, position, slice_get, unwrap_or, refl, sym, ap, ◌∙◌, arith}
use Rattle.std.proofs.lemmas.Grind.{common_steps}
use Rattle.std.proofs.lemmas.Bool.Decides.{nat_tests}
use Rattle.std.proofs.lemmas.Bool.{cases_eq, cond-true, cond-false, cases_lt}
use Rattle.std.proofs.lemmas.Option.{unwrap_or-slice_get}
use Rattle.std.proofs.Math.Seq.{drop-cons}
use Rattle.std.proofs.lemmas.List.{take-append-drop, get_or-take, get_or_push, get_or-set_same, get_or-set_other, length-set}
use Rattle.std.proofs.lemmas.List.Quantifiers.{position-Some}
use Rattle.std.proofs.lemmas.List.Splits.{slice_split_none, slice_split_at, length-slice_split}
use Rattle.std.proofs.lemmas.List.Sums.{fails_before_first, length-filter, count_by-le-length, prefix_len-le-length}
use Rattle.model_text.specs.Words.{words, is_word, is_blank, starts_comment, AreFirstWords}
use Rattle.std.specs.List.{slice_split, before_first, position_or_len, slice_index_or}

module _ {X : Type 0} (p : X → Bool) (xs : List X) where
  take-all : (n : ℕ) → length xs ≤ n → take n xs ≡ xs
  take-all n h = grind (arith, common_steps)

  -- what stands before the first element that passes, where there is one
  pub before_first-Some : (i : ℕ) → Some i ≡ position p xs → take i xs ≡ before_first p xs
  before_first-Some i e = by (nat_lt (position_or_len p xs) (length xs)) refl
    where
      by : (b : Bool) → nat_lt (position_or_len p xs) (length xs) ≡ b → take i xs ≡ before_first p xs
      by true t = let same : Some i ≡ Some (position_or_len p xs) = e ∙ ap (λ b. cond b (Some (position_or_len p xs)) None) t in let at : i ≡ position_or_len p xs = cc in ap (λ k. take k xs) at
      by false t = let none : Some i ≡ None = e ∙ ap (λ b. cond b (Some (position_or_len p xs)) None) t in cc

  -- and where there is none
  pub before_first-None : None ≡ position p xs → xs ≡ before_first p xs
  before_first-None e = by (nat_lt (position_or_len p xs) (length xs)) refl
    where
      by : (b : Bool) → nat_lt (position_or_len p xs) (length xs) ≡ b → xs ≡ before_first p xs
      by true t = let some : None ≡ Some (position_or_len p xs) = e ∙ ap (λ b. cond b (Some (position_or_len p xs)) None) t in cc
      by false t = let all : length xs ≤ position_or_len p xs = grind (arith, nat_tests) in sym (take-all (position_or_len p xs) all)

module _ {X : Type 0} (xs : List X) (d : X) (k : ℕ) where
  -- the element at a place, or a default past the end
  pub slice_index_or-found : (x : X) → Some x ≡ slice_get xs k → x ≡ slice_index_or xs k d
  slice_index_or-found x e = ap (λ o. unwrap_or o d) e ∙ unwrap_or-slice_get xs k d

  pub slice_index_or-past : None ≡ slice_get xs k → d ≡ slice_index_or xs k d
  slice_index_or-past e = ap (λ o. unwrap_or o d) e ∙ unwrap_or-slice_get xs k d

module _ {X : Type 0} (p : X → Bool) (xs : List X) where
  -- the parts up to the first element that passes and behind it
  pub slice_split-Some : (at : ℕ) (d : X) → Some at ≡ position p xs → slice_split p xs ≡ take at xs ∷ slice_split p (drop (at + 1) xs)
  slice_split-Some at d is =
      let found = position-Some p xs at d (sym is) in
      let whole : xs ≡ take at xs ++ get_or xs at d ∷ drop (at + 1) xs = sym (take-append-drop at xs) ∙ ap (λ rest. take at xs ++ rest) (rw add-one (drop-cons xs at d found.0)) in
      let front : All (λ x. p x ≡ false) (take at xs) =
      λ k e inside.
      let before : k < at = omega (arith, inside, length-take-le at xs (omega (arith, found.0))) in
      let first = position-Some p xs at e (sym is) in
      let fails : p (get_or xs k e) ≡ false = first.2 k before in
      ap p (get_or-take at xs k e before) ∙ fails in
      ap (slice_split p) whole ∙ slice_split_at p (take at xs) (get_or xs at d) (drop (at + 1) xs) front found.1

  -- and where none passes
  pub slice_split-None : None ≡ position p xs → slice_split p xs ≡ xs ∷ []
  slice_split-None e =
      let past : length xs ≤ position_or_len p xs = grind (arith, nat_tests, common_steps) in
      slice_split_none p xs (λ k d inside. fails_before_first p xs k d (omega (arith, past, inside)))

-- ---- a line that is cut word by word

-- so far these words stand before the parts that are left, and the first of them are at hand
pub record IsCutUpTo (line : List ℕ) (left : List (List ℕ)) (count : ℕ) (first : List (List ℕ)) : Type 0 where
  pub done : List (List ℕ)
  pub words_are : words line ≡ done ++ filter is_word left
  pub so_far : AreFirstWords done count first

few_words : (line : List ℕ) → length (words line) ≤ length line + 1
few_words line =
    let front = before_first starts_comment line in
    let at : position_or_len starts_comment line ≤ length line = prefix_len-le-length (λ b. not (starts_comment b)) line in
    let size : length front ≡ position_or_len starts_comment line = length-take-le (position_or_len starts_comment line) line at in
    omega (arith, length-filter is_word (slice_split is_blank front), count_by-le-length is_word (slice_split is_blank front), length-slice_split is_blank front, count_by-le-length is_blank front, size, at)

-- before the first word nothing is at hand
abbrev pub empties : ℕ → List (List ℕ)
empties zero = []
empties (suc n) = [] ∷ empties n

nothing_at : (n k : ℕ) → get_or (empties n) k [] ≡ get_or [] k []
nothing_at zero k = refl
nothing_at (suc n) zero = refl
nothing_at (suc n) (suc k) = nothing_at n k

pub IsCutUpTo-none : (line front : List ℕ) → front ≡ before_first starts_comment line → IsCutUpTo line (slice_split is_blank front) 0 (empties 11)
IsCutUpTo-none line front is = record {
  done = [];
  words_are = ap (λ bytes. filter is_word (slice_split is_blank bytes)) (sym is);
  so_far = record { counted = refl; size = refl; each = λ k inside. nothing_at 11 k };
}

pushed : (ws : List (List ℕ)) (part : List ℕ) (k : ℕ) → k ≢ length ws → get_or (ws ++ part ∷ []) k [] ≡ get_or ws k []
pushed [] part zero other = absurd (other refl)
pushed [] part (suc k) other = refl
pushed (w ∷ ws) part zero other = refl
pushed (w ∷ ws) part (suc k) other = pushed ws part k (λ e. other (ap suc e))

-- one more word is at hand, or behind the ten
module _ (ws : List (List ℕ)) (count : ℕ) (first : List (List ℕ)) (so_far : AreFirstWords ws count first) (part : List ℕ) (place : ℕ)
    (own : count < 10 → place ≡ count) (other : 10 ≤ count → place ≡ 10) (inside : place < 11) where
  each_more : (k : ℕ) → k < 10 → get_or (set first place part) k [] ≡ get_or (ws ++ part ∷ []) k []
  each_more k small =
      elim (cases_eq k count) [
        | inl same ↦
            let at : k ≡ place = same ∙ sym (own (omega (arith, same, small))) in
            ap (λ p. get_or (set first place part) p []) at ∙ get_or-set_same first place part [] (omega (arith, so_far.size, inside))
            ∙ sym (get_or_push ws part [] k (sym (same ∙ so_far.counted)))
        | inr apart ↦
            let elsewhere : k ≢ place = λ at. elim (cases_lt count 10) [
              | inl few ↦ apart (at ∙ own few)
              | inr many ↦ absurd (omega (arith, at, other many, small))
            ] in
            get_or-set_other first place k part [] elsewhere ∙ so_far.each k small ∙ sym (pushed ws part k (λ e. apart (e ∙ sym so_far.counted)))
      ]

  pub AreFirstWords-more : AreFirstWords (ws ++ part ∷ []) (count + 1) (set first place part)
  AreFirstWords-more = record {
    counted = omega (arith, so_far.counted, length-append ws (part ∷ []));
    size = length-set first place part ∙ so_far.size;
    each = each_more;
  }

module _ (line : List ℕ) (left : List (List ℕ)) (count : ℕ) (first : List (List ℕ)) (up_to : IsCutUpTo line left count first)
    (part : List ℕ) (behind : List (List ℕ)) (next : left ≡ part ∷ behind) where
  -- a part that is a word
  pub IsCutUpTo-word : (place : ℕ) → (count < 10 → place ≡ count) → (10 ≤ count → place ≡ 10) → place < 11 → is_word part ≡ true → IsCutUpTo line behind (count + 1) (set first place part)
  IsCutUpTo-word place own other inside is =
      record {
        done = up_to.done ++ part ∷ [];
        words_are = up_to.words_are ∙ ap (λ l. up_to.done ++ filter is_word l) next ∙ ap (λ l. up_to.done ++ l) (cond-true (is_word part) (part ∷ filter is_word behind) (filter is_word behind) is)
            ∙ sym (append_assoc up_to.done (part ∷ []) (filter is_word behind));
        so_far = AreFirstWords-more up_to.done count first up_to.so_far part place own other inside;
      }

  -- and one that isn't
  pub IsCutUpTo-blank : is_word part ≡ false → IsCutUpTo line behind count first
  IsCutUpTo-blank is =
      record {
        done = up_to.done;
        words_are = up_to.words_are ∙ ap (λ l. up_to.done ++ filter is_word l) next ∙ ap (λ l. up_to.done ++ l) (cond-false (is_word part) (part ∷ filter is_word behind) (filter is_word behind) is);
        so_far = up_to.so_far;
      }

  -- a word that is left is one more, and no line has more words than bytes and one
  pub count_small : is_word part ≡ true → count ≤ length line
  count_small is =
      let rest : length (filter is_word left) ≡ length (filter is_word behind) + 1 =
      ap (λ l. length (filter is_word l)) next ∙ ap length (cond-true (is_word part) (part ∷ filter is_word behind) (filter is_word behind) is) ∙ sym (add-one (length (filter is_word behind))) in
      omega (arith, up_to.so_far.counted, ap length up_to.words_are, length-append up_to.done (filter is_word left), rest, few_words line)

-- nothing is left
pub AreFirstWords-all : (line : List ℕ) (count : ℕ) (first : List (List ℕ)) → IsCutUpTo line [] count first → AreFirstWords (words line) count first
AreFirstWords-all line count first up_to = subst (λ ws. AreFirstWords ws count first) (sym (up_to.words_are ∙ append-nil up_to.done)) up_to.so_far
