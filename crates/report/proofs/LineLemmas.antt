-- A text that is written piece by piece, item by item.
use Rattle.std.proofs.Common.{◌≡◌, ℕ, suc, ◌+◌, ◌<◌, List, [], ◌∷◌, ◌++◌, length, get_or, drop, append_assoc, append-nil, add-one, sym, ap, ◌∙◌}
use Rattle.std.proofs.Math.Seq.{drop-cons}
use Rattle.std.proofs.Transfers.{starts_with_of_append, starts_with_trans}
use Rattle.std.specs.Io.{StartsWith}
use Rattle.std.specs.List.{join_with_byte}
use Rattle.text_words.specs.Fields.{line}
use Rattle.report.specs.Words.{spaced}

-- the items that are left are the next one and those behind it
pub next_item : {X : Type 0} (xs : List X) (i : ℕ) (x : X) → i < length xs → x ≡ get_or xs i x → drop i xs ≡ x ∷ drop (i + 1) xs
next_item xs i x inside is = rw add-one (drop-cons xs i x inside ∙ ap (λ y. y ∷ drop (suc i) xs) (sym is))

-- a piece is written: what is left of the whole text follows it
pub written : (whole out new piece before after : List ℕ) → before ≡ piece ++ after → out ++ before ≡ whole → new ≡ out ++ piece → new ++ after ≡ whole
written whole out new piece before after parts so_far step = rw (step, append_assoc, ← parts) so_far

-- what stood before still does once a piece is written
pub still_starts : (old out new piece : List ℕ) → new ≡ out ++ piece → StartsWith out old → StartsWith new old
still_starts old out new piece step kept = starts_with_trans new out old (starts_with_of_append new out piece step) kept

-- words joined by spaces
joined_is : (first : List ℕ) (words : List (List ℕ)) → join_with_byte 32 (first ∷ words) ≡ first ++ spaced words
joined_is first [] = sym (append-nil first)
joined_is first (next ∷ words) = ap (λ rest. first ++ 32 ∷ rest) (joined_is next words)

-- a line is its first word, and the others each behind a space
pub line_is : (first : List ℕ) (words : List (List ℕ)) → line (first ∷ words) ≡ (first ++ spaced words) ++ 10 ∷ []
unfolding line
line_is first words = ap (λ text. text ++ 10 ∷ []) (joined_is first words)

-- a line is written word by word
pub line_written : (old begun named said new first name : List ℕ) (words : List (List ℕ)) → begun ≡ old ++ first → named ≡ begun ++ 32 ∷ name → said ≡ named ++ spaced words → new ≡ said ++ 10 ∷ [] → new ≡ old ++ line (first ∷ name ∷ words)
line_written old begun named said new first name words begin naming saying end =
    rw (end, saying, naming, begin, line_is first (name ∷ words)) (simp append_assoc)

-- two words more
pub pair_written : (old mid new first second : List ℕ) → mid ≡ old ++ 32 ∷ first → new ≡ mid ++ 32 ∷ second → new ≡ old ++ spaced (first ∷ second ∷ [])
pair_written old mid new first second one two = rw (two, one) (simp (append_assoc, append-nil))
