-- A line that is written word by word.
use Rattle.std.proofs.Common.{◌≡◌, ℕ, ◌+◌, ◌<◌, ◌≤◌, List, [], ◌∷◌, ◌++◌, length, get_or, take, map, Bor, refl, sym, ap, ◌∙◌, append_assoc, arith}
use Rattle.std.proofs.lemmas.List.{take_more, map-append, length-map, length-take-le}
use Rattle.std.specs.List.{join_with_byte}

-- the texts of words
abbrev pub texts : List (Bor (List ℕ)) → List (List ℕ)
texts words = map (λ word. word.now) words

-- one more word, behind others
joined_push : (words : List (List ℕ)) (word : List ℕ) → 0 < length words → join_with_byte 32 (words ++ word ∷ []) ≡ join_with_byte 32 words ++ 32 ∷ word
joined_push [] word some = absurd (omega arith)
joined_push (first ∷ []) word some = refl
joined_push (first ∷ next ∷ words) word some =
    ap (λ rest. first ++ 32 ∷ rest) (joined_push (next ∷ words) word (omega arith)) ∙ sym (append_assoc first (32 ∷ join_with_byte 32 (next ∷ words)) (32 ∷ word))

texts_more : (words : List (Bor (List ℕ))) (i : ℕ) (d : Bor (List ℕ)) → i < length words → texts (take (i + 1) words) ≡ texts (take i words) ++ (get_or words i d).now ∷ []
texts_more words i d inside = ap texts (take_more words i d inside) ∙ map-append (λ word. word.now) (take i words) (get_or words i d ∷ [])

-- a word behind others, and the space before it
pub next_word : (old out mid new : List ℕ) (words : List (Bor (List ℕ))) (i : ℕ) (d : Bor (List ℕ)) → 0 < i → i < length words → out ≡ old ++ join_with_byte 32 (texts (take i words)) → mid ≡ out ++ 32 ∷ [] → new ≡ mid ++ (get_or words i d).now → new ≡ old ++ join_with_byte 32 (texts (take (i + 1) words))
next_word old out mid new words i d some inside so_far space word =
    let count : length (texts (take i words)) ≡ i = length-map (take i words) (λ word. word.now) ∙ length-take-le i words (omega arith) in
    let more : join_with_byte 32 (texts (take (i + 1) words)) ≡ join_with_byte 32 (texts (take i words)) ++ 32 ∷ (get_or words i d).now = ap (join_with_byte 32) (texts_more words i d inside) ∙ joined_push (texts (take i words)) (get_or words i d).now (omega arith) in
    rw (word, space, so_far, more) (simp append_assoc)

-- the first word
pub first_word : (old out mid new : List ℕ) (words : List (Bor (List ℕ))) (i : ℕ) (d : Bor (List ℕ)) → i ≤ 0 → i < length words → out ≡ old ++ join_with_byte 32 (texts (take i words)) → mid ≡ out → new ≡ mid ++ (get_or words i d).now → new ≡ old ++ join_with_byte 32 (texts (take (i + 1) words))
first_word old out mid new words i d none inside so_far same word =
    let start : i ≡ 0 = omega arith in
    let nothing : texts (take i words) ≡ [] = rw start refl in
    let whole : texts (take (i + 1) words) ≡ (get_or words i d).now ∷ [] = texts_more words i d inside ∙ ap (λ ws. ws ++ (get_or words i d).now ∷ []) nothing in
    rw (word, same, so_far, nothing, whole) (simp append_assoc)
