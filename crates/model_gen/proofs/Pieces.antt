-- A text that is written piece by piece.
use Rattle.std.proofs.Common.{◌≡◌, ℕ, ◌+◌, ◌*◌, List, [], ◌∷◌, ◌++◌, codes, append_assoc, append-nil, sym, ap, ◌∙◌, refl, arith}
use Rattle.std.proofs.lemmas.List.Concat.{flat_map-append}
use Rattle.std.proofs.lemmas.List.FromFn.{map-range_with_len_more}
use Rattle.std.specs.Fmt.{decimal}
use Rattle.std.specs.List.{flat_map}
use Rattle.lists.specs.Listed.{listed}
use Rattle.text_words.specs.Fields.{line}
use Rattle.model_gen.specs.Text.{east, north, rows, words}
use Rattle.model_gen.specs.declared.rows.Row.{Row}
use Rattle.model_gen.specs.declared.rows.Row.TheVariants.{Node, Straight, Anchor, Support}

-- a line feed behind a number and what follows it
ended : (digits more ending : List ℕ) → more ++ 10 ∷ [] ≡ ending → (digits ++ more) ++ 10 ∷ [] ≡ digits ++ ending
ended digits more ending same = append_assoc digits more (10 ∷ []) ∙ ap (λ l. digits ++ l) same

-- the lines of each kind, in the pieces in which they are written
module _ (i : ℕ) where
  node_line : line (words Node i) ≡ codes "node p" ++ (decimal i ++ (codes " " ++ (decimal (east i) ++ (codes " " ++ (decimal (north i) ++ (codes " 0" ++ 10 ∷ []))))))
  unfolding line
  node_line = ap (λ l. codes "node p" ++ l) (ended (decimal i) _ _ (ap (λ l. codes " " ++ l) (ended (decimal (east i)) _ _ (ap (λ l. codes " " ++ l) (ended (decimal (north i)) _ _ refl)))))

  straight_line : line (words Straight i) ≡ codes "straight e" ++ (decimal i ++ (codes " p" ++ (decimal i ++ (codes " p" ++ (decimal (i + 1) ++ (codes " s" ++ 10 ∷ []))))))
  unfolding line
  straight_line = ap (λ l. codes "straight e" ++ l) (ended (decimal i) _ _ (ap (λ l. codes " p" ++ l) (ended (decimal i) _ _ (ap (λ l. codes " p" ++ l) (ended (decimal (i + 1)) _ _ refl)))))

  anchor_line : line (words Anchor i) ≡ codes "anchor a" ++ (decimal i ++ (codes " p" ++ (decimal (4 * i) ++ (codes " - -" ++ 10 ∷ []))))
  unfolding line
  anchor_line = ap (λ l. codes "anchor a" ++ l) (ended (decimal i) _ _ (ap (λ l. codes " p" ++ l) (ended (decimal (4 * i)) _ _ refl)))

  support_line : line (words Support i) ≡ codes "oneway r" ++ (decimal i ++ (codes " p" ++ (decimal (4 * i + 2) ++ (codes " 0 0 -1 0 100000000" ++ 10 ∷ []))))
  unfolding line
  support_line = ap (λ l. codes "oneway r" ++ l) (ended (decimal i) _ _ (ap (λ l. codes " p" ++ l) (ended (decimal (4 * i + 2)) _ _ refl)))

-- they are written where those pieces are
module _ (old a b new : List ℕ) (i : ℕ) where
  pub node_written : (c : List ℕ) → a ≡ old ++ codes "node p" ++ decimal i → b ≡ a ++ codes " " ++ decimal (east i) → c ≡ b ++ codes " " ++ decimal (north i)
      → new ≡ c ++ (codes " 0" ++ 10 ∷ []) → new ≡ old ++ line (words Node i)
  node_written c first second third fourth = rw (fourth, third, second, first, node_line i) (simp append_assoc)

  pub straight_written : (c : List ℕ) → a ≡ old ++ codes "straight e" ++ decimal i → b ≡ a ++ codes " p" ++ decimal i → c ≡ b ++ codes " p" ++ decimal (i + 1)
      → new ≡ c ++ (codes " s" ++ 10 ∷ []) → new ≡ old ++ line (words Straight i)
  straight_written c first second third fourth = rw (fourth, third, second, first, straight_line i) (simp append_assoc)

  pub anchor_written : a ≡ old ++ codes "anchor a" ++ decimal i → b ≡ a ++ codes " p" ++ decimal (4 * i) → new ≡ b ++ (codes " - -" ++ 10 ∷ []) → new ≡ old ++ line (words Anchor i)
  anchor_written first second third = rw (third, second, first, anchor_line i) (simp append_assoc)

  pub support_written : a ≡ old ++ codes "oneway r" ++ decimal i → b ≡ a ++ codes " p" ++ decimal (4 * i + 2) → new ≡ b ++ (codes " 0 0 -1 0 100000000" ++ 10 ∷ [])
      → new ≡ old ++ line (words Support i)
  support_written first second third = rw (third, second, first, support_line i) (simp append_assoc)

-- one line more of a kind
rows-more : (row : Row) (i : ℕ) → rows row (i + 1) ≡ rows row i ++ line (words row i)
rows-more row i =
    ap (flat_map line) (map-range_with_len_more (words row) 0 i i (omega arith))
    ∙ flat_map-append line (listed i (words row)) (words row i ∷ [])
    ∙ ap (λ l. rows row i ++ l) (append-nil (line (words row i)))

pub row_written : (row : Row) (i : ℕ) (old out new : List ℕ) → out ≡ old ++ rows row i → new ≡ out ++ line (words row i) → new ≡ old ++ rows row (i + 1)
row_written row i old out new before grown =
    grown ∙ ap (λ l. l ++ line (words row i)) before ∙ append_assoc old (rows row i) (line (words row i)) ∙ ap (λ l. old ++ l) (sym (rows-more row i))
