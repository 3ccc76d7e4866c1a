-- A generated text is the canonical text of its model.
use Rattle.std.proofs.Common.{◌≡◌, ℕ, ◌+◌, ◌*◌, ◌^◌, ◌<◌, ◌==◌, ◌&&◌, ◌||◌, nat_lt, true, List, [], ◌++◌, map, length, get_or, codes, append_assoc, append-nil, refl, sym, ap, ◌∙◌, arith}
use Rattle.std.proofs.lemmas.Bool.{and_parts, ltb-true}
use Rattle.std.proofs.lemmas.Bool.Decides.{nat_tests}
use Rattle.std.proofs.lemmas.Fmt.{decimal-digits_value}
use Rattle.std.proofs.lemmas.List.{get_or-map, length-map, map-append}
use Rattle.std.proofs.lemmas.List.Concat.{flat_map-append}
use Rattle.std.proofs.lemmas.List.FromFn.{length-map-range_with_len, get_or-map-range_with_len, fill_by_all}
use Rattle.std.specs.Char.{is_ascii_digit}
use Rattle.std.specs.Fmt.{decimal}
use Rattle.std.specs.List.{list_all}
use Rattle.std.specs.Str.Parse.{digits_value}
use Rattle.lists.specs.Listed.{listed}
use Rattle.text_words.specs.Fields.{line}
use Rattle.text_words.proofs.NumberLemmas.{own}
use Rattle.model_types.specs.declared.ids.Space.TheVariants as space_of
use Rattle.model_types.specs.declared.records.Node.{Node as NodeRecord}
use Rattle.model_types.specs.declared.records.Restraint.{Restraint}
use Rattle.model_types.specs.declared.records.Record.TheVariants as record_of
use Rattle.model_types.specs.Kinds.{material_kind, section_kind, node_kind, element_kind, restraint_kind, case_kind}
use Rattle.model_types.specs.Lists.{Lists}
use Rattle.model_text.specs.Canonical.{canonical, kind_lines, lines_of}
use Rattle.model_text.specs.Rows.{name_of, words_of}
use Rattle.model_gen.specs.Text.{generated, rows, words, node_name, material_words, section_words, case_words}
use Rattle.model_gen.specs.declared.rows.Row.TheVariants.{Node, Straight, Anchor, Support}
use Rattle.model_gen.specs.GeneratedModel.{node, straight, anchor, support, generated_model}

-- what is made of each of a list that is made place by place
pub map_listed : {X Y : Type 0} (f : X → Y) (g : ℕ → X) (h : ℕ → Y) (n : ℕ) → ((i : ℕ) → i < n → f (g i) ≡ h i) → map f (listed n g) ≡ listed n h
map_listed f g h n same =
    let count : length (listed n g) ≡ n = length-map-range_with_len g 0 n in
    fill_by_all h (map f (listed n g)) n (h 0) (length-map (listed n g) f ∙ count)
    (λ k inside. get_or-map f (listed n g) k (g 0) (h 0) (omega (arith, inside, count)) ∙ ap f (get_or-map-range_with_len g 0 n k k (g 0) inside (omega arith)) ∙ same k inside)

-- digits without a leading zero are the decimal form of what they represent
spelled : (n : ℕ) (ds : List ℕ) → digits_value 10 ds ≡ n → list_all is_ascii_digit ds ≡ true → (nat_lt 0 (length ds) && (nat_lt 48 (get_or ds 0 0) || length ds == 1)) ≡ true → n < 2 ^ 64
    → decimal n ≡ ds
spelled n ds value digits some small =
    let parts = and_parts (nat_lt 0 (length ds)) (nat_lt 48 (get_or ds 0 0) || length ds == 1) some in
    let first : get_or ds 0 0 ≡ 48 → length ds ≡ 1 = λ zero. grind (arith, nat_tests, parts.1, zero) in
    ap decimal (sym value) ∙ decimal-digits_value own ds digits (ltb-true 0 (length ds) parts.0) first (omega (arith, value, small))

-- the numbers that stand in each text
zero : decimal 0 ≡ codes "0"
zero = spelled 0 (codes "0") refl refl refl (omega arith)

one : decimal 1 ≡ codes "1"
one = spelled 1 (codes "1") refl refl refl (omega arith)

thousand : decimal 1000 ≡ codes "1000"
thousand = spelled 1000 (codes "1000") refl refl refl (omega arith)

support_stiffness : decimal 100000000 ≡ codes "100000000"
support_stiffness = spelled 100000000 (codes "100000000") refl refl refl (omega arith)

module _ (n : ℕ) where
  abbrev m : Lists
  m = generated_model n

  -- the name of a node is the one that its number makes
  named : (i : ℕ) → i < 4 * n + 1 → name_of m space_of.Node i ≡ node_name i
  named i inside =
      let count = length-map-range_with_len node 0 (4 * n + 1) in
      get_or-map (λ (r : NodeRecord). r.name) m.nodes i (node 0) [] (omega (arith, inside, count)) ∙ ap (λ (r : NodeRecord). r.name) (get_or-map-range_with_len node 0 (4 * n + 1) i i (node 0) inside (omega arith))

  node_rows : kind_lines m node_kind ≡ rows Node (4 * n + 1)
  node_rows = ap lines_of (map_listed (λ x. words_of m (record_of.Node x)) node (words Node) (4 * n + 1) (λ i inside. rw zero))

  straight_rows : kind_lines m element_kind ≡ rows Straight (4 * n)
  straight_rows = ap lines_of (map_listed (λ x. words_of m (record_of.Element x)) straight (words Straight) (4 * n) (λ i inside. rw (named i (omega (arith, inside)), named (i + 1) (omega (arith, inside)))))

  restraint_rows : kind_lines m restraint_kind ≡ rows Anchor (n + 1) ++ rows Support n
  restraint_rows =
      let f : Restraint → List (List ℕ) = λ x. words_of m (record_of.Restraint x) in
      ap lines_of (map-append f (listed (n + 1) anchor) (listed n support))
      ∙ flat_map-append line (map f (listed (n + 1) anchor)) (map f (listed n support))
      ∙ ap (λ l. lines_of l ++ lines_of (map f (listed n support))) (map_listed f anchor (words Anchor) (n + 1) (λ i inside. rw (named (4 * i) (omega (arith, inside)))))
      ∙ ap (λ l. rows Anchor (n + 1) ++ lines_of l) (map_listed f support (words Support) n (λ i inside. rw (named (4 * i + 2) (omega (arith, inside)), zero, one, support_stiffness)))

  material_line : kind_lines m material_kind ≡ line material_words
  material_line =
      let modulus = spelled 200000 (codes "200000") refl refl refl (omega arith) in
      let ratio = spelled 300 (codes "300") refl refl refl (omega arith) in
      let expansion = spelled 12000 (codes "12000") refl refl refl (omega arith) in
      let density = spelled 7850 (codes "7850") refl refl refl (omega arith) in
      rw (modulus, ratio, expansion, density, append-nil)

  section_line : kind_lines m section_kind ≡ line section_words
  section_line =
      let diameter = spelled 168300 (codes "168300") refl refl refl (omega arith) in
      let wall = spelled 7110 (codes "7110") refl refl refl (omega arith) in
      rw (diameter, wall, zero, append-nil)

  case_line : kind_lines m case_kind ≡ line case_words
  case_line = rw (zero, thousand, append-nil)

  pub is_canonical : generated n ≡ canonical m
  unfolding generated canonical
  is_canonical = rw (material_line, section_line, node_rows, straight_rows, restraint_rows, case_line) (simp (append_assoc, append-nil))
