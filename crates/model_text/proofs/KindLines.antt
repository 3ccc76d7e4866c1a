-- How many records of a kind a line makes, and the line that makes the record of a number.
use Rattle.std.proofs.Common.{◌≡◌, ◌<◌, ◌≤◌, ℕ, not, ◌++◌, IsOkAnd, append_assoc, ◌+◌, ◌==◌, ◌&&◌, Bool, true, false, List, [], ◌∷◌, length, length-append, Option, Some, None, Result, Ok, Err, if◌then◌else◌, codes, subst, refl, sym, ap, ◌∙◌, arith}
use Rattle.std.proofs.lemmas.Bool.{and_parts}
use Rattle.std.proofs.lemmas.Slice.Eq.{bytes_eq-Decides}
use Rattle.std.specs.List.{list_all}
use Rattle.std.specs.Str.{bytes_eq}
use Rattle.model_types.specs.declared.records.Record.{Record}
use Rattle.model_types.specs.declared.records.Record.TheVariants as record_of
use Rattle.model_types.specs.Kinds.{Kind, material_kind, section_kind, node_kind, element_kind, tee_kind, restraint_kind, case_kind, temp_kind, pressure_kind, force_kind, move_kind, check_kind, place, kind_of, count}
use Rattle.model_types.specs.Lists.{Lists, no_records, added}
use Rattle.model_types.specs.Refusals.{refusal}
use Rattle.model_text.specs.Fields.{◌>>=◌, refuse_if}
use Rattle.text_words.specs.Fields.{lines}
use Rattle.model_text.specs.Grammar.{after_lines, IsLineOf}
use Rattle.model_text.specs.Lines.{State, start, after_line, after_words, is_header, is_of_kind, judged, makes, taken, record_taken}
use Rattle.model_text.specs.Records.{record_of_words}
use Rattle.model_text.specs.Rows.{Field, form_of, kind_made, row, row_width, width, Values, made, read_field, read_row, record_in}
use Rattle.model_text.specs.declared.records.Form.{Form}
use Rattle.model_text.specs.declared.records.Form.TheVariants as form
use Rattle.model_text.specs.Words.{words, word, is_allowed}
use Rattle.model_text.proofs.LineLemmas.{ok_same, err_no_ok, empty_list, after_lines-nil, after_lines-Ok, after_lines-Err, after_lines-append, length-lines, some_ok}

abbrev pub one_if : Bool → ℕ
one_if b = if b then 1 else 0

-- how many records of a kind a line of these words adds
abbrev pub made_under : Kind → List (List ℕ) → ℕ
made_under k ws = one_if (makes k ws)

-- what is accepted by a test, or by the step behind another
module _ {A : Type 0} {R : Type 0} (t : A) where
  pub by_test : (b : Bool) (x y : Result A ℕ) → (if b then x else y) ≡ Ok t → ((b ≡ true) → (x ≡ Ok t) → R) → ((b ≡ false) → (y ≡ Ok t) → R) → R
  by_test true x y e f g = f refl e
  by_test false x y e f g = g refl e

  pub by_step : {B : Type 0} (r : Result B ℕ) (f : B → Result A ℕ) → (r >>= f) ≡ Ok t → ((x : B) → (r ≡ Ok x) → (f x ≡ Ok t) → R) → R
  by_step (Ok x) f e g = g x refl e
  by_step (Err n) f e g = absurd (err_no_ok t n e)

-- what holds of all records that a row's values make holds of the one that is read
module _ (P : Record → Type 0) (m : Lists) (ws : List (List ℕ)) (r : Record) where
  row_made : (fs : List Field) (k : ℕ) (make : Values fs → Record) → ((vs : Values fs) → P (make vs)) → read_row m fs ws k make ≡ Ok r → P r
  row_made [] k make each e = subst P (ok_same (read_row m [] ws k make) (make tt) r refl e) (each tt)
  row_made (f ∷ fs) k make each e =
      by_step r (read_field m f ws k) (λ v. read_row m fs ws (k + width f) (λ vs. make (v, vs))) e
      (λ v is rest. row_made fs (k + width f) (λ vs. make (v, vs)) (λ vs. each (v, vs)) rest)

  form_made : (f : Form) → ((vs : Values (row f)) → P (made f vs)) → record_in m f ws ≡ Ok r → P r
  form_made f each e = by_step r (refuse_if (not (length ws == 1 + row_width (row f))) 5) (λ _. read_row m (row f) ws 1 (made f)) e (λ v is rest. row_made (row f) 1 (made f) each rest)

-- a form makes records of its kind
kind_of_made : (f : Form) (vs : Values (row f)) → kind_of (made f vs) ≡ kind_made f
kind_of_made form.Material vs = refl
kind_of_made form.Section vs = refl
kind_of_made form.Node vs = refl
kind_of_made form.Straight vs = refl
kind_of_made form.Bend vs = refl
kind_of_made form.Tee vs = refl
kind_of_made form.Anchor vs = refl
kind_of_made form.Linear vs = refl
kind_of_made form.Twist vs = refl
kind_of_made form.Oneway vs = refl
kind_of_made form.Gap vs = refl
kind_of_made form.Hanger vs = refl
kind_of_made form.Case vs = refl
kind_of_made form.Temp vs = refl
kind_of_made form.Pressure vs = refl
kind_of_made form.Force vs = refl
kind_of_made form.Move vs = refl
kind_of_made form.Sustained vs = refl
kind_of_made form.Occasional vs = refl
kind_of_made form.Expansion vs = refl

-- a record is one more of its kind, and of no other
count_added : (m : Lists) (r : Record) (k : Kind) → count (added m r) k ≡ count m k + one_if (place (kind_of r) == place k)
count_added m (record_of.Material r) material_kind = length-append m.materials (r ∷ [])
count_added m (record_of.Material r) k = omega arith
count_added m (record_of.Section r) section_kind = length-append m.sections (r ∷ [])
count_added m (record_of.Section r) k = omega arith
count_added m (record_of.Node r) node_kind = length-append m.nodes (r ∷ [])
count_added m (record_of.Node r) k = omega arith
count_added m (record_of.Element r) element_kind = length-append m.elements (r ∷ [])
count_added m (record_of.Element r) k = omega arith
count_added m (record_of.Tee r) tee_kind = length-append m.tees (r ∷ [])
count_added m (record_of.Tee r) k = omega arith
count_added m (record_of.Restraint r) restraint_kind = length-append m.restraints (r ∷ [])
count_added m (record_of.Restraint r) k = omega arith
count_added m (record_of.Case r) case_kind = length-append m.cases (r ∷ [])
count_added m (record_of.Case r) k = omega arith
count_added m (record_of.Temp r) temp_kind = length-append m.temps (r ∷ [])
count_added m (record_of.Temp r) k = omega arith
count_added m (record_of.Pressure r) pressure_kind = length-append m.pressures (r ∷ [])
count_added m (record_of.Pressure r) k = omega arith
count_added m (record_of.Force r) force_kind = length-append m.forces (r ∷ [])
count_added m (record_of.Force r) k = omega arith
count_added m (record_of.Move r) move_kind = length-append m.moves (r ∷ [])
count_added m (record_of.Move r) k = omega arith
count_added m (record_of.Check r) check_kind = length-append m.checks (r ∷ [])
count_added m (record_of.Check r) k = omega arith

module _ (m : Lists) (ws : List (List ℕ)) (r : Record) where
  -- the record of a line is of the kind of its form
  under_form : record_of_words m ws ≡ Ok r → (k : Kind) → one_if (place (kind_of r) == place k) ≡ made_under k ws
  under_form e k =
      by_step r (form_of ws) (λ f. record_in m f ws) e (λ f told is.
      ap (λ j. one_if (place j == place k)) (form_made (λ r. kind_of r ≡ kind_made f) m ws r f (kind_of_made f) is) ∙ ap (λ o. one_if (is_of_kind k o)) (sym told))

-- an accepted record is added
judged_adds : (m made : Lists) (r : Record) (o : Option ℕ) → judged r o m ≡ Ok made → added m r ≡ made
judged_adds m made r (Some n) e = absurd (err_no_ok made n e)
judged_adds m made r None e = ok_same (Ok (added m r)) (added m r) made refl e

-- the header makes no record
header_makes : (k : Kind) (ws : List (List ℕ)) → word ws 0 ≡ codes "pipeflex" → made_under k ws ≡ 0
unfolding form_of
header_makes k [] first = refl
header_makes k (w ∷ ws) first = ap (λ v. made_under k (v ∷ ws)) first

empty_makes : (k : Kind) → made_under k [] ≡ 0
unfolding form_of
empty_makes k = refl

module _ (k : Kind) (s : State) (t : State) where
  words_made : (ws : List (List ℕ)) → after_words s ws ≡ Ok t → count t.draft k ≡ count s.draft k + made_under k ws
  words_made ws e =
      by_test t (length ws == 0) _ _ e (λ none e.
      let same : s ≡ t = ok_same (Ok s) s t refl e in
      let first : made_under k ws ≡ 0 = ap (made_under k) (empty_list ws none) ∙ empty_makes k in
      omega (arith, ap (λ s. count s.draft k) same, first)) (λ _ e.
      by_test t s.header _ _ e (λ _ e.
      by_step t (record_taken s.draft ws) (λ m. Ok (record s { draft = m })) e (λ m is e.
      by_step m (record_of_words s.draft ws) (taken s.draft) is (λ r found is.
      let same : record s { draft = m } ≡ t = ok_same (Ok (record s { draft = m })) (record s { draft = m }) t refl e in
      let adds = judged_adds s.draft m r (refusal s.draft r) is in
      omega (arith, ap (λ s. count s.draft k) same, ap (λ m. count m k) adds, count_added s.draft r k, under_form s.draft ws r found k)))) (λ _ e.
      by_test t (is_header ws) _ _ e (λ header e.
      let same : record s { header = true } ≡ t = ok_same (Ok (record s { header = true })) (record s { header = true }) t refl e in
      let parts = and_parts (length ws == 2 && bytes_eq (word ws 0) (codes "pipeflex")) (bytes_eq (word ws 1) (codes "1")) header in
      let pipeflex = and_parts (length ws == 2) (bytes_eq (word ws 0) (codes "pipeflex")) parts.0 in
      let first : made_under k ws ≡ 0 = header_makes k ws ((bytes_eq-Decides (word ws 0) (codes "pipeflex")).0 pipeflex.1) in
      omega (arith, ap (λ s. count s.draft k) same, first)) (λ _ e. absurd (err_no_ok t 3 e))))

  -- an accepted line makes a record of the kind where its words do, and else none
  pub line_made : (line : List ℕ) → after_line s line ≡ Ok t → count t.draft k ≡ count s.draft k + made_under k (words line)
  line_made line e = by_test t (list_all is_allowed line) _ _ e (λ _ e. words_made (words line) e) (λ _ e. absurd (err_no_ok t 2 e))

-- the lines before line n are accepted and made so many records of the kind, not more than the number of the one that is looked for,
-- and `left` are the lines from n on
pub record IsReadUpTo (text : List ℕ) (left : List (List ℕ)) (k : Kind) (n made number : ℕ) : Type 0 where
  pub before : List (List ℕ)
  pub read : State
  pub lines_are : lines text ≡ before ++ left
  pub line_is : n ≡ length before + 1
  pub accepted : after_lines start 1 before ≡ Ok read
  pub counted : made ≡ count read.draft k
  pub not_before : made ≤ number

pub none_counted : (k : Kind) → 0 ≡ count no_records k
none_counted material_kind = refl
none_counted section_kind = refl
none_counted node_kind = refl
none_counted element_kind = refl
none_counted tee_kind = refl
none_counted restraint_kind = refl
none_counted case_kind = refl
none_counted temp_kind = refl
none_counted pressure_kind = refl
none_counted force_kind = refl
none_counted move_kind = refl
none_counted check_kind = refl

-- nothing has been read
pub IsReadUpTo-none : (text : List ℕ) (k : Kind) (number : ℕ) → IsReadUpTo text (lines text) k 1 0 number
IsReadUpTo-none text k number = record { before = []; read = start; lines_are = refl; line_is = omega arith; accepted = after_lines-nil start 1; counted = none_counted k; not_before = omega arith }

module _ (text : List ℕ) (left : List (List ℕ)) (k : Kind) (n made number : ℕ) (up_to : IsReadUpTo text left k n made number)
    (short : length text ≤ 4194304) (accepted : IsOkAnd (after_lines start 1 (lines text)) (λ s. number < count s.draft k)) where
  -- the whole text is read as the lines left are after these
  after_left : after_lines start 1 (lines text) ≡ after_lines up_to.read n left
  after_left =
      let place : 1 + length up_to.before ≡ n = omega (arith, up_to.line_is) in
      ap (after_lines start 1) up_to.lines_are ∙ after_lines-append start up_to.read 1 up_to.before left up_to.accepted ∙ ap (λ p. after_lines up_to.read p left) place

  -- some line makes each record
  pub some_left : left ≡ [] → ⊥
  some_left none =
      let all = some_ok (λ s. number < count s.draft k) (after_lines start 1 (lines text)) accepted in
      let same : all.0 ≡ up_to.read =
      ok_same (after_lines start 1 (lines text)) all.0 up_to.read all.1 (after_left ∙ ap (after_lines up_to.read n) none ∙ after_lines-nil up_to.read n) in
      let there : number < count up_to.read.draft k = subst (λ s. number < count s.draft k) same all.2 in
      absurd (omega (arith, up_to.counted, up_to.not_before, there))

  -- the number of a line fits
  pub line_small : n ≤ 4194306
  line_small =
      omega (arith, up_to.line_is, ap length up_to.lines_are, length-append up_to.before left, length-lines text, short)

  module _ (at : List ℕ) (behind : List (List ℕ)) (next : left ≡ at ∷ behind) where
    -- no line of an accepted text is refused
    next_made : (r : Result State ℕ) → after_line up_to.read at ≡ r → (new : State) × (after_line up_to.read at ≡ Ok new)
    next_made (Ok new) e = (new, e)
    next_made (Err refusal) e =
        let all = some_ok (λ s. number < count s.draft k) (after_lines start 1 (lines text)) accepted in
        let refused = after_left ∙ ap (after_lines up_to.read n) next ∙ after_lines-Err up_to.read n at behind refusal e in
        absurd (err_no_ok all.0 (record { number = refusal; line = n }) (sym refused ∙ all.1))

    -- one more line that doesn't make the record
    pub IsReadUpTo-more : (later : ℕ) → later ≡ made + made_under k (words at) → later ≤ number → IsReadUpTo text behind k (n + 1) later number
    IsReadUpTo-more later makes small =
        let new = next_made (after_line up_to.read at) refl in
        let place : n + 1 ≡ length (up_to.before ++ at ∷ []) + 1 = omega (arith, up_to.line_is, length-append up_to.before (at ∷ [])) in
        record {
          before = up_to.before ++ at ∷ [];
          read = new.0;
          lines_are = up_to.lines_are ∙ ap (λ l. up_to.before ++ l) next ∙ sym (append_assoc up_to.before (at ∷ []) behind);
          line_is = place;
          accepted =
              after_lines-append start up_to.read 1 up_to.before (at ∷ []) up_to.accepted ∙ after_lines-Ok up_to.read (1 + length up_to.before) at [] new.0 new.1
              ∙ after_lines-nil new.0 (1 + length up_to.before + 1);
          counted = omega (arith, makes, up_to.counted, line_made k up_to.read new.0 at new.1);
          not_before = small;
        }

    -- the line that makes it
    pub IsLineOf-next : made ≡ number → made_under k (words at) ≡ 1 → IsLineOf text k number n
    IsLineOf-next now makes =
        let new = next_made (after_line up_to.read at) refl in
        record {
          at = at;
          read = up_to.read;
          read_next = new.0;
          is_line = record { before = up_to.before; behind = behind; lines_are = up_to.lines_are ∙ ap (λ l. up_to.before ++ l) next; line_is = up_to.line_is; accepted = up_to.accepted };
          next = new.1;
          not_before = omega (arith, up_to.counted, now);
          there = omega (arith, up_to.counted, now, makes, line_made k up_to.read new.0 at new.1);
        }
