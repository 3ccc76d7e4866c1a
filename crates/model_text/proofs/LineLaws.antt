-- What holds of all lines of a text: a record is made by one of them.
use Rattle.std.proofs.Common.{◌≡◌, ◌<◌, ◌≤◌, ℕ, zero, suc, ◌+◌, Bool, true, false, List, [], ◌∷◌, ◌++◌, length, length-append, Result, Ok, Err, inl, inr, subst, refl, sym, ap, ◌∙◌, le_refl, arith}
use Rattle.std.proofs.lemmas.Bool.{cases_lt, cond-true, cond-false}
use Rattle.std.specs.List.{slice_index_or}
use Rattle.model_types.specs.Kinds.{Kind, count}
use Rattle.model_types.specs.Lists.{no_records}
use Rattle.text_words.specs.Fields.{lines}
use Rattle.model_text.specs.Grammar.{after_lines, IsLineOf, LinesAreDetermined, LinesAreTold}
use Rattle.model_text.specs.Lines.{State, start, after_line, makes, making}
use Rattle.model_text.specs.Words.{words}
use Rattle.model_text.proofs.KindLines.{line_made, one_if, none_counted}
use Rattle.model_text.proofs.LineLemmas.{ok_same, err_no_ok, after_lines-nil, after_lines-Ok, after_lines-Err, after_lines-append}

-- ---- what every accepted line keeps

module _ (P : State → Type 0) (keeps : (s t : State) (line : List ℕ) → after_line s line ≡ Ok t → P s → P t) where
  step_keeps : (s t : State) (n : ℕ) (x : List ℕ) (xs : List (List ℕ)) → ((u : State) → after_lines u (n + 1) xs ≡ Ok t → P u → P t)
      → (r : Result State ℕ) → after_line s x ≡ r → after_lines s n (x ∷ xs) ≡ Ok t → P s → P t
  step_keeps s t n x xs rest (Ok u) f e first = rest u (sym (after_lines-Ok s n x xs u f) ∙ e) (keeps s u x f first)
  step_keeps s t n x xs rest (Err k) f e first = absurd (err_no_ok t (record { number = k; line = n }) (sym (after_lines-Err s n x xs k f) ∙ e))

  lines_keep : (s t : State) (n : ℕ) (all : List (List ℕ)) → after_lines s n all ≡ Ok t → P s → P t
  lines_keep s t n [] e first = subst P (ok_same (after_lines s n []) s t (after_lines-nil s n) e) first
  lines_keep s t n (x ∷ xs) e first = step_keeps s t n x xs (λ u. lines_keep u t (n + 1) xs) (after_line s x) refl e first

-- ---- the line of a record

-- the shorter of two first parts begins the longer
record Begins {X : Type 0} (xs ys us vs : List X) : Type 0 where
  middle : List X
  longer : us ≡ xs ++ middle
  rest : ys ≡ middle ++ vs

first_same : {X : Type 0} (x y : X) (xs ys : List X) → x ∷ xs ≡ y ∷ ys → x ≡ y
first_same x y xs ys e = cc

rest_same : {X : Type 0} (x y : X) (xs ys : List X) → x ∷ xs ≡ y ∷ ys → xs ≡ ys
rest_same x y xs ys e = cc

begins : {X : Type 0} (xs ys us vs : List X) → xs ++ ys ≡ us ++ vs → length xs ≤ length us → Begins xs ys us vs
begins [] ys us vs same short = record { middle = us; longer = refl; rest = same }
begins (x ∷ xs) ys [] vs same short = absurd (omega (arith, short))
begins (x ∷ xs) ys (u ∷ us) vs same short =
    let more = begins xs ys us vs (rest_same x u (xs ++ ys) (us ++ vs) same) (omega (arith, short)) in
    record { middle = more.middle; longer = ap (λ y. y ∷ us) (sym (first_same x u (xs ++ ys) (us ++ vs) same)) ∙ ap (λ l. x ∷ l) more.longer; rest = more.rest }

module _ (text : List ℕ) (k : Kind) (number line other : ℕ) (a : IsLineOf text k number line) (b : IsLineOf text k number other) where
  -- what has made more of a kind keeps them
  count_keeps : (least : ℕ) (s t : State) (at : List ℕ) → after_line s at ≡ Ok t → least ≤ count s.draft k → least ≤ count t.draft k
  count_keeps least s t at e small = omega (arith, small, line_made k s t at e)

  -- a line before another makes another record
  behind_line : (x : List ℕ) (xs : List (List ℕ)) → b.is_line.before ≡ a.is_line.before ++ x ∷ xs → x ≡ a.at → ⊥
  behind_line x xs longer is =
      let place = 1 + length a.is_line.before in
      let read : after_lines start 1 b.is_line.before ≡ after_lines a.read_next (place + 1) xs =
      ap (after_lines start 1) longer ∙ after_lines-append start a.read 1 a.is_line.before (x ∷ xs) a.is_line.accepted ∙ after_lines-Ok a.read place x xs a.read_next (ap (after_line a.read) is ∙ a.next) in
      let more = lines_keep (λ s. count a.read_next.draft k ≤ count s.draft k) (count_keeps (count a.read_next.draft k)) a.read_next b.read (place + 1) xs (sym read ∙ b.is_line.accepted) (le_refl _) in
      omega (arith, more, a.there, b.not_before)

  not_less : length a.is_line.before < length b.is_line.before → ⊥
  not_less less = by part.middle part.longer part.rest
    where
      part : Begins a.is_line.before (a.at ∷ a.is_line.behind) b.is_line.before (b.at ∷ b.is_line.behind)
      part = begins a.is_line.before (a.at ∷ a.is_line.behind) b.is_line.before (b.at ∷ b.is_line.behind) (sym a.is_line.lines_are ∙ b.is_line.lines_are) (omega (arith, less))

      by : (middle : List (List ℕ)) → b.is_line.before ≡ a.is_line.before ++ middle → a.at ∷ a.is_line.behind ≡ middle ++ b.at ∷ b.is_line.behind → ⊥
      by [] longer rest = omega (arith, less, ap length longer, length-append a.is_line.before [])
      by (x ∷ xs) longer rest = behind_line x xs longer (sym (first_same a.at x a.is_line.behind (xs ++ b.at ∷ b.is_line.behind) rest))

pub lines_are_determined : LinesAreDetermined
lines_are_determined text k number line other a b =
    let least = not_less text k number line other a b in
    let most = not_less text k number other line b a in
    elim (cases_lt (length a.is_line.before) (length b.is_line.before)) [
      | inl less ↦ absurd (least less)
      | inr up ↦ elim (cases_lt (length b.is_line.before) (length a.is_line.before)) [
        | inl more ↦ absurd (most more)
        | inr down ↦ omega (arith, up, down, a.is_line.line_is, b.is_line.line_is)
      ]
    ]

-- ---- the line that the grammar tells

-- the line that makes a record, where the reading begins with s at line n
record LineFrom (s : State) (n : ℕ) (all : List (List ℕ)) (k : Kind) (number line : ℕ) : Type 0 where
  before : List (List ℕ)
  at : List ℕ
  behind : List (List ℕ)
  read : State
  read_next : State
  lines_are : all ≡ before ++ at ∷ behind
  line_is : line ≡ length before + n
  accepted : after_lines s n before ≡ Ok read
  next : after_line read at ≡ Ok read_next
  not_before : count read.draft k ≤ number
  there : number < count read_next.draft k

module _ (k : Kind) where
  abbrev told : ℕ → ℕ → List (List ℕ) → ℕ
  told q n all = slice_index_or (making k n all) q 1

  -- a line behind the first
  behind_first : (s u : State) (n : ℕ) (x : List ℕ) (xs : List (List ℕ)) (number other line : ℕ) → after_line s x ≡ Ok u → number ≡ other → LineFrom u (n + 1) xs k number line
      → LineFrom s n (x ∷ xs) k other line
  behind_first s u n x xs number other line is same later = record {
    before = x ∷ later.before;
    at = later.at;
    behind = later.behind;
    read = later.read;
    read_next = later.read_next;
    lines_are = ap (λ l. x ∷ l) later.lines_are;
    line_is = omega (arith, later.line_is);
    accepted = after_lines-Ok s n x later.before u is ∙ later.accepted;
    next = later.next;
    not_before = omega (arith, same, later.not_before);
    there = omega (arith, same, later.there);
  }

  by_making : (s u t : State) (n : ℕ) (x : List ℕ) (xs : List (List ℕ)) → after_line s x ≡ Ok u
      → ((q : ℕ) → count u.draft k + q < count t.draft k → LineFrom u (n + 1) xs k (count u.draft k + q) (told q (n + 1) xs))
      → (b : Bool) → makes k (words x) ≡ b → (q : ℕ) → count s.draft k + q < count t.draft k → LineFrom s n (x ∷ xs) k (count s.draft k + q) (told q n (x ∷ xs))
  by_making s u t n x xs is rest true does zero there =
      let line : told 0 n (x ∷ xs) ≡ n = ap (λ l. slice_index_or l 0 1) (cond-true (makes k (words x)) (n ∷ making k (n + 1) xs) (making k (n + 1) xs) does) in
      record {
        before = [];
        at = x;
        behind = xs;
        read = s;
        read_next = u;
        lines_are = refl;
        line_is = omega (arith, line);
        accepted = after_lines-nil s n;
        next = is;
        not_before = omega arith;
        there = omega (arith, line_made k s u x is, ap one_if does);
      }
  by_making s u t n x xs is rest true does (suc q) there =
      let counted : count u.draft k + q ≡ count s.draft k + suc q = omega (arith, line_made k s u x is, ap one_if does) in
      let line : told (suc q) n (x ∷ xs) ≡ told q (n + 1) xs = ap (λ l. slice_index_or l (suc q) 1) (cond-true (makes k (words x)) (n ∷ making k (n + 1) xs) (making k (n + 1) xs) does) in
      subst (LineFrom s n (x ∷ xs) k (count s.draft k + suc q)) (sym line) (behind_first s u n x xs _ _ _ is counted (rest q (omega (arith, counted, there))))
  by_making s u t n x xs is rest false does q there =
      let counted : count u.draft k + q ≡ count s.draft k + q = omega (arith, line_made k s u x is, ap one_if does) in
      let line : told q n (x ∷ xs) ≡ told q (n + 1) xs = ap (λ l. slice_index_or l q 1) (cond-false (makes k (words x)) (n ∷ making k (n + 1) xs) (making k (n + 1) xs) does) in
      subst (LineFrom s n (x ∷ xs) k (count s.draft k + q)) (sym line) (behind_first s u n x xs _ _ _ is counted (rest q (omega (arith, counted, there))))

  by_first : (s t : State) (n : ℕ) (x : List ℕ) (xs : List (List ℕ))
      → ((u : State) → after_lines u (n + 1) xs ≡ Ok t → (q : ℕ) → count u.draft k + q < count t.draft k → LineFrom u (n + 1) xs k (count u.draft k + q) (told q (n + 1) xs))
      → (r : Result State ℕ) → after_line s x ≡ r → after_lines s n (x ∷ xs) ≡ Ok t → (q : ℕ) → count s.draft k + q < count t.draft k
      → LineFrom s n (x ∷ xs) k (count s.draft k + q) (told q n (x ∷ xs))
  by_first s t n x xs rest (Ok u) is e = by_making s u t n x xs is (rest u (sym (after_lines-Ok s n x xs u is) ∙ e)) (makes k (words x)) refl
  by_first s t n x xs rest (Err number) is e = λ q there. absurd (err_no_ok t (record { number = number; line = n }) (sym (after_lines-Err s n x xs number is) ∙ e))

  line_from : (s t : State) (n : ℕ) (all : List (List ℕ)) → after_lines s n all ≡ Ok t → (q : ℕ) → count s.draft k + q < count t.draft k → LineFrom s n all k (count s.draft k + q) (told q n all)
  line_from s t n [] e = λ q there.
      let same : s ≡ t = ok_same (after_lines s n []) s t (after_lines-nil s n) e in
      absurd (omega (arith, there, ap (λ r. count r.draft k) same))
  line_from s t n (x ∷ xs) e = by_first s t n x xs (λ u. line_from u t (n + 1) xs) (after_line s x) refl e

pub lines_are_told : LinesAreTold
lines_are_told text made k number all there =
    let none : count no_records k ≡ 0 = sym (none_counted k) in
    let from = line_from k start made 1 (lines text) all.accepted number (omega (arith, none, there)) in
    let is_number : count no_records k + number ≡ number = omega (arith, none) in
    record {
      at = from.at;
      read = from.read;
      read_next = from.read_next;
      is_line = record { before = from.before; behind = from.behind; lines_are = from.lines_are; line_is = from.line_is; accepted = from.accepted };
      next = from.next;
      not_before = omega (arith, is_number, from.not_before);
      there = omega (arith, is_number, from.there);
    }
