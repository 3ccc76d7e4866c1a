-- Lemmas on reading line by line.
use Rattle.std.proofs.Common.{◌≡◌, ◌≢◌, ℕ, ◌+◌, ◌<◌, ◌≤◌, ◌==◌, Bool, true, false, nat_lt, List, [], ◌∷◌, ◌++◌, IsOkAnd, IfOk, true≢false, subst, length, Option, Some, None, Result, Ok, Err, if◌then◌else◌, refl, sym, ap, ◌∙◌, arith}
use Rattle.std.proofs.lemmas.Bool.{cond-true, cond-false, ne_eqb}
use Rattle.std.proofs.lemmas.Bool.Decides.{nat_tests}
use Rattle.std.proofs.lemmas.List.Splits.{length-slice_split}
use Rattle.std.proofs.lemmas.List.Sums.{count_by-le-length}
use Rattle.model_types.specs.declared.faults.AddFault.{AddFault}
use Rattle.model_types.specs.declared.faults.AddFault.TheVariants as line_fault
use Rattle.model_types.specs.Lists.{Lists}
use Rattle.model_types.specs.Kinds.{tee_kind}
use Rattle.model_types.specs.Tees.{broken_tee}
use Rattle.text_words.specs.Fields.{lines}
use Rattle.model_text.specs.Lines.{State, start, after_line, at_line, making_line}
use Rattle.model_text.specs.declared.reader.TheConstants.{LONGEST_TEXT}
use Rattle.model_text.specs.Grammar.{Refusal, go_on, after_lines, whole, parsed, without_broken, IsFault, IsRefusedAt, too_long, by_line, no_header, no_node, bad_tee, StandsFor, RefusalsAreReasons, ModelsAreAccepted}
use Rattle.model_text.specs.declared.reader.TextFault.TheVariants as text_fault

module _ (s : State) (n : ℕ) where
  -- no line changes nothing
  pub after_lines-nil : after_lines s n [] ≡ Ok s
  unfolding after_lines
  after_lines-nil = refl

  module _ (line : List ℕ) (rest : List (List ℕ)) where
    -- an accepted line hands on what it made
    pub after_lines-Ok : (t : State) → after_line s line ≡ Ok t → after_lines s n (line ∷ rest) ≡ after_lines t (n + 1) rest
    unfolding after_lines
    after_lines-Ok t e = ap (λ r. go_on n r (λ t. after_lines t (n + 1) rest)) e

    -- a refused line ends the reading
    pub after_lines-Err : (number : ℕ) → after_line s line ≡ Err number → after_lines s n (line ∷ rest) ≡ Err (record { number = number; line = n })
    unfolding after_lines
    after_lines-Err number e = ap (λ r. go_on n r (λ t. after_lines t (n + 1) rest)) e

-- the fault of a line tells its number and line
pub at_line-Refused : (fault : AddFault) (n number line : ℕ) → at_line fault n ≡ text_fault.Refused number line → (fault ≡ line_fault.Refused number) × (n ≡ line)
at_line-Refused (line_fault.Refused k) n number line e = let same : k ≡ number = cc in (ap line_fault.Refused same, cc)
at_line-Refused line_fault.NoMemory n number line e = cc

-- a text has at most one line more than bytes
pub length-lines : (text : List ℕ) → length (lines text) ≤ length text + 1
length-lines text = omega (arith, length-slice_split (λ b. b == 10) text, count_by-le-length (λ b. b == 10) text)

-- a text that isn't too long is what its lines give
pub parsed-lines : (text : List ℕ) → length text ≤ 4194304 → parsed text ≡ whole (lines text) (after_lines start 1 (lines text))
unfolding parsed
parsed-lines text short = let test : nat_lt LONGEST_TEXT (length text) ≡ false = grind (arith, nat_tests) in ap (λ b. if b then Err (record { number = 1; line = 1 }) else whole (lines text) (after_lines start 1 (lines text))) test

-- a text that is too long is refused by 1
pub parsed-long : (text : List ℕ) → 4194304 < length text → parsed text ≡ Err (record { number = 1; line = 1 })
unfolding parsed
parsed-long text long = let test : nat_lt LONGEST_TEXT (length text) ≡ true = grind (arith, nat_tests) in ap (λ b. if b then Err (record { number = 1; line = 1 }) else whole (lines text) (after_lines start 1 (lines text))) test

-- a result has one value
pub ok_same : {A E : Type 0} (r : Result A E) (x y : A) → r ≡ Ok x → r ≡ Ok y → x ≡ y
ok_same r x y p q = cc

err_same : {A E : Type 0} (r : Result A E) (x y : E) → r ≡ Err x → r ≡ Err y → x ≡ y
err_same r x y p q = cc

-- a result isn't both
ok_no_err : {A E : Type 0} (x : A) (e : E) → Ok x ≡ Err e → ⊥
ok_no_err x e h = cc

pub err_no_ok : {A E : Type 0} (x : A) (e : E) → Err e ≡ Ok x → ⊥
err_no_ok x e h = cc

-- the lines before and after are read one after the other
module _ (s t : State) (n : ℕ) (x : List ℕ) (xs ys : List (List ℕ)) where
  append_step : ((u : State) → after_lines u (n + 1) xs ≡ Ok t → after_lines u (n + 1) (xs ++ ys) ≡ after_lines t (n + 1 + length xs) ys)
      → (r : Result State ℕ) → after_line s x ≡ r → after_lines s n (x ∷ xs) ≡ Ok t → after_lines s n (x ∷ (xs ++ ys)) ≡ after_lines t (n + length (x ∷ xs)) ys
  append_step rest (Ok u) f e =
      let place : n + 1 + length xs ≡ n + length (x ∷ xs) = omega arith in
      after_lines-Ok s n x (xs ++ ys) u f ∙ rest u (sym (after_lines-Ok s n x xs u f) ∙ e) ∙ ap (λ k. after_lines t k ys) place
  append_step rest (Err k) f e = absurd (err_no_ok t (record { number = k; line = n }) (sym (after_lines-Err s n x xs k f) ∙ e))

pub after_lines-append : (s t : State) (n : ℕ) (xs ys : List (List ℕ)) → after_lines s n xs ≡ Ok t → after_lines s n (xs ++ ys) ≡ after_lines t (n + length xs) ys
after_lines-append s t n [] ys e =
    let same : s ≡ t = ok_same (after_lines s n []) s t (after_lines-nil s n) e in
    let place : n ≡ n + 0 = omega arith in
    ap (λ r. after_lines r n ys) same ∙ ap (λ k. after_lines t k ys) place
after_lines-append s t n (x ∷ xs) ys e = append_step s t n x xs ys (λ u. after_lines-append u t (n + 1) xs ys) (after_line s x) refl e

-- a refusal by some line, where the reading begins with s at line n
record FaultFrom (s : State) (n : ℕ) (all : List (List ℕ)) (number line : ℕ) : Type 0 where
  before : List (List ℕ)
  at : List ℕ
  behind : List (List ℕ)
  read : State
  lines_are : all ≡ before ++ at ∷ behind
  line_is : line ≡ length before + n
  accepted : after_lines s n before ≡ Ok read
  fault : after_line read at ≡ Err number

fault_step : (s : State) (n : ℕ) (x : List ℕ) (xs : List (List ℕ)) (refusal : Refusal) → ((u : State) → after_lines u (n + 1) xs ≡ Err refusal → FaultFrom u (n + 1) xs refusal.number refusal.line)
    → (r : Result State ℕ) → after_line s x ≡ r → after_lines s n (x ∷ xs) ≡ Err refusal → FaultFrom s n (x ∷ xs) refusal.number refusal.line
fault_step s n x xs refusal rest (Ok u) f e =
    let later = rest u (sym (after_lines-Ok s n x xs u f) ∙ e) in
    record {
      before = x ∷ later.before;
      at = later.at;
      behind = later.behind;
      read = later.read;
      lines_are = ap (λ l. x ∷ l) later.lines_are;
      line_is = omega (arith, later.line_is);
      accepted = after_lines-Ok s n x later.before u f ∙ later.accepted;
      fault = later.fault;
    }
fault_step s n x xs refusal rest (Err k) f e =
    let same = err_same (after_lines s n (x ∷ xs)) (record { number = k; line = n }) refusal (after_lines-Err s n x xs k f) e in
    let place : n ≡ 0 + n = omega arith in
    record { before = []; at = x; behind = xs; read = s; lines_are = refl; line_is = sym (ap (λ r. r.line) same) ∙ place; accepted = after_lines-nil s n; fault = f ∙ ap Err (ap (λ r. r.number) same) }

fault_from : (s : State) (n : ℕ) (all : List (List ℕ)) (refusal : Refusal) → after_lines s n all ≡ Err refusal → FaultFrom s n all refusal.number refusal.line
fault_from s n [] refusal e = absurd (ok_no_err s refusal (sym (after_lines-nil s n) ∙ e))
fault_from s n (x ∷ xs) refusal e = fault_step s n x xs refusal (λ u. fault_from u (n + 1) xs refusal) (after_line s x) refl e

-- what is missing where all lines are accepted
missing : ℕ → Refusal
missing number = record { number = number; line = 1 }

-- what the whole text lacks
pub empty_list : {X : Type 0} (xs : List X) → (length xs == 0) ≡ true → xs ≡ []
empty_list [] e = refl
empty_list (x ∷ xs) e = absurd (grind (arith, nat_tests))

not_empty : {X : Type 0} (xs : List X) → (length xs == 0) ≡ false → xs ≢ []
not_empty xs some none = true≢false (ap (λ l. length l == 0) (sym none) ∙ some)

pub some_there : {X : Type 0} (xs : List X) → xs ≢ [] → (length xs == 0) ≡ false
some_there [] some = absurd (some refl)
some_there (x ∷ xs) some = ne_eqb (length (x ∷ xs)) 0 (λ none. omega arith)

module _ (text : List ℕ) where
  -- a text's reason has the refusal's number and line
  reason_as : (refusal told : Refusal) → refusal ≡ told → IsRefusedAt text refusal.number refusal.line → IsRefusedAt text told.number told.line
  reason_as refusal told same reason = subst (λ r. IsRefusedAt text r.number r.line) same reason

  module _ (short : length text ≤ LONGEST_TEXT) where
    -- what is made of all lines, by what they have
    abbrev all : List (List ℕ)
    all = lines text

    whole_none : (made : State) → made.header ≡ false → whole all (Ok made) ≡ Err (missing 3)
    unfolding missing
    whole_none made h = cond-false made.header _ _ h

    whole_empty : (made : State) → made.header ≡ true → (length made.draft.nodes == 0) ≡ true → whole all (Ok made) ≡ Err (missing 15)
    unfolding missing
    whole_empty made h n = cond-true made.header _ _ h ∙ cond-true (length made.draft.nodes == 0) _ _ n

    pub whole_with : (made : State) (o : Option ℕ) → made.header ≡ true → (length made.draft.nodes == 0) ≡ false → broken_tee made.draft ≡ o → whole all (Ok made) ≡ without_broken all o made.draft
    whole_with made o h n t = cond-true made.header _ _ h ∙ cond-false (length made.draft.nodes == 0) _ _ n ∙ ap (λ b. without_broken all b made.draft) t

    lacks : (made : State) (header none : Bool) (o : Option ℕ) (refusal : Refusal) → after_lines start 1 all ≡ Ok made → made.header ≡ header → (length made.draft.nodes == 0) ≡ none
        → broken_tee made.draft ≡ o → whole all (Ok made) ≡ Err refusal → IsRefusedAt text refusal.number refusal.line
    unfolding missing
    lacks made false none o refusal e h n t w =
        reason_as (missing 3) refusal (err_same (whole all (Ok made)) (missing 3) refusal (whole_none made h) w) (no_header made (record { short = short; accepted = e }) h)
    lacks made true true o refusal e h n t w =
        reason_as (missing 15) refusal (err_same (whole all (Ok made)) (missing 15) refusal (whole_empty made h n) w) (no_node made (record { short = short; accepted = e }) h (empty_list made.draft.nodes n))
    lacks made true false (Some tee) refusal e h n t w =
        let found : Refusal = record { number = 12; line = making_line tee_kind tee all } in
        reason_as found refusal (err_same (whole all (Ok made)) found refusal (whole_with made (Some tee) h n t) w) (bad_tee made tee (record { short = short; accepted = e }) h (not_empty made.draft.nodes n) t)
    lacks made true false None refusal e h n t w = absurd (ok_no_err made.draft refusal (sym (whole_with made None h n t) ∙ w))

    -- a text that is short enough is refused by a line, or for what it lacks
    refused_short : (r : Result State Refusal) (refusal : Refusal) → after_lines start 1 all ≡ r → whole all r ≡ Err refusal → IsRefusedAt text refusal.number refusal.line
    refused_short (Err other) refusal e w =
        let same = err_same (whole all (Err other)) other refusal refl w in
        let f = fault_from start 1 (lines text) refusal (e ∙ ap Err same) in
        by_line refusal.number refusal.line short
        (record { at = f.at; read = f.read; is_line = record { before = f.before; behind = f.behind; lines_are = f.lines_are; line_is = f.line_is; accepted = f.accepted }; fault = f.fault })
    refused_short (Ok made) refusal e w = lacks made made.header (length made.draft.nodes == 0) (broken_tee made.draft) refusal e refl refl refl w

    -- a text that is read stands for what its lines made
    stands_short : (r : Result State Refusal) (m : Lists) → after_lines start 1 all ≡ r → whole all r ≡ Ok m → StandsFor text m
    unfolding missing
    stands_short (Err other) m e w = absurd (err_no_ok m other w)
    stands_short (Ok made) m e w = by made.header (length made.draft.nodes == 0) (broken_tee made.draft) refl refl refl
      where
        by : (header none : Bool) (o : Option ℕ) → made.header ≡ header → (length made.draft.nodes == 0) ≡ none → broken_tee made.draft ≡ o → StandsFor text m
        by false none o h n t = absurd (err_no_ok m (missing 3) (sym (whole_none made h) ∙ w))
        by true true o h n t = absurd (err_no_ok m (missing 15) (sym (whole_empty made h n) ∙ w))
        by true false (Some tee) h n t = absurd (err_no_ok m (record { number = 12; line = making_line tee_kind tee all }) (sym (whole_with made (Some tee) h n t) ∙ w))
        by true false None h n t =
            let is : made.draft ≡ m = ok_same (whole all (Ok made)) made.draft m (whole_with made None h n t) w in
            subst (StandsFor text) is
            (record {
              accepted = record { short = short; accepted = e ∙ ap (λ b. Ok (record made { header = b })) h };
              some_node = not_empty made.draft.nodes n;
              tees_made = t;
            })

    -- a line at fault is where the reading ends
    parsed-fault : (number line : ℕ) → IsFault text number line → parsed text ≡ Err (record { number = number; line = line })
    parsed-fault number line f =
        let l = f.is_line in
        let place : 1 + length l.before ≡ line = omega (arith, l.line_is) in
        parsed-lines text short
        ∙ ap (λ ls. whole all (after_lines start 1 ls)) l.lines_are
        ∙ ap (whole all) (after_lines-append start f.read 1 l.before (f.at ∷ l.behind) l.accepted)
        ∙ ap (whole all) (after_lines-Err f.read (1 + length l.before) f.at l.behind number f.fault)
        ∙ ap (λ k. Err (record { number = number; line = k })) place

  -- a refused text has a reason
  pub parsed-refused : (refusal : Refusal) → parsed text ≡ Err refusal → IsRefusedAt text refusal.number refusal.line
  unfolding missing
  parsed-refused refusal e = by (nat_lt LONGEST_TEXT (length text)) refl
    where
      by : (b : Bool) → nat_lt LONGEST_TEXT (length text) ≡ b → IsRefusedAt text refusal.number refusal.line
      by true t =
          let long : LONGEST_TEXT < length text = grind (arith, nat_tests) in
          reason_as (missing 1) refusal (err_same (parsed text) (missing 1) refusal (parsed-long text long) e) (too_long long)
      by false t =
          let short : length text ≤ 4194304 = grind (arith, nat_tests) in
          refused_short short (after_lines start 1 (lines text)) refusal refl (sym (parsed-lines text short) ∙ e)

  -- a text that is read is short enough, and stands for what is read
  pub parsed-stands : (m : Lists) → parsed text ≡ Ok m → StandsFor text m
  parsed-stands m e = by (nat_lt LONGEST_TEXT (length text)) refl
    where
      by : (b : Bool) → nat_lt LONGEST_TEXT (length text) ≡ b → StandsFor text m
      by true t =
          let long : LONGEST_TEXT < length text = grind (arith, nat_tests) in
          absurd (err_no_ok m (record { number = 1; line = 1 }) (sym (parsed-long text long) ∙ e))
      by false t =
          let short : length text ≤ 4194304 = grind (arith, nat_tests) in
          stands_short short (after_lines start 1 (lines text)) m refl (sym (parsed-lines text short) ∙ e)

-- and the other way
refused-parsed : (text : List ℕ) (number line : ℕ) → IsRefusedAt text number line → parsed text ≡ Err (record { number = number; line = line })
refused-parsed text _ _ (too_long long) = parsed-long text long
refused-parsed text _ _ (by_line number line short f) = parsed-fault text short number line f
refused-parsed text _ _ (no_header made all h) = parsed-lines text all.short ∙ ap (whole (lines text)) all.accepted ∙ cond-false made.header _ _ h
refused-parsed text _ _ (no_node made all h none) =
    parsed-lines text all.short ∙ ap (whole (lines text)) all.accepted ∙ cond-true made.header _ _ h ∙ cond-true (length made.draft.nodes == 0) _ _ (ap (λ l. length l == 0) none)
refused-parsed text _ _ (bad_tee made tee all h some broken) =
    parsed-lines text all.short ∙ ap (whole (lines text)) all.accepted ∙ cond-true made.header _ _ h ∙ cond-false (length made.draft.nodes == 0) _ _ (some_there made.draft.nodes some)
    ∙ ap (λ o. without_broken (lines text) o made.draft) broken

stands-parsed : (text : List ℕ) (m : Lists) → StandsFor text m → parsed text ≡ Ok m
stands-parsed text m s = parsed-lines text s.accepted.short ∙ ap (whole (lines text)) s.accepted.accepted ∙ cond-false (length m.nodes == 0) _ _ (some_there m.nodes s.some_node)
    ∙ ap (λ o. without_broken (lines text) o m) s.tees_made

pub refusals_are_reasons : RefusalsAreReasons
refusals_are_reasons text number line = (parsed-refused text (record { number = number; line = line }), refused-parsed text number line)

pub models_are_accepted : ModelsAreAccepted
models_are_accepted text m = (parsed-stands text m, stands-parsed text m)

pub if_stands : {T E : Type 0} (text : List ℕ) (lists : T → Lists) (r : Result T E) → IfOk r (λ x. parsed text ≡ Ok (lists x)) → IfOk r (λ x. StandsFor text (lists x))
if_stands text lists (Ok x) read = parsed-stands text (lists x) read
if_stands text lists (Err e) read = tt

-- a result that is accepted, and of which something holds
pub some_ok : {A E : Type 0} (P : A → Type 0) (r : Result A E) → IsOkAnd r P → (x : A) × (r ≡ Ok x) × P x
some_ok P (Ok x) h = (x, refl, h)
some_ok P (Err e) h = absurd h

pub ok_and : {A E : Type 0} (P : A → Type 0) (r : Result A E) (x : A) → r ≡ Ok x → P x → IsOkAnd r P
ok_and P r x e h = subst (λ q. IsOkAnd q P) (sym e) h

module _ (P : Lists → Type 0) where
  kept_lists : (ls : List (List ℕ)) (header none : Bool) (o : Option ℕ) (m : Lists) (e f : Refusal) → IsOkAnd (if header then (if none then Err e else without_broken ls o m) else Err f) P → P m
  kept_lists ls true true o m e f h = absurd h
  kept_lists ls true false None m e f h = h
  kept_lists ls true false (Some tee) m e f h = absurd h
  kept_lists ls false none o m e f h = absurd h

  accepted_by : (ls : List (List ℕ)) (r : Result State Refusal) → IsOkAnd (whole ls r) P → IsOkAnd r (λ s. P s.draft)
  accepted_by ls (Err e) h = absurd h
  accepted_by ls (Ok s) h = kept_lists ls s.header (length s.draft.nodes == 0) (broken_tee s.draft) s.draft _ _ h

  -- an accepted text isn't too long
  pub accepted-short : (text : List ℕ) → IsOkAnd (parsed text) P → length text ≤ 4194304
  accepted-short text h = by (nat_lt LONGEST_TEXT (length text)) refl
    where
      by : (b : Bool) → nat_lt LONGEST_TEXT (length text) ≡ b → length text ≤ 4194304
      by true t =
          let long : LONGEST_TEXT < length text = grind (arith, nat_tests) in
          absurd (subst (λ r. IsOkAnd r P) (parsed-long text long) h)
      by false t = grind (arith, nat_tests)

  -- all its lines are accepted, and what they made is what it stands for
  pub accepted-lines : (text : List ℕ) → IsOkAnd (parsed text) P → IsOkAnd (after_lines start 1 (lines text)) (λ s. P s.draft)
  accepted-lines text h = accepted_by (lines text) (after_lines start 1 (lines text)) (subst (λ r. IsOkAnd r P) (parsed-lines text (accepted-short text h)) h)
