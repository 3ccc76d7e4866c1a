-- A model's canonical text is read as the model.
use Rattle.std.proofs.Common.{◌≡◌, ℕ, ◌+◌, ◌<◌, ◌≤◌, ◌==◌, List, [], ◌∷◌, ◌++◌, flat_map, map, take, length, length-append, get_or, slice_get, Option, Some, None, Result, Ok, Err, IfOk, codes, refl, sym, ap, subst, ◌∙◌, append_assoc, append-nil, arith}
use Rattle.std.proofs.Math.Seq.{take-length}
use Rattle.std.proofs.lemmas.Bool.{cond-false, ne_eqb}
use Rattle.std.proofs.lemmas.List.{get_or_at, get_or-take, length-take, take-map, take_more}
use Rattle.std.proofs.lemmas.Option.{slice_get-get_or, slice_get_within, get_or_from_slice_get}
use Rattle.std.specs.List.{join_with_byte}
use Rattle.text_words.specs.Fields.{line, lines}
use Rattle.std.specs.Fmt.{signed_decimal}
use Rattle.model_types.specs.declared.ids.CheckId.{CheckId}
use Rattle.model_types.specs.declared.ids.Space.TheVariants as space_of
use Rattle.model_types.specs.declared.records.Check.{Check}
use Rattle.model_types.specs.declared.records.CheckKind.{CheckKind}
use Rattle.model_types.specs.declared.records.CheckKind.TheVariants as check
use Rattle.model_types.specs.declared.records.RestraintKind.{RestraintKind}
use Rattle.model_types.specs.declared.records.RestraintKind.TheVariants.{Anchor, Linear, Twist, Oneway, Gap, Hanger}
use Rattle.model_types.specs.Kinds.{Kind, material_kind, section_kind, node_kind, element_kind, tee_kind, restraint_kind, case_kind, temp_kind, pressure_kind, force_kind, move_kind, check_kind, named_refs, check_refs, refs, AreThere, kinds, place, Of, list, as_record, before_place, before}
use Rattle.model_types.specs.Lists.{Lists, no_records, added}
use Rattle.model_types.specs.Refusals.{RecordsFollow}
use Rattle.model_types.specs.Rules.{IsModel}
use Rattle.model_types.specs.Tees.{TeesAreJudged}
use Rattle.model_text.specs.Canonical.{canonical, record_lines, kind_lines}
use Rattle.model_text.specs.Grammar.{after_lines, parsed, whole, without_broken}
use Rattle.model_text.specs.Lines.{State, start}
use Rattle.model_text.specs.RoundTrip.{CanonicalReadsBack}
use Rattle.model_text.specs.Rows.{name_of, check_word, restraint_words, check_words, words_of}
use Rattle.model_text.proofs.LineLemmas.{after_lines-Ok, after_lines-nil, parsed-lines}
use Rattle.model_text.proofs.PlainWords.{no_words, one_more, lines-line}
use Rattle.model_text.proofs.WrittenLines.{Leads, Leads-on, Leads-record, below}
use Rattle.model_text.proofs.WrittenRecords.{IsWritten, written}

-- an element at a place of a list
slice_get-at : {X : Type 0} (done : List X) (x : X) (left : List X) → slice_get (done ++ x ∷ left) (length done) ≡ Some x
slice_get-at done x left =
    let inside : length done < length (done ++ x ∷ left) = omega (arith, length-append done (x ∷ left)) in
    slice_get-get_or (done ++ x ∷ left) (length done) x inside ∙ ap Some (get_or_at done x left x (length done) refl)

one_more_taken : {X : Type 0} (xs : List X) (i : ℕ) (x : X) → slice_get xs i ≡ Some x → take (i + 1) xs ≡ take i xs ++ x ∷ []
one_more_taken xs i x at = take_more xs i x (slice_get_within xs i x at) ∙ ap (λ y. take i xs ++ y ∷ []) (get_or_from_slice_get xs i x x at)

-- a restraint's words name a node, and the nodes stand before it
restraint_same : (m : Lists) (i : ℕ) (name : List ℕ) (node : ℕ) (kind : RestraintKind) → restraint_words (before m restraint_kind i) name node kind ≡ restraint_words m name node kind
restraint_same m i name node (Anchor kt kr) = refl
restraint_same m i name node (Linear x y z k) = refl
restraint_same m i name node (Twist x y z k) = refl
restraint_same m i name node (Oneway x y z gap k) = refl
restraint_same m i name node (Gap x y z gap k) = refl
restraint_same m i name node (Hanger rate load) = refl

-- a check's words name cases, and an earlier check
check_word_same : (m : Lists) (i : ℕ) (named : Option CheckId) → AreThere (before m check_kind i) (named_refs named) → check_word (before m check_kind i) named ≡ check_word m named
check_word_same m i None known = refl
check_word_same m i (Some id) known =
    let names = map (λ (x : Check). x.name) m.checks in
    let inside : id.0 < i = omega (arith, known.0, length-take i m.checks) in
    ap (λ l. get_or l id.0 []) (sym (take-map (λ (x : Check). x.name) i m.checks)) ∙ get_or-take i names id.0 [] inside

check_same : (m : Lists) (i : ℕ) (name : List ℕ) (kind : CheckKind) → AreThere (before m check_kind i) (check_refs kind) → check_words (before m check_kind i) name kind ≡ check_words m name kind
check_same m i name (check.Sustained case sh) known = refl
check_same m i name (check.Occasional case sh percent) known = refl
check_same m i name (check.Expansion case1 case2 sc sh cycles fm sus) known =
    let start = λ (w : List ℕ).
    codes "check" ∷ name ∷ codes "expansion" ∷ name_of m space_of.Case case1.0 ∷ name_of m space_of.Case case2.0 ∷ signed_decimal sc ∷ signed_decimal sh ∷ signed_decimal cycles ∷ signed_decimal fm ∷ w ∷ [] in
    ap start (check_word_same m i sus known.1.1)

-- what a kind's definitions say of its records behind those before them: one more is the next, all of them stand before the next kind,
-- and their words are those in the whole model
record OfKind (k : Kind) : Type 0 where
  next : (m : Lists) (i : ℕ) (x : Of k) → take (i + 1) (list m k) ≡ take i (list m k) ++ x ∷ [] → added (before m k i) (as_record k x) ≡ before m k (i + 1)
  whole : (m : Lists) → before m k (length (list m k)) ≡ before_place m (place k + 1) 0
  words : (m : Lists) (i : ℕ) (x : Of k) → AreThere (before m k i) (refs (as_record k x)) → words_of (before m k i) (as_record k x) ≡ words_of m (as_record k x)

of_kind : (k : Kind) → OfKind k
of_kind material_kind = record {
  next = λ m i x more. ap (λ xs. record (before_place m 0 0) { materials = xs }) (sym more);
  whole = λ m. ap (λ xs. record (before_place m 0 0) { materials = xs }) (take-length m.materials);
  words = λ m i x known. refl;
}
of_kind section_kind = record {
  next = λ m i x more. ap (λ xs. record (before_place m 1 0) { sections = xs }) (sym more);
  whole = λ m. ap (λ xs. record (before_place m 1 0) { sections = xs }) (take-length m.sections);
  words = λ m i x known. refl;
}
of_kind node_kind = record {
  next = λ m i x more. ap (λ xs. record (before_place m 2 0) { nodes = xs }) (sym more);
  whole = λ m. ap (λ xs. record (before_place m 2 0) { nodes = xs }) (take-length m.nodes);
  words = λ m i x known. refl;
}
of_kind element_kind = record {
  next = λ m i x more. ap (λ xs. record (before_place m 3 0) { elements = xs }) (sym more);
  whole = λ m. ap (λ xs. record (before_place m 3 0) { elements = xs }) (take-length m.elements);
  words = λ m i x known. refl;
}
of_kind tee_kind = record {
  next = λ m i x more. ap (λ xs. record (before_place m 4 0) { tees = xs }) (sym more);
  whole = λ m. ap (λ xs. record (before_place m 4 0) { tees = xs }) (take-length m.tees);
  words = λ m i x known. refl;
}
of_kind restraint_kind = record {
  next = λ m i x more. ap (λ xs. record (before_place m 5 0) { restraints = xs }) (sym more);
  whole = λ m. ap (λ xs. record (before_place m 5 0) { restraints = xs }) (take-length m.restraints);
  words = λ m i x known. restraint_same m i x.name x.node.0 x.kind;
}
of_kind case_kind = record {
  next = λ m i x more. ap (λ xs. record (before_place m 6 0) { cases = xs }) (sym more);
  whole = λ m. ap (λ xs. record (before_place m 6 0) { cases = xs }) (take-length m.cases);
  words = λ m i x known. refl;
}
of_kind temp_kind = record {
  next = λ m i x more. ap (λ xs. record (before_place m 7 0) { temps = xs }) (sym more);
  whole = λ m. ap (λ xs. record (before_place m 7 0) { temps = xs }) (take-length m.temps);
  words = λ m i x known. refl;
}
of_kind pressure_kind = record {
  next = λ m i x more. ap (λ xs. record (before_place m 8 0) { pressures = xs }) (sym more);
  whole = λ m. ap (λ xs. record (before_place m 8 0) { pressures = xs }) (take-length m.pressures);
  words = λ m i x known. refl;
}
of_kind force_kind = record {
  next = λ m i x more. ap (λ xs. record (before_place m 9 0) { forces = xs }) (sym more);
  whole = λ m. ap (λ xs. record (before_place m 9 0) { forces = xs }) (take-length m.forces);
  words = λ m i x known. refl;
}
of_kind move_kind = record {
  next = λ m i x more. ap (λ xs. record (before_place m 10 0) { moves = xs }) (sym more);
  whole = λ m. ap (λ xs. record (before_place m 10 0) { moves = xs }) (take-length m.moves);
  words = λ m i x known. refl;
}
of_kind check_kind = record {
  next = λ m i x more. ap (λ xs. record (before_place m 11 0) { checks = xs }) (sym more);
  whole = λ m. ap (λ xs. record (before_place m 11 0) { checks = xs }) (take-length m.checks);
  words = λ m i x known. check_same m i x.name x.kind known;
}

-- kinds from a place on, in their order
abbrev AreFrom : ℕ → List Kind → Type 0
AreFrom n [] = Unit {0}
AreFrom n (k ∷ ks) = (place k ≡ n) × AreFrom (n + 1) ks

module _ (follow : RecordsFollow) (judged : TeesAreJudged) (m : Lists) (is : IsModel m) where
  module _ (k : Kind) (rest : List ℕ) where
    -- one record of a kind is read
    Leads-one : (i : ℕ) (x : Of k) (left : List ℕ) → slice_get (list m k) i ≡ Some x → Leads (below (before m k i)) (line (words_of m (as_record k x)) ++ left) (below (before m k (i + 1))) left
    Leads-one i x left at =
        let p = before m k i in
        let r = as_record k x in
        let words : IsWritten p r (words_of m r) = subst (IsWritten p r) ((of_kind k).words m i x (is.rules.records k i x at).known) (written m is k i x (is.rules.records k i x at)) in
        subst (λ l. Leads (below p) (line (words_of m r) ++ left) (below l) left) ((of_kind k).next m i x (one_more_taken (list m k) i x at))
        (Leads-record p r (follow m is.rules k i x at) (words_of m r) words left)

    -- the records that are left of a kind
    Leads-left : (done left : List (Of k)) → list m k ≡ done ++ left → Leads (below (before m k (length done))) (record_lines m (as_record k) left ++ rest) (below (before m k (length (list m k)))) rest
    Leads-left done [] all = record { from = λ n. (n, ap (λ xs. after_lines (below (before m k (length xs))) n (lines rest)) (sym (all ∙ append-nil done))) }
    Leads-left done (x ∷ left) all =
        let more : list m k ≡ (done ++ x ∷ []) ++ left = all ∙ sym (append_assoc done (x ∷ []) left) in
        let at : slice_get (list m k) (length done) ≡ Some x = ap (λ l. slice_get l (length done)) all ∙ slice_get-at done x left in
        let behind : List ℕ = record_lines m (as_record k) left ++ rest in
        let first = Leads-one (length done) x behind at in
        let place : length done + 1 ≡ length (done ++ x ∷ []) = omega (arith, length-append done (x ∷ [])) in
        let second : Leads (below (before m k (length done + 1))) behind (below (before m k (length (list m k)))) rest =
        subst (λ i. Leads (below (before m k i)) behind (below (before m k (length (list m k)))) rest) (sym place) (Leads-left (done ++ x ∷ []) left more) in
        subst (λ text. Leads (below (before m k (length done))) text (below (before m k (length (list m k)))) rest)
        (sym (append_assoc (line (words_of m (as_record k x))) (record_lines m (as_record k) left) rest)) (Leads-on _ _ _ _ behind rest first second)

    -- all records of a kind
    Leads-kind : Leads (below (before m k 0)) (kind_lines m k ++ rest) (below (before_place m (place k + 1) 0)) rest
    Leads-kind = subst (λ l. Leads (below (before m k 0)) (kind_lines m k ++ rest) (below l) rest) ((of_kind k).whole m) (Leads-left [] (list m k) refl)

  -- the kinds one after the other
  Leads-kinds : (ks : List Kind) (n : ℕ) → AreFrom n ks → Leads (below (before_place m n 0)) (flat_map (kind_lines m) ks) (below (before_place m (n + length ks) 0)) []
  Leads-kinds [] n are = let here : n ≡ n + 0 = omega arith in record { from = λ l. (l, ap (λ p. after_lines (below (before_place m p 0)) l (lines [])) here) }
  Leads-kinds (k ∷ ks) n are =
      let behind : List ℕ = flat_map (kind_lines m) ks in
      let first : Leads (below (before_place m n 0)) (kind_lines m k ++ behind) (below (before_place m (n + 1) 0)) behind =
      subst (λ p. Leads (below (before_place m p 0)) (kind_lines m k ++ behind) (below (before_place m (p + 1) 0)) behind) are.0 (Leads-kind k behind) in
      let count : n + 1 + length ks ≡ n + length (k ∷ ks) = omega arith in
      subst (λ p. Leads (below (before_place m n 0)) (kind_lines m k ++ behind) (below (before_place m p 0)) []) count (Leads-on _ _ _ _ behind [] first (Leads-kinds ks (n + 1) are.1))

  abbrev header : List (List ℕ)
  header = codes "pipeflex" ∷ codes "1" ∷ []

  Leads-header : (left : List ℕ) → Leads start (line header ++ left) (below no_records) left
  Leads-header left = record {
    from = λ n. (
      n + 1,
      ap (after_lines start n) (lines-line header (one_more _ _ (record { passes = refl }) (one_more _ _ (record { passes = refl }) no_words)) left)
          ∙ after_lines-Ok start n (join_with_byte 32 header) (lines left) (below no_records) refl,
    );
  }

  Leads-all : Leads start (canonical m) (below m) []
  unfolding canonical
  Leads-all =
      let kinds_read : Leads (below no_records) (flat_map (kind_lines m) kinds) (below m) [] = Leads-kinds kinds 0 (refl, (refl, (refl, (refl, (refl, (refl, (refl, (refl, (refl, (refl, (refl, (refl, tt)))))))))))) in
      Leads-on _ _ _ _ (flat_map (kind_lines m) kinds) [] (Leads-header (flat_map (kind_lines m) kinds)) kinds_read

  all_lines : after_lines start 1 (lines (canonical m)) ≡ Ok (below m)
  all_lines =
      let led = Leads-all.from 1 in
      let end : State = below m in
      led.1 ∙ after_lines-Ok end led.0 [] [] end refl ∙ after_lines-nil end (led.0 + 1)

  whole_model : (all : List (List ℕ)) → whole all (Ok (below m)) ≡ Ok m
  whole_model all =
      cond-false (length m.nodes == 0) (Err (record { number = 15; line = 1 })) _ (ne_eqb (length m.nodes) 0 (λ none. omega (arith, is.some_node)))
      ∙ ap (λ o. without_broken all o m) ((judged m).1 is.tees_made)

pub canonical_reads_back : RecordsFollow → TeesAreJudged → CanonicalReadsBack
canonical_reads_back follow judged m is short =
    parsed-lines (canonical m) short ∙ ap (whole (lines (canonical m))) (all_lines follow judged m is) ∙ whole_model follow judged m is (lines (canonical m))

-- the same for a text that is known to be canonical, where there is one
pub if_reads_back : {T E : Type 0} → RecordsFollow → TeesAreJudged → (m : Lists) (items : T → List ℕ) (r : Result T E) → IsModel m → IfOk r (λ text. items text ≡ canonical m)
    → IfOk r (λ text. length (items text) ≤ 4194304 → parsed (items text) ≡ Ok m)
if_reads_back follow judged m items (Ok text) is same = subst (λ bytes. length bytes ≤ 4194304 → parsed bytes ≡ Ok m) (sym same) (canonical_reads_back follow judged m is)
if_reads_back follow judged m items (Err e) is same = tt
