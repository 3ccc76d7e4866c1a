-- How the rules go over to a model with more records, and to the records before one.
use Rattle.std.proofs.Common.{◌≡◌, ◌≢◌, ℕ, ◌<◌, ◌≤◌, Bool, true, false, IsTrue, is_some, true≢false, List, [], ◌∷◌, ◌++◌, ⊎_elim, map, take, length, length-append, get_or, slice_get, position, Option, Some, None, All, AllPairs, Contains, IsNone, nat_eq, refl, sym, ap, subst, ◌∙◌, arith}
use Rattle.std.proofs.lemmas.Bool.{cond-true, cond-false}
use Rattle.std.proofs.lemmas.List.{length-map, length-take, map-append, get_or_push, get_or-take, take-map}
use Rattle.std.proofs.lemmas.Option.{slice_get-get_or, slice_get_within, get_or_from_slice_get, slice_get-map, none-some}
use Rattle.std.proofs.Math.ListN.{get_or-append}
use Rattle.std.specs.Cmp.Lexicographic.{pointwise}
use Rattle.std.specs.Option.{option_map}
use Rattle.model_types.specs.declared.ranges.TheConstants.{MOST_STOPS}
use Rattle.model_types.specs.declared.records.Section.{Section}
use Rattle.model_types.specs.declared.records.Node.{Node}
use Rattle.model_types.specs.declared.records.Restraint.{Restraint}
use Rattle.model_types.specs.declared.records.Check.{Check}
use Rattle.model_types.specs.declared.records.CheckKind.{CheckKind}
use Rattle.model_types.specs.declared.records.CheckKind.TheVariants as check
use Rattle.model_types.specs.declared.records.Record.{Record}
use Rattle.model_types.specs.declared.records.Record.TheVariants as record_of
use Rattle.model_types.specs.Kinds.{Kind, material_kind, section_kind, node_kind, element_kind, tee_kind, restraint_kind, case_kind, temp_kind, pressure_kind, force_kind, move_kind, check_kind, place, Of, list, as_record, kind_of, value_of, count, most, is_keyed, key, keys, Ref, refs, check_refs, AreThere, has_stop, stop_count, cut, before, Extends}
use Rattle.model_types.specs.Lists.{Lists, no_records, added}
use Rattle.model_types.specs.Rules.{NamesSustained, NamesEarlier, KeepsOwn, Keeps, KeepsRules, MayBeNext, IsModel}
use Rattle.model_types.specs.Ranges.{NodeInForm}
use Rattle.model_types.specs.Tees.{IsTee}
use Rattle.model_types.proofs.KindLemmas.{of_kind, of_record, added_elim, slice_get-append_below, slice_get-push, slice_get-last, slice_get-take, stop_count-before, length-slices, cut-within, cut-more, cut-own}
use Rattle.model_types.proofs.NameLists.{distinct_names_push, position-Contains}

module _ (m n : Lists) (more : Extends m n) where
  count-Extends : (k : Kind) → count m k ≤ count n k
  count-Extends k = omega (arith, (of_kind k).counted m, (of_kind k).counted n, length-slices (list m k) (list n k) (more k))

  known-Extends : (rs : List Ref) → AreThere m rs → AreThere n rs
  known-Extends [] known = tt
  known-Extends (ref ∷ rest) known = (omega (arith, count-Extends ref.kind, known.0), known-Extends rest known.1)

  node-Extends : (i : ℕ) (a : Node) → i < length m.nodes → slice_get n.nodes i ≡ Some a → slice_get m.nodes i ≡ Some a
  node-Extends i a inside there =
      let here = slice_get-get_or m.nodes i a inside in
      let same = more node_kind i (get_or m.nodes i a) here in
      cc

  section-Extends : (i : ℕ) (s : Section) → i < length m.sections → slice_get n.sections i ≡ Some s → slice_get m.sections i ≡ Some s
  section-Extends i s inside there =
      let here = slice_get-get_or m.sections i s inside in
      let same = more section_kind i (get_or m.sections i s) here in
      cc

  restraint-Extends : (i : ℕ) (x : Restraint) → i < length m.restraints → slice_get n.restraints i ≡ Some x → slice_get m.restraints i ≡ Some x
  restraint-Extends i x inside there =
      let here = slice_get-get_or m.restraints i x inside in
      let same = more restraint_kind i (get_or m.restraints i x) here in
      cc

  check-Extends : (i : ℕ) (x : Check) → i < length m.checks → slice_get n.checks i ≡ Some x → slice_get m.checks i ≡ Some x
  check-Extends i x inside there =
      let here = slice_get-get_or m.checks i x inside in
      let same = more check_kind i (get_or m.checks i x) here in
      cc

  sustained-Extends : (kind : CheckKind) → AreThere m (check_refs kind) → NamesSustained m kind → NamesSustained n kind
  sustained-Extends (check.Sustained case sh) known own = tt
  sustained-Extends (check.Occasional case sh percent) known own = tt
  sustained-Extends (check.Expansion case1 case2 sc sh cycles fm None) known own = tt
  sustained-Extends (check.Expansion case1 case2 sc sh cycles fm (Some sus)) known own = λ x there. own x (check-Extends sus.0 x known.1.1.0 there)

  own-Extends : (r : Record) → AreThere m (refs r) → KeepsOwn m r → KeepsOwn n r
  own-Extends (record_of.Material r) known own = own
  own-Extends (record_of.Section r) known own = own
  own-Extends (record_of.Node r) known own = own
  own-Extends (record_of.Element r) known own = record {
    span = λ a b at_from at_to. own.span a b (node-Extends r.from.0 a known.0 at_from) (node-Extends r.to.0 b known.1.0 at_to);
    shape = λ a b s at_from at_to at_section. own.shape a b s (node-Extends r.from.0 a known.0 at_from) (node-Extends r.to.0 b known.1.0 at_to) (section-Extends r.section.0 s known.1.1.0 at_section);
  }
  own-Extends (record_of.Tee r) known own = own
  own-Extends (record_of.Restraint r) known own = own
  own-Extends (record_of.Case r) known own = own
  own-Extends (record_of.Temp r) known own = own
  own-Extends (record_of.Pressure r) known own = own
  own-Extends (record_of.Force r) known own = own
  own-Extends (record_of.Move r) known own = λ x there. own x (restraint-Extends r.anchor.0 x known.1.0 there)
  own-Extends (record_of.Check r) known own = sustained-Extends r.kind known own

  -- a record keeps its rule among more records
  pub Keeps-Extends : (r : Record) → Keeps m r → Keeps n r
  Keeps-Extends r k = record { form = k.form; known = known-Extends (refs r) k.known; own = own-Extends r k.known k.own }

  -- and those before a record are more too
  before-Extends : (k : Kind) (i : ℕ) → Extends (before m k i) (before n k i)
  before-Extends k i j p y e =
      subst (λ l. slice_get l p ≡ Some y) (sym ((of_kind j).cut_is n k i))
      (cut-more (place j) (place k) i p y (list m j) (list n j) (more j) (subst (λ l. slice_get l p ≡ Some y) ((of_kind j).cut_is m k i) e))

-- all records are more than those before one
before-all : (m : Lists) (k : Kind) (i : ℕ) → Extends (before m k i) m
before-all m k i j p y e = cut-within (place j) (place k) i p y (list m j) (subst (λ l. slice_get l p ≡ Some y) ((of_kind j).cut_is m k i) e)

not_empty : {X : Type 0} (xs : List X) → xs ≢ [] → 0 < length xs
not_empty [] some = absurd (some refl)
not_empty (x ∷ xs) some = omega arith

-- so each record keeps its rule among all
pub all_keep : (m : Lists) → KeepsRules m → (k : Kind) → All (λ x. Keeps m (as_record k x)) (list m k)
all_keep m rules k i d inside =
    Keeps-Extends (before m k i) m (before-all m k i) (as_record k (get_or (list m k) i d)) (rules.records k i (get_or (list m k) i d) (slice_get-get_or (list m k) i d inside))

-- and a check names an earlier one
earlier_named : (m : Lists) (i : ℕ) (kind : CheckKind) → AreThere (before m check_kind i) (check_refs kind) → NamesEarlier i kind
earlier_named m i (check.Sustained case sh) known = tt
earlier_named m i (check.Occasional case sh percent) known = tt
earlier_named m i (check.Expansion case1 case2 sc sh cycles fm None) known = tt
earlier_named m i (check.Expansion case1 case2 sc sh cycles fm (Some sus)) known = omega (arith, known.1.1.0, length-take i m.checks)

-- no record keeps the rules
pub no_records_keep : KeepsRules no_records
no_records_keep = record {
  records = λ k i x e. absurd (none-some x (sym (ap (λ l. slice_get l i) (of_kind k).none) ∙ e));
  distinct = λ k keyed. subst (AllPairs (λ a b. a ≢ b)) (sym ((of_kind k).keyed no_records ∙ ap (map (λ x. key (as_record k x))) (of_kind k).none)) (λ i j d before inside. absurd (omega arith));
  limits = λ k. omega (arith, (of_kind k).counted no_records, ap length (of_kind k).none);
  stops = omega arith;
}

-- rules that are kept, a node, and tees that are made, make a model
pub IsModel-from : (m : Lists) → KeepsRules m → m.nodes ≢ [] → All (IsTee m) m.tees → IsModel m
IsModel-from m rules some tees = record { rules = rules; some_node = not_empty m.nodes some; tees_made = tees; kept = record { materials = all_keep m rules material_kind; sections = all_keep m rules section_kind; nodes = all_keep m rules node_kind; elements = all_keep m rules element_kind; tees = all_keep m rules tee_kind; restraints = all_keep m rules restraint_kind; cases = all_keep m rules case_kind; temps = all_keep m rules temp_kind; pressures = all_keep m rules pressure_kind; forces = all_keep m rules force_kind; moves = all_keep m rules move_kind; checks = all_keep m rules check_kind; in_order = λ i x at. earlier_named m i x.kind (rules.records check_kind i x at).known }; few = record { materials = rules.limits material_kind; sections = rules.limits section_kind; nodes = rules.limits node_kind; elements = rules.limits element_kind; tees = rules.limits tee_kind; restraints = rules.limits restraint_kind; cases = rules.limits case_kind; temps = rules.limits temp_kind; pressures = rules.limits pressure_kind; forces = rules.limits force_kind; moves = rules.limits move_kind; checks = rules.limits check_kind } }

pub nodes_in_form : (m : Lists) → KeepsRules m → All NodeInForm m.nodes
nodes_in_form m rules = λ i d inside. (all_keep m rules node_kind i d inside).form

-- a key that isn't there has no place
pub absent_key : (names : List (List ℕ)) (name : List ℕ) → ¬ (Contains names name) → is_some (position (pointwise nat_eq name) names) ≡ false
absent_key names name absent = by (position (pointwise nat_eq name) names) refl
  where
    by : (o : Option ℕ) → o ≡ position (pointwise nat_eq name) names → is_some (position (pointwise nat_eq name) names) ≡ false
    by None e = ap is_some (sym e)
    by (Some i) e = let none : IsNone (Some i) = (position-Contains names name (Some i) e).1 absent in absurd (true≢false none)

module _ (m : Lists) (r : Record) where
  abbrev of_its_kind : List (Of (kind_of r))
  of_its_kind = list m (kind_of r)

  abbrev end : ℕ
  end = length of_its_kind

  abbrev key_in : (j : Kind) → Of j → List ℕ
  key_in j x = key (as_record j x)

  added-Extends : Extends m (added m r)
  added-Extends =
      added_elim m r (λ j ys. (i : ℕ) (x : Of j) → slice_get (list m j) i ≡ Some x → slice_get ys i ≡ Some x)
      (λ i x e. slice_get-append_below of_its_kind (value_of r ∷ []) i (slice_get_within of_its_kind i x e) ∙ e) (λ j i x e. e)

  -- the rules of a model with a record that may be the next
  module _ (rules : KeepsRules m) (next : MayBeNext m r) where
    last_keeps : Keeps (before (added m r) (kind_of r) end) (as_record (kind_of r) (value_of r))
    last_keeps =
        subst (Keeps (before (added m r) (kind_of r) end)) (sym (of_record r).record_is)
        (record { form = next.keeps.form; known = (of_record r).known m next.keeps.known; own = (of_record r).own m next.keeps.own })

    earlier_keep : (j : Kind) (i : ℕ) (x : Of j) → slice_get (list m j) i ≡ Some x → Keeps (before (added m r) j i) (as_record j x)
    earlier_keep j i x e = Keeps-Extends (before m j i) (before (added m r) j i) (before-Extends m (added m r) added-Extends j i) (as_record j x) (rules.records j i x e)

    its_kind_keeps : (i : ℕ) (x : Of (kind_of r)) → slice_get (of_its_kind ++ value_of r ∷ []) i ≡ Some x → Keeps (before (added m r) (kind_of r) i) (as_record (kind_of r) x)
    its_kind_keeps i x e =
        ⊎_elim (λ had. earlier_keep (kind_of r) i x had)
        (λ last. subst (λ p. Keeps (before (added m r) (kind_of r) p) (as_record (kind_of r) x)) (sym last.0) (subst (λ y. Keeps (before (added m r) (kind_of r) end) (as_record (kind_of r) y)) last.1 last_keeps))
        (slice_get-push of_its_kind (value_of r) i x e)

    keys_differ : (j : Kind) → IsTrue (is_keyed j) → AllPairs (λ a b. a ≢ b) (map (key_in j) (list m j))
    keys_differ j keyed = subst (AllPairs (λ a b. a ≢ b)) ((of_kind j).keyed m) (rules.distinct j keyed)

    its_key_differs : IsTrue (is_keyed (kind_of r)) → AllPairs (λ a b. a ≢ b) (map (key_in (kind_of r)) (of_its_kind ++ value_of r ∷ []))
    its_key_differs keyed =
        let is : key r ≡ key_in (kind_of r) (value_of r) = ap key (sym (of_record r).record_is) in
        let absent : ¬ (Contains (map (key_in (kind_of r)) of_its_kind) (key_in (kind_of r) (value_of r))) =
        λ there. next.new keyed (subst (λ names. Contains names (key r)) (sym ((of_kind (kind_of r)).keyed m)) (subst (Contains (map (key_in (kind_of r)) of_its_kind)) (sym is) there)) in
        distinct_names_push (key_in (kind_of r)) of_its_kind (value_of r) (keys_differ (kind_of r) keyed) (absent_key _ _ absent)

    stops_fit : (stop : Bool) → has_stop r ≡ stop → stop_count (added m r).restraints ≤ MOST_STOPS
    stops_fit true is = omega (arith, (of_record r).stops_are m, cond-true {A = ℕ} (has_stop r) 1 0 is, next.stop_room is)
    stops_fit false is = omega (arith, (of_record r).stops_are m, cond-false {A = ℕ} (has_stop r) 1 0 is, rules.stops)

    pub KeepsRules-added : KeepsRules (added m r)
    KeepsRules-added = record {
      records = added_elim m r (λ j ys. (i : ℕ) (x : Of j) → slice_get ys i ≡ Some x → Keeps (before (added m r) j i) (as_record j x)) its_kind_keeps earlier_keep;
      distinct = λ j keyed. subst (AllPairs (λ a b. a ≢ b)) (sym ((of_kind j).keyed (added m r)))
          (added_elim m r (λ j ys. IsTrue (is_keyed j) → AllPairs (λ a b. a ≢ b) (map (key_in j) ys)) its_key_differs keys_differ j keyed);
      limits = λ j. subst (λ n. n ≤ most j) (sym ((of_kind j).counted (added m r)))
          (added_elim m r (λ j ys. length ys ≤ most j) (omega (arith, length-append of_its_kind (value_of r ∷ []), (of_kind (kind_of r)).counted m, next.room)) (λ j. omega (arith, (of_kind j).counted m, rules.limits j)) j);
      stops = stops_fit (has_stop r) refl;
    }

  -- and the other way: the last record might be the next of those before it
  before-last : Extends (before (added m r) (kind_of r) end) m
  before-last j p y e =
      added_elim m r (λ j ys. (p : ℕ) (y : Of j) → slice_get (cut (place j) (place (kind_of r)) end ys) p ≡ Some y → slice_get (list m j) p ≡ Some y)
      (λ p y e.
      let part = slice_get-take end (of_its_kind ++ value_of r ∷ []) p y (subst (λ l. slice_get l p ≡ Some y) (cut-own (place (kind_of r)) end (of_its_kind ++ value_of r ∷ [])) e) in
      sym (slice_get-append_below of_its_kind (value_of r ∷ []) p part.0) ∙ part.1)
      (λ j p y e. cut-within (place j) (place (kind_of r)) end p y (list m j) e)
      j p y (subst (λ l. slice_get l p ≡ Some y) ((of_kind j).cut_is (added m r) (kind_of r) end) e)

  pub MayBeNext-added : KeepsRules (added m r) → MayBeNext m r
  MayBeNext-added rules =
      let at : slice_get (list (added m r) (kind_of r)) end ≡ Some (value_of r) = ap (λ l. slice_get l end) ((of_record r).added_is m) ∙ slice_get-last of_its_kind (value_of r) in
      let kept : Keeps (before (added m r) (kind_of r) end) r = subst (Keeps (before (added m r) (kind_of r) end)) (of_record r).record_is (rules.records (kind_of r) end (value_of r) at) in
      record {
        keeps = Keeps-Extends (before (added m r) (kind_of r) end) m before-last r kept;
        new = λ keyed there.
            let names = keys m (kind_of r) in
            let is : keys (added m r) (kind_of r) ≡ names ++ key r ∷ [] =
            (of_kind (kind_of r)).keyed (added m r) ∙ ap (map (key_in (kind_of r))) ((of_record r).added_is m) ∙ map-append (key_in (kind_of r)) of_its_kind (value_of r ∷ [])
            ∙ ap (λ l. l ++ key_in (kind_of r) (value_of r) ∷ []) (sym ((of_kind (kind_of r)).keyed m)) ∙ ap (λ x. names ++ key x ∷ []) (of_record r).record_is in
            let differ : AllPairs (λ a b. a ≢ b) (names ++ key r ∷ []) = subst (AllPairs (λ a b. a ≢ b)) is (rules.distinct (kind_of r) keyed) in
            let last_in : length names < length (names ++ key r ∷ []) = omega (arith, length-append names (key r ∷ [])) in
            let earlier : get_or (names ++ key r ∷ []) there.0 (key r) ≡ key r = get_or-append names (key r ∷ []) (key r) there.0 there.1 ∙ there.2 in
            let last : get_or (names ++ key r ∷ []) (length names) (key r) ≡ key r = get_or_push names (key r) (key r) (length names) refl in
            differ there.0 (length names) (key r) there.1 last_in (earlier ∙ sym last);
        room = omega (arith, (of_kind (kind_of r)).counted m, (of_kind (kind_of r)).counted (added m r), ap length ((of_record r).added_is m), length-append of_its_kind (value_of r ∷ []), rules.limits (kind_of r));
        stop_room = λ stop. omega (arith, (of_record r).stops_are m, cond-true {A = ℕ} (has_stop r) 1 0 stop, rules.stops);
      }

-- before a stop of a model there is room for one
stops_before : (m : Lists) (rules : KeepsRules m) (i : ℕ) (k : Kind) (x : Of k) → slice_get (list m k) i ≡ Some x → IsTrue (has_stop (as_record k x)) → stop_count (before m k i).restraints < MOST_STOPS
stops_before m rules i restraint_kind x at stop = omega (arith, stop_count-before m.restraints i x at stop, rules.stops)
stops_before m rules i k x at stop = absurd (true≢false (sym stop))

-- each record might be the next of those before it
module _ (m : Lists) (rules : KeepsRules m) (k : Kind) (i : ℕ) (x : Of k) (at : slice_get (list m k) i ≡ Some x) where
  its_list : list (before m k i) k ≡ take i (list m k)
  its_list = (of_kind k).cut_is m k i ∙ cut-own (place k) i (list m k)

  new_key : IsTrue (is_keyed k) → ¬ (Contains (keys (before m k i) k) (key (as_record k x)))
  new_key keyed there =
      let key_in = λ (y : Of k). key (as_record k y) in
      let names = map key_in (list m k) in
      let are : keys (before m k i) k ≡ map key_in (take i (list m k)) = (of_kind k).keyed (before m k i) ∙ ap (map key_in) its_list in
      let found : Contains (map key_in (take i (list m k))) (key_in x) = subst (λ l. Contains l (key_in x)) are there in
      let inside : i < length (list m k) = slice_get_within (list m k) i x at in
      let short : found.0 < i = omega (arith, found.1, length-map (take i (list m k)) key_in, length-take i (list m k)) in
      let differ : AllPairs (λ a b. a ≢ b) names = subst (AllPairs (λ a b. a ≢ b)) ((of_kind k).keyed m) (rules.distinct k keyed) in
      let last : get_or names i (key_in x) ≡ key_in x = get_or_from_slice_get names i (key_in x) (key_in x) (slice_get-map key_in (list m k) i ∙ ap (option_map key_in) at) in
      let earlier : get_or names found.0 (key_in x) ≡ key_in x =
      sym (get_or-take i names found.0 (key_in x) short) ∙ ap (λ l. get_or l found.0 (key_in x)) (take-map key_in i (list m k)) ∙ found.2 in
      differ found.0 i (key_in x) short (omega (arith, length-map (list m k) key_in)) (earlier ∙ sym last)

  stop_room : IsTrue (has_stop (as_record k x)) → stop_count (before m k i).restraints < MOST_STOPS
  stop_room = stops_before m rules i k x at

  pub MayBeNext-record : MayBeNext (before m k i) (as_record k x)
  MayBeNext-record =
      let is = sym ((of_kind k).kind_is x) in
      let inside : i < length (list m k) = slice_get_within (list m k) i x at in
      let few : count (before m k i) k < most k =
      omega (arith, (of_kind k).counted (before m k i), ap length its_list, length-take i (list m k), (of_kind k).counted m, rules.limits k) in
      record {
        keeps = rules.records k i x at;
        new = subst (λ j. IsTrue (is_keyed j) → ¬ (Contains (keys (before m k i) j) (key (as_record k x)))) is new_key;
        room = subst (λ j. count (before m k i) j < most j) is few;
        stop_room = stop_room;
      }
