-- No number refuses a record exactly where it may be the next.
use Rattle.std.proofs.Common.{◌≡◌, ℕ, ◌*◌, ◌<◌, ◌==◌, Bool, true, false, true≢false, not, ◌||◌, ◌&&◌, nat_lt, nat_le, int_le, int_lt, int_eq, ℤ, pos, ◌*ℤ◌, ◌<ℤ◌, ◌≤ℤ◌, Result, Ok, Err, IsTrue, List, [], ◌∷◌, ◌++◌, Option, Some, None, IfSome, is_some, position, slice_get, Contains, nat_eq, ◌↔◌, if◌then◌else◌, refl, sym, ap, ◌∙◌, arith}
use Rattle.std.proofs.lemmas.Bool.{and_parts, and_from, false_from_ne_true, le-ltb, lt-leb, leb-false, ltb-false}
use Rattle.std.proofs.lemmas.Bool.Decides.{nat_tests, Decides-int_eq}
use Rattle.std.proofs.lemmas.Int.{ints}
use Rattle.std.specs.Cmp.Lexicographic.{pointwise}
use Rattle.std.specs.Option.{option_map_or}
use Rattle.model_types.specs.declared.ranges.TheConstants.{LONGEST, MOST_STOPS}
use Rattle.flex_interval.specs.Ends.{Ends}
use Rattle.flex_interval.specs.declared.fault.IvFault.{IvFault}
use Rattle.angle_table.specs.HalfAngle.{sine_of}
use Rattle.model_types.specs.declared.records.Section.{Section}
use Rattle.model_types.specs.declared.records.Restraint.{Restraint}
use Rattle.model_types.specs.declared.records.Check.{Check}
use Rattle.model_types.specs.declared.ids.CheckId.{CheckId}
use Rattle.model_types.specs.declared.records.Shape.{Shape}
use Rattle.model_types.specs.declared.records.Shape.TheVariants.{Straight, Bend}
use Rattle.model_types.specs.declared.spans.Difference.{Difference}
use Rattle.model_types.specs.Bends.{AreParallel, are_parallel, IsNear, IsChordSquare}
use Rattle.model_types.specs.declared.records.Node.{Node}
use Rattle.model_types.specs.declared.records.Element.{Element}
use Rattle.model_types.specs.declared.records.Record.{Record}
use Rattle.model_types.specs.declared.records.Record.TheVariants as record_of
use Rattle.model_types.specs.Kinds.{kind_of, count, most, is_keyed, key, keys, Ref, refs, AreThere, is_anchor, is_sustained, named_check, has_stop, stop_count}
use Rattle.model_types.specs.Lists.{Lists}
use Rattle.model_types.specs.Ranges.{InForm}
use Rattle.model_types.specs.Refusals.{Test, test, first_refusal, AllFail, lacks, has_no_length, is_too_long, is_far, misfits_sine, is_other_restraint, is_other_check, names_other, is_bad_shape, is_bad_between, has_bad_shape, is_too_many, square_between, square_length, own_tests, tests, refusal}
use Rattle.model_types.specs.Rules.{KeepsOwn, MayBeNext, IsSpan, IsShapeSpan, square_distance}
use Rattle.model_types.proofs.NameLists.{position-Contains}
use Rattle.model_types.proofs.GrowthLemmas.{absent_key}

-- ---- lists of tests

passed : (b : Bool) (n : ℕ) (rest : Option ℕ) → (if b then Some n else rest) ≡ None → (b ≡ false) × (rest ≡ None)
passed true n rest h = cc
passed false n rest h = (refl, h)

skipped : (b : Bool) (n : ℕ) (rest : Option ℕ) → b ≡ false → rest ≡ None → (if b then Some n else rest) ≡ None
skipped true n rest fails none = absurd (true≢false fails)
skipped false n rest fails none = none

-- none refuses exactly where all fail
pub first_refusal-None : (ts : List Test) → (first_refusal ts ≡ None) ↔ AllFail ts
first_refusal-None [] = ((λ none. tt), (λ fail. refl))
first_refusal-None (t ∷ ts) =
    ((λ none. let parts = passed t.holds t.number (first_refusal ts) none in (parts.0, (first_refusal-None ts).0 parts.1)), (λ fail. skipped t.holds t.number (first_refusal ts) fail.0 ((first_refusal-None ts).1 fail.1)))

AllFail-more : (ts us : List Test) → AllFail (ts ++ us) ↔ (AllFail ts × AllFail us)
AllFail-more [] us = ((λ fail. (tt, fail)), (λ fail. fail.1))
AllFail-more (t ∷ ts) us =
    ((λ fail. let rest = (AllFail-more ts us).0 fail.1 in ((fail.0, rest.0), rest.1)), (λ fail. (fail.0.0, (AllFail-more ts us).1 (fail.0.1, fail.1))))

-- ---- tests and the facts that they decide

not_zero : (n : ℕ) → 0 < n → (n == 0) ≡ false
not_zero n h = grind (arith, nat_tests)

positive : (n : ℕ) → (n == 0) ≡ false → 0 < n
positive n h = grind (arith, nat_tests)

not_int_at_most : (a b : ℤ) → b <ℤ a → int_le a b ≡ false
not_int_at_most a b h = grind (arith, ints)

int_below : (a b : ℤ) → int_le a b ≡ false → b <ℤ a
int_below a b h = grind (arith, ints)

both : (a b : Bool) → a ≡ false → b ≡ false → (a || b) ≡ false
both a b p q = ap (λ x. x || b) p ∙ q

neither : (a b : Bool) → (a || b) ≡ false → (a ≡ false) × (b ≡ false)
neither true b h = absurd (true≢false h)
neither false b h = (refl, h)

-- a test of an element's square length fails where it fails at each two nodes that a span may have
span_test : (test : ℕ → Bool) (nodes : List Node) (e : Element) → ((a b : Node) → slice_get nodes e.from.0 ≡ Some a → slice_get nodes e.to.0 ≡ Some b → test (square_distance a b) ≡ false)
    → option_map_or test (square_length nodes e) false ≡ false
span_test test nodes e fails = by (slice_get nodes e.from.0) (slice_get nodes e.to.0) refl refl
  where
    by : (a b : Option Node) → slice_get nodes e.from.0 ≡ a → slice_get nodes e.to.0 ≡ b → option_map_or test (square_between a b) false ≡ false
    by (Some a) (Some b) at_from at_to = fails a b at_from at_to
    by (Some a) None at_from at_to = refl
    by None b at_from at_to = refl

IsSpan-from_tests : (nodes : List Node) (e : Element) (a b : Node) → has_no_length nodes e ≡ false → is_too_long nodes e ≡ false → slice_get nodes e.from.0 ≡ Some a → slice_get nodes e.to.0 ≡ Some b → IsSpan a b
IsSpan-from_tests nodes e a b apart near at_from at_to =
    let square : square_length nodes e ≡ Some (square_distance a b) = ap (λ o. square_between o (slice_get nodes e.to.0)) at_from ∙ ap (square_between (Some a)) at_to in
    let not_none : (square_distance a b == 0) ≡ false = sym (ap (λ o. option_map_or (λ n. n == 0) o false) square) ∙ apart in
    let not_more : nat_lt (LONGEST * LONGEST) (square_distance a b) ≡ false = sym (ap (λ o. option_map_or (nat_lt (LONGEST * LONGEST)) o false) square) ∙ near in
    record { apart = positive _ not_none; near = ltb-false _ _ not_more }

-- ---- the test of a shape

same_or_not : (a b : ℤ) → int_eq a b ≡ true → a ≡ b
same_or_not a b = (Decides-int_eq a b).0

same_so : (a b : ℤ) → a ≡ b → int_eq a b ≡ true
same_so a b = (Decides-int_eq a b).1

not_below : (a b : ℤ) → int_lt a b ≡ false → b ≤ℤ a
not_below a b h = grind (arith, ints)

not_below_from : (a b : ℤ) → b ≤ℤ a → int_lt a b ≡ false
not_below_from a b h = grind (arith, ints)

IsNear-from_test : (corner : Difference) → is_far corner ≡ false → IsNear corner
IsNear-from_test corner fail =
    let last = neither _ _ fail in
    let first = neither _ _ last.0 in
    record { x = ltb-false _ _ first.0; y = ltb-false _ _ first.1; z = ltb-false _ _ last.1 }

near_test : (corner : Difference) → IsNear corner → is_far corner ≡ false
near_test corner near = both _ _ (both _ _ (le-ltb _ _ near.x) (le-ltb _ _ near.y)) (le-ltb _ _ near.z)

pub parallel_test : (u v : Difference) → AreParallel u v → are_parallel u v ≡ true
parallel_test u v parallel = and_from _ _ (and_from _ _ (same_so _ _ parallel.x) (same_so _ _ parallel.y)) (same_so _ _ parallel.z)

pub parallel_from_test : (u v : Difference) → are_parallel u v ≡ true → AreParallel u v
parallel_from_test u v test =
    let last = and_parts _ _ test in
    let first = and_parts _ _ last.0 in
    record { x = same_or_not _ _ first.0; y = same_or_not _ _ first.1; z = same_or_not _ _ last.1 }

off_line_from_test : (u v : Difference) → are_parallel u v ≡ false → ¬ (AreParallel u v)
off_line_from_test u v fail parallel = true≢false (sym (parallel_test u v parallel) ∙ fail)

off_line_test : (u v : Difference) → ¬ (AreParallel u v) → are_parallel u v ≡ false
off_line_test u v off = false_from_ne_true (are_parallel u v) (λ test. off (parallel_from_test u v test))

chord_from_test : (square : ℕ) (r : ℤ) (answer : Result Ends IvFault) → misfits_sine square r answer ≡ false → (sine : Ends) → answer ≡ Ok sine → IsChordSquare square r sine
chord_from_test square r answer fail sine is =
    let tests = neither _ _ (sym (ap (misfits_sine square r) is) ∙ fail) in
    record { least = ltb-false _ _ tests.0; most = ltb-false _ _ tests.1 }

chord_test : (square : ℕ) (r : ℤ) (answer : Result Ends IvFault) → ((sine : Ends) → answer ≡ Ok sine → IsChordSquare square r sine) → misfits_sine square r answer ≡ false
chord_test square r (Ok sine) fits = let chord = fits sine refl in both _ _ (le-ltb _ _ chord.least) (le-ltb _ _ chord.most)
chord_test square r (Err _) fits = refl

IsShapeSpan-from_test : (a b : Node) (s : Section) (shape : Shape) → is_bad_shape a b s shape ≡ false → IsShapeSpan a b s shape
IsShapeSpan-from_test a b s Straight fail = tt
IsShapeSpan-from_test a b s (Bend r angle x y z) fail =
    let chord = neither _ _ fail in
    let line = neither _ _ chord.0 in
    let near = neither _ _ line.0 in
    record {
      room = not_below _ _ near.0;
      near = IsNear-from_test _ near.1;
      off_line = off_line_from_test _ _ line.1;
      chord = chord_from_test (square_distance a b) r (sine_of angle) chord.1;
    }

is_bad_shape-IsShapeSpan : (a b : Node) (s : Section) (shape : Shape) → IsShapeSpan a b s shape → is_bad_shape a b s shape ≡ false
is_bad_shape-IsShapeSpan a b s Straight fits = refl
is_bad_shape-IsShapeSpan a b s (Bend r angle x y z) fits =
    both _ _ (both _ _ (both _ _ (not_below_from _ _ fits.room) (near_test _ fits.near)) (off_line_test _ _ fits.off_line)) (chord_test (square_distance a b) r (sine_of angle) fits.chord)

-- the test fails where it fails at each two nodes and section of an element
shape_test : (nodes : List Node) (sections : List Section) (e : Element)
    → ((a b : Node) (s : Section) → slice_get nodes e.from.0 ≡ Some a → slice_get nodes e.to.0 ≡ Some b → slice_get sections e.section.0 ≡ Some s → IsShapeSpan a b s e.shape)
    → has_bad_shape nodes sections e ≡ false
shape_test nodes sections e fits = by (slice_get nodes e.from.0) (slice_get nodes e.to.0) (slice_get sections e.section.0) refl refl refl
  where
    by : (a b : Option Node) (s : Option Section) → slice_get nodes e.from.0 ≡ a → slice_get nodes e.to.0 ≡ b → slice_get sections e.section.0 ≡ s → is_bad_between a b s e.shape ≡ false
    by (Some a) (Some b) (Some s) at_from at_to at_section = is_bad_shape-IsShapeSpan a b s e.shape (fits a b s at_from at_to at_section)
    by (Some a) (Some b) None at_from at_to at_section = refl
    by (Some a) None s at_from at_to at_section = refl
    by None b s at_from at_to at_section = refl

-- ---- the test of an anchor

not_fails : (b : Bool) → not b ≡ false → b ≡ true
not_fails true e = refl
not_fails false e = absurd (true≢false e)

anchor_from_test : (restraints : List Restraint) (n : ℕ) (x : Restraint) → slice_get restraints n ≡ Some x → is_other_restraint restraints n ≡ false → IsTrue (is_anchor x.kind)
anchor_from_test restraints n x there fail = not_fails (is_anchor x.kind) (sym (ap (λ o. option_map_or (λ (y : Restraint). not (is_anchor y.kind)) o false) there) ∙ fail)

anchor_test : (restraints : List Restraint) (n : ℕ) → ((x : Restraint) → slice_get restraints n ≡ Some x → IsTrue (is_anchor x.kind)) → is_other_restraint restraints n ≡ false
anchor_test restraints n anchors = by (slice_get restraints n) refl
  where
    by : (o : Option Restraint) → slice_get restraints n ≡ o → option_map_or (λ (y : Restraint). not (is_anchor y.kind)) o false ≡ false
    by (Some x) there = ap not (anchors x there)
    by None there = refl

-- ---- the test of a sustained check

sustained_from_test : (checks : List Check) (n : ℕ) (x : Check) → slice_get checks n ≡ Some x → is_other_check checks n ≡ false → IsTrue (is_sustained x.kind)
sustained_from_test checks n x there fail = not_fails (is_sustained x.kind) (sym (ap (λ o. option_map_or (λ (y : Check). not (is_sustained y.kind)) o false) there) ∙ fail)

sustained_test : (checks : List Check) (n : ℕ) → ((x : Check) → slice_get checks n ≡ Some x → IsTrue (is_sustained x.kind)) → is_other_check checks n ≡ false
sustained_test checks n sustained = by (slice_get checks n) refl
  where
    by : (o : Option Check) → slice_get checks n ≡ o → option_map_or (λ (y : Check). not (is_sustained y.kind)) o false ≡ false
    by (Some x) there = ap not (sustained x there)
    by None there = refl

named_from_test : (checks : List Check) (sus : Option CheckId) → names_other checks sus ≡ false → IfSome sus (λ id. (x : Check) → slice_get checks id.0 ≡ Some x → IsTrue (is_sustained x.kind))
named_from_test checks None fail = tt
named_from_test checks (Some sus) fail = λ x there. sustained_from_test checks sus.0 x there fail

named_test : (checks : List Check) (sus : Option CheckId) → IfSome sus (λ id. (x : Check) → slice_get checks id.0 ≡ Some x → IsTrue (is_sustained x.kind)) → names_other checks sus ≡ false
named_test checks None named = refl
named_test checks (Some sus) named = sustained_test checks sus.0 named

-- the tests of a kind decide its own rule
own-fail : (m : Lists) (r : Record) → AllFail (own_tests m r) ↔ KeepsOwn m r
own-fail m (record_of.Material r) = ((λ fail. tt), (λ own. tt))
own-fail m (record_of.Section r) = (
  (λ fail. let walls = neither (int_le r.d (pos 2 *ℤ r.t)) (int_le r.t r.allowance) fail.0 in record { bore = int_below _ _ walls.0; sound_wall = int_below _ _ walls.1 }),
  (λ own. (both _ _ (not_int_at_most _ _ own.bore) (not_int_at_most _ _ own.sound_wall), tt)),
)
own-fail m (record_of.Node r) = ((λ fail. tt), (λ own. tt))
own-fail m (record_of.Element r) = (
  (λ fail. record {
    span = λ a b at_from at_to. IsSpan-from_tests m.nodes r a b fail.0 fail.1.0 at_from at_to;
    shape = λ a b s at_from at_to at_section. IsShapeSpan-from_test a b s r.shape
        (sym (ap (λ o. is_bad_between o (slice_get m.nodes r.to.0) (slice_get m.sections r.section.0) r.shape) at_from
        ∙ ap (λ o. is_bad_between (Some a) o (slice_get m.sections r.section.0) r.shape) at_to ∙ ap (λ o. is_bad_between (Some a) (Some b) o r.shape) at_section) ∙ fail.1.1.0);
  }),
  (λ own. (
    span_test (λ n. n == 0) m.nodes r (λ a b at_from at_to. not_zero _ (own.span a b at_from at_to).apart),
    (
      span_test (nat_lt (LONGEST * LONGEST)) m.nodes r (λ a b at_from at_to. le-ltb _ _ (own.span a b at_from at_to).near),
      (shape_test m.nodes m.sections r own.shape, tt),
    ),
  )),
)
own-fail m (record_of.Tee r) = ((λ fail. tt), (λ own. tt))
own-fail m (record_of.Restraint r) = ((λ fail. tt), (λ own. tt))
own-fail m (record_of.Case r) = ((λ fail. tt), (λ own. tt))
own-fail m (record_of.Temp r) = ((λ fail. tt), (λ own. tt))
own-fail m (record_of.Pressure r) = ((λ fail. tt), (λ own. tt))
own-fail m (record_of.Force r) = ((λ fail. tt), (λ own. tt))
own-fail m (record_of.Move r) = ((λ fail x there. anchor_from_test m.restraints r.anchor.0 x there fail.0), (λ own. (anchor_test m.restraints r.anchor.0 own, tt)))
own-fail m (record_of.Check r) = ((λ fail. named_from_test m.checks (named_check r.kind) fail.0), (λ own. (named_test m.checks (named_check r.kind) own, tt)))

known-fail : (m : Lists) (rs : List Ref) → (lacks m rs ≡ false) ↔ AreThere m rs
known-fail m [] = ((λ fail. tt), (λ known. refl))
known-fail m (ref ∷ rest) = (
  (λ fail. let parts = neither (nat_le (count m ref.kind) ref.number) (lacks m rest) fail in (leb-false _ _ parts.0, (known-fail m rest).0 parts.1)),
  (λ known. both _ _ (lt-leb _ _ known.0) ((known-fail m rest).1 known.1)),
)

new-fail : (keyed : Bool) (names : List (List ℕ)) (name : List ℕ) → ((keyed && is_some (position (pointwise nat_eq name) names)) ≡ false) ↔ (IsTrue keyed → ¬ (Contains names name))
new-fail true names name = ((λ fail keyed. by (position (pointwise nat_eq name) names) refl fail), (λ new. absent_key names name (new refl)))
  where
    by : (o : Option ℕ) → o ≡ position (pointwise nat_eq name) names → is_some o ≡ false → ¬ (Contains names name)
    by None e fail = (position-Contains names name None e).0 refl
    by (Some i) e fail = absurd (true≢false fail)
new-fail false names name = ((λ fail keyed. absurd (true≢false (sym keyed))), (λ new. refl))

-- ---- room

room-fail : (m : Lists) (r : Record) → is_too_many m r ≡ false → (count m (kind_of r) < most (kind_of r)) × (IsTrue (has_stop r) → stop_count m.restraints < MOST_STOPS)
room-fail m r fail =
    let parts = neither (nat_le (most (kind_of r)) (count m (kind_of r))) (has_stop r && nat_le MOST_STOPS (stop_count m.restraints)) fail in
    (leb-false _ _ parts.0, (λ stop. leb-false _ _ (sym (ap (λ b. b && nat_le MOST_STOPS (stop_count m.restraints)) stop) ∙ parts.1)))

pub room_for : (m : Lists) (r : Record) → MayBeNext m r → is_too_many m r ≡ false
room_for m r next = both _ _ (lt-leb _ _ next.room) (by (has_stop r) refl)
  where
    by : (stop : Bool) → has_stop r ≡ stop → (has_stop r && nat_le MOST_STOPS (stop_count m.restraints)) ≡ false
    by true is = ap (λ b. b && nat_le MOST_STOPS (stop_count m.restraints)) is ∙ lt-leb _ _ (next.stop_room is)
    by false is = ap (λ b. b && nat_le MOST_STOPS (stop_count m.restraints)) is

-- ---- the law

module _ (m : Lists) (r : Record) where
  refused_by_none : InForm r → AllFail (tests m r) → MayBeNext m r
  refused_by_none form fail =
      let rest = (AllFail-more (own_tests m r) (test 14 (is_too_many m r) ∷ [])).0 fail.1.1 in
      record {
        keeps = record { form = form; known = (known-fail m (refs r)).0 fail.1.0; own = (own-fail m r).0 rest.0 };
        new = (new-fail (is_keyed (kind_of r)) (keys m (kind_of r)) (key r)).0 fail.0;
        room = (room-fail m r rest.1.0).0;
        stop_room = (room-fail m r rest.1.0).1;
      }

  pub refused_none : MayBeNext m r → refusal m r ≡ None
  refused_none next =
      (first_refusal-None (tests m r)).1 (
        (new-fail (is_keyed (kind_of r)) (keys m (kind_of r)) (key r)).1 next.new,
        ((known-fail m (refs r)).1 next.keeps.known, (AllFail-more (own_tests m r) (test 14 (is_too_many m r) ∷ [])).1 ((own-fail m r).1 next.keeps.own, (room_for m r next, tt))),
      )

  pub may_be_next : InForm r → refusal m r ≡ None → MayBeNext m r
  may_be_next form none = refused_by_none form ((first_refusal-None (tests m r)).0 none)
