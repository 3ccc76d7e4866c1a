-- The test of a tee decides whether the elements at its node make it.
use Rattle.std.proofs.Common.{◌≡◌, ℕ, suc, ◌+◌, ◌<◌, ◌≤◌, ◌==◌, Bool, true, false, true≢false, not, ◌&&◌, List, [], ◌∷◌, ◌++◌, filter, map, nat_eq, is_some, take, drop, get_or, length, length-take-le, position, slice_get, Option, Some, None, All, add-one, refl, sym, ap, ◌∙◌, arith}
use Rattle.std.proofs.Math.Seq.{drop-cons}
use Rattle.std.proofs.lemmas.Bool.{and_parts, and_from, cond-true, cond-false, eqb-true, eq-eqb, false_from_ne_true, not-true, not-false, not_from_true}
use Rattle.std.proofs.lemmas.Bool.Decides.{nat_tests}
use Rattle.std.proofs.lemmas.Grind.{common_steps}
use Rattle.std.proofs.lemmas.List.{take-append-drop, get_or-take, length-map}
use Rattle.std.proofs.lemmas.List.Elements.{All-map, All-weaker, filter-append}
use Rattle.std.proofs.lemmas.Slice.Eq.{bytes_eq-Decides}
use Rattle.std.proofs.lemmas.Option.{none-some}
use Rattle.std.proofs.Math.ListN.{get_or-map}
use Rattle.std.specs.Cmp.Lexicographic.{pointwise}
use Rattle.std.proofs.lemmas.List.Quantifiers.{position-Some}
use Rattle.std.proofs.lemmas.List.Sums.{fails_before_first, position_or_len_is}
use Rattle.std.specs.List.{position_or_len}
use Rattle.model_types.specs.declared.spans.Difference.{Difference}
use Rattle.model_types.specs.declared.records.Node.{Node}
use Rattle.model_types.specs.declared.records.Element.{Element}
use Rattle.model_types.specs.declared.records.Tee.{Tee}
use Rattle.model_types.specs.Lists.{Lists}
use Rattle.model_types.specs.Tees.{is_straight, ends_at, beside, run_of, AreInLine, IsHeader, IsBranch, IsTee, just_two, is_header, is_branch, are_in_line, make_tee, is_tee_by, is_tee, broken_tee}
use Rattle.model_types.proofs.TestLemmas.{parallel_from_test, parallel_test}

-- ---- what passes a test in a list

module _ {X : Type 0} (p : X → Bool) where
  none_pass : (xs : List X) → All (λ x. p x ≡ false) xs → filter p xs ≡ []
  none_pass [] each = refl
  none_pass (x ∷ xs) each =
      let first : p x ≡ false = each 0 x (omega arith) in
      cond-false (p x) (x ∷ filter p xs) (filter p xs) first ∙ none_pass xs (λ i d inside. each (suc i) d (omega (arith, inside)))

  -- a test that no element passes
  pub all_fail : (xs : List X) → position p xs ≡ None → All (λ x. p x ≡ false) xs
  all_fail xs none k d inside =
      let past : length xs ≤ position_or_len p xs = grind (arith, nat_tests, common_steps) in
      fails_before_first p xs k d (omega arith)

  pub no_position : (xs : List X) → All (λ x. p x ≡ false) xs → position p xs ≡ None
  no_position [] each = refl
  no_position (x ∷ xs) each =
      let past : position_or_len p (x ∷ xs) ≡ length (x ∷ xs) = position_or_len_is p (x ∷ xs) (length (x ∷ xs)) x (omega arith) (λ k inside. each k x inside) (λ inside. absurd (omega (arith, inside))) in
      grind (arith, nat_tests, common_steps)

  -- the first place that passes
  pub first_position : (xs : List X) (i : ℕ) (d : X) → i < length xs → ((k : ℕ) → k < i → p (get_or xs k d) ≡ false) → p (get_or xs i d) ≡ true → position p xs ≡ Some i
  first_position xs i d inside earlier here =
      let at : position_or_len p xs ≡ i = position_or_len_is p xs i d (omega (arith, inside)) earlier (λ _. here) in
      grind (arith, nat_tests, common_steps)

  pub filter_none : (xs : List X) → None ≡ position p xs → filter p xs ≡ []
  filter_none xs none = none_pass xs (all_fail xs (sym none))

  -- the first element that passes, and those behind it
  pub filter_found : (xs : List X) (at : ℕ) (d : X) → Some at ≡ position p xs → filter p xs ≡ get_or xs at d ∷ filter p (drop (at + 1) xs)
  filter_found xs at d is =
      let found = position-Some p xs at d (sym is) in
      let behind : List X = drop (at + 1) xs in
      let whole : xs ≡ take at xs ++ get_or xs at d ∷ behind = sym (take-append-drop at xs) ∙ ap (λ rest. take at xs ++ rest) (rw add-one (drop-cons xs at d found.0)) in
      let front : All (λ x. p x ≡ false) (take at xs) =
      λ k e inside.
      let before : k < at = omega (arith, inside, length-take-le at xs (omega (arith, found.0))) in
      let first = position-Some p xs at e (sym is) in
      let fails : p (get_or xs k e) ≡ false = first.2 k before in
      ap p (get_or-take at xs k e before) ∙ fails in
      ap (filter p) whole ∙ filter-append p (take at xs) (get_or xs at d ∷ behind) ∙ ap (λ l. l ++ filter p (get_or xs at d ∷ behind)) (none_pass (take at xs) front)
      ∙ cond-true (p (get_or xs at d)) (get_or xs at d ∷ filter p behind) (filter p behind) found.1

-- a test of what a function gives finds what the test behind the function finds
module _ {X Y : Type 0} (p : X → Bool) (q : Y → Bool) (f : X → Y) (same : (x : X) → q (f x) ≡ p x) where
  pub found_mapped : (xs : List X) → is_some (position p xs) ≡ is_some (position q (map f xs))
  found_mapped xs = by (position p xs) (position q (map f xs)) refl refl
    where
      by : (a b : Option ℕ) → position p xs ≡ a → position q (map f xs) ≡ b → is_some (position p xs) ≡ is_some (position q (map f xs))
      by None None a b = ap is_some a ∙ sym (ap is_some b)
      by (Some i) (Some j) a b = ap is_some a ∙ sym (ap is_some b)
      by None (Some j) a b =
          let none = no_position q (map f xs) (All-map (λ y. q y ≡ false) f xs (All-weaker (λ x. p x ≡ false) (λ x. q (f x) ≡ false) (λ x fails. same x ∙ fails) xs (all_fail p xs a))) in
          absurd (none-some j (sym none ∙ b))
      by (Some i) None a b =
          let none = no_position p xs (λ k d inside.
          let fails : q (get_or (map f xs) k (f d)) ≡ false = all_fail q (map f xs) b k (f d) (omega (arith, inside, length-map xs f)) in
          sym (same (get_or xs k d)) ∙ ap q (sym (get_or-map f xs k d)) ∙ fails) in
          absurd (none-some i (sym none ∙ a))

-- a tee's key is its node's number alone
same_key : (n x : ℕ) → pointwise nat_eq (n ∷ []) (x ∷ []) ≡ (x == n)
same_key n x = by (x == n) refl
  where
    by : (b : Bool) → (x == n) ≡ b → pointwise nat_eq (n ∷ []) (x ∷ []) ≡ (x == n)
    by true is = (bytes_eq-Decides (n ∷ []) (x ∷ [])).1 (ap (λ y. y ∷ []) (sym (eqb-true x n is))) ∙ sym is
    by false is =
        false_from_ne_true (pointwise nat_eq (n ∷ []) (x ∷ [])) (λ test.
        let lists : n ∷ [] ≡ x ∷ [] = (bytes_eq-Decides (n ∷ []) (x ∷ [])).0 test in
        let numbers : x ≡ n = cc in
        true≢false (sym (eq-eqb x n numbers) ∙ is)) ∙ sym is

pub tee_found : (tees : List Tee) (node : ℕ) → is_some (position (λ t. t.node.0 == node) tees) ≡ is_some (position (pointwise nat_eq (node ∷ [])) (map (λ t. t.node.0 ∷ []) tees))
tee_found tees node = found_mapped (λ t. t.node.0 == node) (pointwise nat_eq (node ∷ [])) (λ t. t.node.0 ∷ []) (λ t. same_key node t.node.0) tees

-- a pair of numbers is the key of a record
same_pair : (a b x y : ℕ) → pointwise nat_eq (a ∷ b ∷ []) (x ∷ y ∷ []) ≡ (x == a && y == b)
same_pair a b x y = by (x == a && y == b) refl
  where
    by : (t : Bool) → (x == a && y == b) ≡ t → pointwise nat_eq (a ∷ b ∷ []) (x ∷ y ∷ []) ≡ (x == a && y == b)
    by true is =
        let parts = and_parts (x == a) (y == b) is in
        (bytes_eq-Decides (a ∷ b ∷ []) (x ∷ y ∷ [])).1 (ap (λ n. n ∷ b ∷ []) (sym (eqb-true x a parts.0)) ∙ ap (λ n. x ∷ n ∷ []) (sym (eqb-true y b parts.1))) ∙ sym is
    by false is =
        false_from_ne_true (pointwise nat_eq (a ∷ b ∷ []) (x ∷ y ∷ [])) (λ test.
        let lists : a ∷ b ∷ [] ≡ x ∷ y ∷ [] = (bytes_eq-Decides (a ∷ b ∷ []) (x ∷ y ∷ [])).0 test in
        let first : x ≡ a = cc in
        let second : y ≡ b = cc in
        true≢false (sym (and_from (x == a) (y == b) (eq-eqb x a first) (eq-eqb y b second)) ∙ is)) ∙ sym is

pub pair_found : {X : Type 0} (first second : X → ℕ) (xs : List X) (a b : ℕ)
    → is_some (position (λ x. first x == a && second x == b) xs) ≡ is_some (position (pointwise nat_eq (a ∷ b ∷ [])) (map (λ x. first x ∷ second x ∷ []) xs))
pair_found first second xs a b = found_mapped (λ x. first x == a && second x == b) (pointwise nat_eq (a ∷ b ∷ [])) (λ x. first x ∷ second x ∷ []) (λ x. same_pair a b (first x) (second x)) xs

-- ---- lines

AreInLine-from_test : (nodes : List Node) (e f : Element) → are_in_line (run_of nodes e) (run_of nodes f) ≡ true → AreInLine nodes e f
AreInLine-from_test nodes e f = by (run_of nodes e) (run_of nodes f) refl refl
  where
    by : (u v : Option Difference) → run_of nodes e ≡ u → run_of nodes f ≡ v → are_in_line u v ≡ true → AreInLine nodes e f
    by (Some u) (Some v) u_is v_is test = record { u = u; v = v; u_is = u_is; v_is = v_is; parallel = parallel_from_test u v test }
    by (Some u) None u_is v_is test = absurd (true≢false (sym test))
    by None v u_is v_is test = absurd (true≢false (sym test))

AreInLine-test : (nodes : List Node) (e f : Element) → AreInLine nodes e f → are_in_line (run_of nodes e) (run_of nodes f) ≡ true
AreInLine-test nodes e f line =
    ap (λ o. are_in_line o (run_of nodes f)) line.u_is ∙ ap (are_in_line (Some line.u)) line.v_is ∙ parallel_test line.u line.v line.parallel

-- ---- tees

IsHeader-from_test : (t : Tee) (e : Element) → is_header t e ≡ true → IsHeader t e
IsHeader-from_test t e test = let parts = and_parts (is_straight e.shape) (e.section.0 == t.header.0) test in record { straight = parts.0; section = eqb-true _ _ parts.1 }

IsBranch-from_test : (t : Tee) (e : Element) → is_branch t e ≡ true → IsBranch t e
IsBranch-from_test t e test = let parts = and_parts (is_straight e.shape) (ends_at t.node.0 e) test in record { straight = parts.0; end = parts.1 }

header_test : (t : Tee) (e : Element) → IsHeader t e → is_header t e ≡ true
header_test t e is = and_from (is_straight e.shape) (e.section.0 == t.header.0) is.straight (eq-eqb _ _ is.section)

branch_test : (t : Tee) (e : Element) → IsBranch t e → is_branch t e ≡ true
branch_test t e is = and_from (is_straight e.shape) (ends_at t.node.0 e) is.straight is.end

abbrev listed_pair : Option (Element × Element) → List Element
listed_pair (Some (a, b)) = a ∷ b ∷ []
listed_pair None = []

just_two-is : (es : List Element) (a b : Element) → just_two es ≡ Some (a, b) → es ≡ a ∷ b ∷ []
just_two-is [] a b is = cc
just_two-is (e ∷ []) a b is = cc
just_two-is (e ∷ f ∷ []) a b is = ap listed_pair is
just_two-is (e ∷ f ∷ g ∷ more) a b is = cc

module _ (m : Lists) (t : Tee) where
  IsTee-from_test : is_tee m.nodes m.elements t ≡ true → IsTee m t
  IsTee-from_test = by (slice_get m.elements t.branch.0) refl
    where
      two : (b : Element) → slice_get m.elements t.branch.0 ≡ Some b → (pair : Option (Element × Element)) → just_two (beside t.node.0 b.name m.elements) ≡ pair → make_tee m.nodes t b pair ≡ true → IsTee m t
      two b there None pair_is test = absurd (true≢false (sym test))
      two b there (Some (e, f)) pair_is test =
          let branch = and_parts _ _ test in
          let first = and_parts _ _ branch.1 in
          let second = and_parts _ _ first.1 in
          let line = and_parts _ _ second.1 in
          record {
            branch = b;
            first = e;
            second = f;
            branch_there = there;
            beside_it = just_two-is (beside t.node.0 b.name m.elements) e f pair_is;
            branch_is = IsBranch-from_test t b branch.0;
            first_is = IsHeader-from_test t e first.0;
            second_is = IsHeader-from_test t f second.0;
            on_line = AreInLine-from_test m.nodes e f line.0;
            off_line = λ on. true≢false (sym (AreInLine-test m.nodes b e on) ∙ not-true _ line.1);
          }

      by : (o : Option Element) → slice_get m.elements t.branch.0 ≡ o → is_tee_by m.nodes m.elements t o ≡ true → IsTee m t
      by (Some b) there test = two b there (just_two (beside t.node.0 b.name m.elements)) refl test
      by None there test = absurd (true≢false (sym test))

  -- the tests of a tee that is made
  off_test : (b e : Element) → ¬ (AreInLine m.nodes b e) → not (are_in_line (run_of m.nodes b) (run_of m.nodes e)) ≡ true
  off_test b e off = by (are_in_line (run_of m.nodes b) (run_of m.nodes e)) refl
    where
      by : (test : Bool) → are_in_line (run_of m.nodes b) (run_of m.nodes e) ≡ test → not (are_in_line (run_of m.nodes b) (run_of m.nodes e)) ≡ true
      by true is = absurd (off (AreInLine-from_test m.nodes b e is))
      by false is = ap not is

  tee_test : IsTee m t → is_tee m.nodes m.elements t ≡ true
  tee_test tee =
      let pair : just_two (beside t.node.0 tee.branch.name m.elements) ≡ Some (tee.first, tee.second) = ap just_two tee.beside_it in
      ap (is_tee_by m.nodes m.elements t) tee.branch_there ∙ ap (make_tee m.nodes t tee.branch) pair
      ∙ and_from _ _ (branch_test t tee.branch tee.branch_is)
      (and_from _ _ (header_test t tee.first tee.first_is)
      (and_from _ _ (header_test t tee.second tee.second_is)
      (and_from _ _ (AreInLine-test m.nodes tee.first tee.second tee.on_line) (off_test tee.branch tee.first tee.off_line))))

-- no tee is broken exactly where each is made
pub tees_made : (m : Lists) → broken_tee m ≡ None → All (IsTee m) m.tees
tees_made m none k d inside =
    IsTee-from_test m (get_or m.tees k d) (not-false _ (all_fail (λ t. not (is_tee m.nodes m.elements t)) m.tees none k d inside))

pub none_broken : (m : Lists) → All (IsTee m) m.tees → broken_tee m ≡ None
none_broken m made =
    no_position (λ t. not (is_tee m.nodes m.elements t)) m.tees (λ k d inside. not_from_true _ (tee_test m (get_or m.tees k d) (made k d inside)))
