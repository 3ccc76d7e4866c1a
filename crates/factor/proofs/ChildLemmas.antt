-- The squares of a node's rows in its children's subtrees, from one node of the row pattern to the next.
use Rattle.std.proofs.Common.{◌≡◌, ℕ, suc, ◌+◌, ◌*◌, ◌/◌, ◌%◌, ◌^◌, ◌<◌, ◌≤◌, Bool, true, false, cond, eqb, List, Option, Some, None, length, get_or, replicate, Contains, All, ◌∙◌, sym, ap, refl, arith, inl, inr, mul-le-mul_right, ℤ, pos, ◌+ℤ◌, ◌≤ℤ◌, ◌<ℤ◌}
use Rattle.std.specs.Int.RustNames.{unsigned_abs}
use Rattle.std.specs.Option.{option_map_or}
use Rattle.std.proofs.lemmas.Bool.{cases_lt, ne_eqb}
use Rattle.std.proofs.lemmas.List.{get_or_default, get_or-replicate, get_or_past, length-replicate}
use Rattle.std.proofs.lemmas.List.Elements.{All-contains}
use Rattle.int_laws.specs.Sums.{sum_below}
use Rattle.int_laws.proofs.Sums.{int_sums}
use Rattle.int_laws.proofs.SumLaws.{sum_below-nonnegative, sum_below-at_most}
use Rattle.lists.specs.Rising.{IsRising}
use Rattle.lists.specs.Order.{place_of}
use Rattle.lists.proofs.PlaceLemmas.{place_of-at}
use Rattle.elimination.specs.Elimination.{parent_of, is_parent}
use Rattle.cholesky_laws.specs.Laws.{RecurrenceLaws}
use Rattle.cholesky_laws.specs.Breakdown.{Passes, squares}
use Rattle.factor.specs.Panel.{IsPanel, kept_for}
use Rattle.factor.specs.State.{ArePanels, IsRowPattern, HoldsChildren}
use Rattle.factor.specs.declared.panel.Panel.{Panel}
use Rattle.factor.proofs.GapLemmas.{IsGap, carried, none_first, none_between, gap_past}
use Rattle.factor.proofs.RowPatternLemmas.{below}

-- nothing at first
pub children_none : (a : ℕ → ℕ → ℤ) (parents : List (Option ℕ)) (size n : ℕ) (nodes : List ℕ) (sums : List ℤ) → sums ≡ replicate (6 * length nodes) (pos 0) → HoldsChildren a parents size n nodes sums 0
children_none a parents size n nodes sums is q r nq qs rl =
    let at = 6 * place_of q nodes + r in
    ap (λ (xs : List ℤ). get_or xs at (pos 0)) is
    ∙ elim (cases_lt at (6 * length nodes)) [
      | inl lt ↦ get_or-replicate (6 * length nodes) at (pos 0) (pos 0) lt
      | inr ge ↦ get_or_past (replicate (6 * length nodes) (pos 0)) at (pos 0) (omega (arith, length-replicate (6 * length nodes) (pos 0)))
    ]

test_false : (b : Bool) (z : ℤ) → b ≡ false → pos 0 ≡ cond b z (pos 0)
test_false b z e = sym (ap (λ t. cond t z (pos 0)) e)

plus_none : (z : ℤ) → z ≡ z +ℤ pos 0
plus_none z = omega (arith, int_sums)

-- a node that is no child
pub children_skip : (a : ℕ → ℕ → ℤ) (parents : List (Option ℕ)) (size n d : ℕ) (nodes : List ℕ) (sums : List ℤ) → is_parent parents n d ≡ false → HoldsChildren a parents size n nodes sums d → HoldsChildren a parents size n nodes sums (suc d)
children_skip a parents size n d nodes sums no_child holds q r nq qs rl =
    let f = λ (e : ℕ). cond (is_parent parents n e) (squares a parents e (6 * q + r)) (pos 0) in
    holds q r nq qs rl ∙ plus_none (sum_below d f) ∙ ap (λ z. sum_below d f +ℤ z) (test_false (is_parent parents n d) (squares a parents d (6 * q + r)) no_child)

-- a child's sums are put on
pub children_next : (a : ℕ → ℕ → ℤ) (parents : List (Option ℕ)) (size n d : ℕ) (nodes reached : List ℕ) (old new entries sums : List ℤ) → d < n → is_parent parents n d ≡ true → IsPanel a parents size d reached entries sums → HoldsChildren a parents size n nodes old d → ((q r : ℕ) → n ≤ q → r < 6 → kept_for 6 nodes new q r ≡ kept_for 6 nodes old q r +ℤ kept_for 6 reached sums q r) → HoldsChildren a parents size n nodes new (suc d)
children_next a parents size n d nodes reached old new entries sums lt child panel holds put q r nq qs rl =
    let f = λ (e : ℕ). cond (is_parent parents n e) (squares a parents e (6 * q + r)) (pos 0) in
    put q r nq rl
    ∙ ap (λ z. z +ℤ kept_for 6 reached sums q r) (holds q r nq qs rl)
    ∙ ap (λ z. sum_below d f +ℤ z) (panel.squares_are q r (omega arith) qs rl)
    ∙ ap (λ z. sum_below d f +ℤ z) (sym (ap (λ t. cond t (squares a parents d (6 * q + r)) (pos 0)) child))

not_parent : (o : Option ℕ) (n : ℕ) → (o ≡ Some n → ⊥) → option_map_or (λ v. eqb v n) o false ≡ false
not_parent None n differs = refl
not_parent (Some v) n differs = ne_eqb v n (λ e. differs (ap Some e))

-- a node before that is not in the row pattern is no child
absent_no_child : (a : ℕ → ℕ → ℤ) (parents : List (Option ℕ)) (size n d : ℕ) (panels : List Panel) (row_pattern : List ℕ) → ArePanels a parents size n panels → IsRowPattern panels n n row_pattern → d < n → (Contains row_pattern d → ⊥) → is_parent parents n d ≡ false
absent_no_child a parents size n d panels row_pattern p u lt absent =
    not_parent (parent_of parents d) n (λ is. absent ((u.reaching d).1 (lt, (p.known d lt).parent n is)))

pub children_first : (a : ℕ → ℕ → ℤ) (parents : List (Option ℕ)) (size n m : ℕ) (panels : List Panel) (row_pattern nodes : List ℕ) (sums : List ℤ) → ArePanels a parents size n panels → IsRowPattern panels n n row_pattern → HoldsChildren a parents size n nodes sums 0 → IsGap row_pattern n 0 m → HoldsChildren a parents size n nodes sums m
children_first a parents size n m panels row_pattern nodes sums p u start gap =
    let most = gap.most in
    carried (λ x. HoldsChildren a parents size n nodes sums x) 0 m (omega arith)
    (λ d bd dm h. children_skip a parents size n d nodes sums (absent_no_child a parents size n d panels row_pattern p u (omega arith) (none_first row_pattern n m d gap dm)) h)
    start

pub children_after : (a : ℕ → ℕ → ℤ) (parents : List (Option ℕ)) (size n i m : ℕ) (panels : List Panel) (row_pattern nodes : List ℕ) (sums : List ℤ) → ArePanels a parents size n panels → IsRowPattern panels n n row_pattern → i < length row_pattern → HoldsChildren a parents size n nodes sums (suc (get_or row_pattern i 0)) → IsGap row_pattern n (i + 1) m → HoldsChildren a parents size n nodes sums m
children_after a parents size n i m panels row_pattern nodes sums p u lt start gap =
    let most = gap.most in
    let past = gap_past row_pattern n i m lt gap in
    carried (λ x. HoldsChildren a parents size n nodes sums x) (suc (get_or row_pattern i 0)) m (omega arith)
    (λ d bd dm h. children_skip a parents size n d nodes sums (absent_no_child a parents size n d panels row_pattern p u (omega arith) (none_between row_pattern n i m d (below panels n n row_pattern u) lt gap (omega arith) dm)) h)
    start

-- the sums are small
pub children_small : RecurrenceLaws → (a : ℕ → ℕ → ℤ) (parents : List (Option ℕ)) (size n m : ℕ) (nodes : List ℕ) (sums : List ℤ) → size ≤ 8000 → m ≤ n → n < size → ((d : ℕ) → d < n → Passes a parents size d) → IsRising nodes → All (λ q. (n ≤ q) × (q < size)) nodes → length sums ≡ 6 * length nodes → HoldsChildren a parents size n nodes sums m → All (λ x. unsigned_abs x < 2 ^ 126) sums
children_small laws a parents size n m nodes sums few le in' passes up within whole holds s d lt =
    let p = s / 6 in
    let r = s % 6 in
    let p-in : p < length nodes = omega (arith, whole) in
    let q = get_or nodes p 0 in
    let bounds = within p 0 p-in in
    let at : 6 * place_of q nodes + r ≡ s = (let place = place_of-at nodes p up p-in in omega arith) in
    let f = λ (e : ℕ). cond (is_parent parents n e) (squares a parents e (6 * q + r)) (pos 0) in
    let is : get_or sums s d ≡ sum_below m f =
    get_or_default sums s d (pos 0) lt ∙ ap (λ (x : ℕ). get_or sums x (pos 0)) (sym at) ∙ holds q r bounds.0 bounds.1 (omega arith)
    in
    let low = sum_below-nonnegative m f (λ e el. picked_low (is_parent parents n e) (squares a parents e (6 * q + r)) (laws.subtrees.nonnegative a parents e (6 * q + r))) in
    let high = sum_below-at_most m (2 ^ 113) f (λ e el. picked_high (is_parent parents n e) (squares a parents e (6 * q + r)) ((passes e (omega arith)).narrow (6 * q + r) (omega arith, omega arith))) in
    let many : m * 2 ^ 113 ≤ 8000 * 2 ^ 113 = mul-le-mul_right (2 ^ 113) (let l : m ≤ 8000 = omega arith in l) in
    rw is (small_sum (sum_below m f) (m * 2 ^ 113) many low high)
  where
    picked_low : (b : Bool) (z : ℤ) → pos 0 ≤ℤ z → pos 0 ≤ℤ cond b z (pos 0)
    picked_low true z h = h
    picked_low false z h = omega (arith, int_sums)

    picked_high : (b : Bool) (z : ℤ) → z <ℤ pos (2 ^ 113) → cond b z (pos 0) ≤ℤ pos (2 ^ 113)
    picked_high true z h = omega (arith, int_sums)
    picked_high false z h = omega (arith, int_sums)

    small_sum : (z : ℤ) (b : ℕ) → b ≤ 8000 * 2 ^ 113 → pos 0 ≤ℤ z → z ≤ℤ pos b → unsigned_abs z < 2 ^ 126
    small_sum z b many low high = omega (arith, int_sums)

-- the sums that an earlier panel has for later rows are narrow
pub panel_sums_small : RecurrenceLaws → (a : ℕ → ℕ → ℤ) (parents : List (Option ℕ)) (size d n q r : ℕ) (reached : List ℕ) (entries sums : List ℤ) → d < n → n ≤ q → r < 6 → Contains reached q → IsPanel a parents size d reached entries sums → Passes a parents size d → unsigned_abs (kept_for 6 reached sums q r) < 2 ^ 120
panel_sums_small laws a parents size d n q r reached entries sums lt le rl reaches panel passes =
    let bounds = All-contains (λ (x : ℕ). (d ≤ x) × (x < size)) reached q panel.from_own reaches in
    let in' = bounds.1 in
    let is = panel.squares_are q r (omega arith) in' rl in
    let low = laws.subtrees.nonnegative a parents d (6 * q + r) in
    let high = passes.narrow (6 * q + r) (omega arith, omega arith) in
    rw is (omega (arith, int_sums))
