-- What is left for a node's rows, from one node of the row pattern to the next.
use Rattle.std.proofs.Common.{◌≡◌, ℕ, suc, ◌+◌, ◌*◌, ◌/◌, ◌%◌, ◌^◌, ◌<◌, ◌≤◌, cond, List, Option, length, get_or, Contains, All, ◌∙◌, sym, ap, arith, subst, inl, inr, ℤ, pos, ◌+ℤ◌, ◌-ℤ◌, ◌*ℤ◌, ◌<ℤ◌}
use Rattle.std.specs.Int.RustNames.{unsigned_abs}
use Rattle.std.proofs.lemmas.Bool.{cases_lt, ne_eqb}
use Rattle.std.proofs.lemmas.List.{get_or_default}
use Rattle.int_laws.specs.Sums.{sum_below}
use Rattle.int_laws.proofs.Sums.{int_sums}
use Rattle.int_laws.proofs.Products.{mul_comm, zero-mul}
use Rattle.int_laws.proofs.SumLaws.{sum_below-same, sum_below-zero, sum_below-split}
use Rattle.lists.specs.Rising.{IsRising}
use Rattle.lists.specs.Order.{place_of}
use Rattle.lists.proofs.PlaceLemmas.{place_of-at, place_of-absent, at_place_of}
use Rattle.sym_blocks.specs.Matrix.{Matrix, HasBlock, IsSymmetricByBlocks, entry as stiffness}
use Rattle.cholesky_laws.specs.Laws.{RecurrenceLaws}
use Rattle.cholesky_laws.specs.Recurrence.{cholesky, left_after, scaled_stiffness}
use Rattle.lists.specs.Rows.{freedom_at}
use Rattle.cholesky_laws.specs.Breakdown.{Passes, squares}
use Rattle.factor.specs.Panel.{IsPanel, kept_for}
use Rattle.factor.specs.Gather.{block_product}
use Rattle.factor.specs.Front.{IsScattered}
use Rattle.factor.specs.State.{shifted_matrix, IsFront, HoldsLeft}
use Rattle.factor.specs.declared.panel.Panel.{Panel}
use Rattle.factor.proofs.GatherLemmas.{kept_for-past}
use Rattle.factor.proofs.GapLemmas.{carried}

-- six more columns
left_six : (a : ℕ → ℕ → ℤ) (d i j : ℕ) → left_after a (6 * suc d) i j ≡ left_after a (6 * d) i j -ℤ sum_below 6 (λ c. cholesky a i (6 * d + c) *ℤ cholesky a j (6 * d + c))
unfolding left_after
left_six a d i j =
    let f = λ (k : ℕ). cholesky a i k *ℤ cholesky a j k in
    let at : 6 * d + 6 ≡ 6 * suc d = omega arith in
    let P : ℕ → Type 0 = λ x. sum_below x f ≡ sum_below (6 * d) f +ℤ sum_below 6 (λ c. f (6 * d + c)) in
    let split = subst P at (sum_below-split (6 * d) 6 f) in
    omega (arith, int_sums)

-- six columns that have nothing in row j
left_six_none : (a : ℕ → ℕ → ℤ) (d i j : ℕ) → ((c : ℕ) → c < 6 → cholesky a j (6 * d + c) ≡ pos 0) → left_after a (6 * suc d) i j ≡ left_after a (6 * d) i j
left_six_none a d i j none =
    let nothing = sum_below-zero 6 (λ c. cholesky a i (6 * d + c) *ℤ cholesky a j (6 * d + c))
    (λ c lt. ap (λ z. cholesky a i (6 * d + c) *ℤ z) (none c lt) ∙ mul_comm (cholesky a i (6 * d + c)) (pos 0) ∙ zero-mul (cholesky a i (6 * d + c)))
    in
    let six = left_six a d i j in
    omega (arith, int_sums)

-- the columns of node d have nothing in the rows of node n
abbrev pub HasNone : (ℕ → ℕ → ℤ) → ℕ → ℕ → Type 0
HasNone a n d = (r c : ℕ) → r < 6 → c < 6 → cholesky a (6 * n + r) (6 * d + c) ≡ pos 0

pub holds_over : (a : ℕ → ℕ → ℤ) (size n : ℕ) (nodes : List ℕ) (work : List ℤ) (b m : ℕ) → b ≤ m → ((d : ℕ) → b ≤ d → d < m → HasNone a n d) → HoldsLeft a size n nodes work b → HoldsLeft a size n nodes work m
holds_over a size n nodes work b m le none start =
    carried (λ x. HoldsLeft a size n nodes work x) b m le
    (λ d bd dm h q t nq qs tl.
    h q t nq qs tl ∙ sym (left_six_none a d (6 * q + t / 6) (6 * n + t % 6) (λ c cl. none d bd dm (t % 6) c (omega arith) cl)))
    start

-- the panel of a node of the row pattern is taken off
pub holds_next : (a : ℕ → ℕ → ℤ) (parents : List (Option ℕ)) (size n d : ℕ) (nodes reached : List ℕ) (old new entries sums : List ℤ) → d < n → n < size → IsPanel a parents size d reached entries sums → HoldsLeft a size n nodes old d → ((q t : ℕ) → n ≤ q → t < 36 → kept_for 36 nodes new q t ≡ kept_for 36 nodes old q t -ℤ block_product reached entries n q t) → HoldsLeft a size n nodes new (suc d)
holds_next a parents size n d nodes reached old new entries sums lt in' panel holds taken q t nq qs tl =
    let products : block_product reached entries n q t ≡ sum_below 6 (λ c. cholesky a (6 * q + t / 6) (6 * d + c) *ℤ cholesky a (6 * n + t % 6) (6 * d + c)) =
    sum_below-same 6 _ _ (λ c cl.
    ap (λ z. z *ℤ kept_for 36 reached entries n (6 * (t % 6) + c)) (panel.entry q (t / 6) c (omega arith) qs (omega arith) cl)
    ∙ ap (λ z. cholesky a (6 * q + t / 6) (6 * d + c) *ℤ z) (panel.entry n (t % 6) c (omega arith) in' (omega arith) cl))
    in
    taken q t nq tl
    ∙ ap (λ z. z -ℤ block_product reached entries n q t) (holds q t nq qs tl)
    ∙ ap (λ z. left_after a (6 * d) (6 * q + t / 6) (6 * n + t % 6) -ℤ z) products
    ∙ sym (left_six a d (6 * q + t / 6) (6 * n + t % 6))

-- a node before that is not in the row pattern has nothing there
pub none_outside_row_pattern : (a : ℕ → ℕ → ℤ) (parents : List (Option ℕ)) (size n d : ℕ) (reached : List ℕ) (entries sums : List ℤ) → d < n → n < size → IsPanel a parents size d reached entries sums → (Contains reached n → ⊥) → HasNone a n d
none_outside_row_pattern a parents size n d reached entries sums lt in' panel absent r c rl cl =
    sym (panel.entry n r c (omega arith) in' rl cl)
    ∙ kept_for-past 36 reached entries n (6 * r + c) (omega (arith, panel.whole)) (omega (arith, place_of-absent reached n absent))

-- outside the pattern a scaled stiffness is 0
outside_none : (k : Matrix) (order : List ℕ) (shift : ℤ) (q n r c : ℕ) → IsSymmetricByBlocks k → r < 6 → c < 6 → (q ≡ n → ⊥) → (HasBlock k (get_or order q 0) (get_or order n 0) → ⊥) → shifted_matrix k order shift (6 * q + r) (6 * n + c) ≡ pos 0
unfolding scaled_stiffness
outside_none k order shift q n r c kept rl cl apart absent =
    let i = 6 * q + r in
    let j = 6 * n + c in
    let at-i : i / 6 ≡ q = omega arith in
    let at-j : j / 6 ≡ n = omega arith in
    let node-i : freedom_at order i / 6 ≡ get_or order q 0 = (let e = ap (λ (x : ℕ). get_or order x 0) at-i in omega (arith, e)) in
    let node-j : freedom_at order j / 6 ≡ get_or order n 0 = (let e = ap (λ (x : ℕ). get_or order x 0) at-j in omega (arith, e)) in
    let none : stiffness k (freedom_at order i) (freedom_at order j) ≡ pos 0 =
    kept.outside (freedom_at order i) (freedom_at order j)
    (λ h. absent (subst (λ (x : ℕ). HasBlock k x (get_or order n 0)) node-i (subst (λ (x : ℕ). HasBlock k (freedom_at order i / 6) x) node-j h)))
    in
    ap (λ t. pos (2 ^ 52) *ℤ (stiffness k (freedom_at order i) (freedom_at order j) -ℤ cond t shift (pos 0))) (ne_eqb i j (λ e. apart (omega arith)))
    ∙ ap (λ z. pos (2 ^ 52) *ℤ (z -ℤ pos 0)) none

-- the entries that are scattered are those of the matrix
pub scattered_holds : RecurrenceLaws → (k : Matrix) (order : List ℕ) (parents : List (Option ℕ)) (shift : ℤ) (panels : List Panel) (row_pattern nodes : List ℕ) (n : ℕ) (work : List ℤ) → n < length order → IsFront k order parents panels row_pattern n nodes → IsScattered (shifted_matrix k order shift) nodes n work → HoldsLeft (shifted_matrix k order shift) (length order) n nodes work 0
scattered_holds laws k order parents shift panels row_pattern nodes n work in' front scattered q t nq qs tl =
    let a = shifted_matrix k order shift in
    let p = place_of q nodes in
    elim (cases_lt p (length nodes)) [
      | inl lt ↦
          (let s = 36 * p + t in
          let e1 : s / 36 ≡ p = omega arith in
          let e2 : s % 36 / 6 ≡ t / 6 = omega arith in
          let e3 : s % 6 ≡ t % 6 = omega arith in
          let node : get_or nodes (s / 36) 0 ≡ q = ap (λ (x : ℕ). get_or nodes x 0) e1 ∙ at_place_of nodes q lt in
          scattered.value s (omega arith)
          ∙ ap (λ (x : ℕ). a (6 * x + s % 36 / 6) (6 * n + s % 6)) node
          ∙ ap (λ (x : ℕ). a (6 * q + x) (6 * n + s % 6)) e2
          ∙ ap (λ (x : ℕ). a (6 * q + t / 6) (6 * n + x)) e3
          ∙ sym (laws.remainders.start a (6 * q + t / 6) (6 * n + t % 6)))
      | inr ge ↦
          let missing : Contains nodes q → ⊥ =
          λ (v, vl, is).
          let at : get_or nodes v 0 ≡ q = get_or_default nodes v 0 q vl ∙ is in
          let place : place_of q nodes ≡ v = ap (λ (x : ℕ). place_of x nodes) (sym at) ∙ place_of-at nodes v front.rising vl in
          omega arith
          in
          let apart : q ≡ n → ⊥ = λ e. missing (subst (λ (x : ℕ). Contains nodes x) (sym e) front.own) in
          kept_for-past 36 nodes work q t (omega (arith, scattered.whole)) ge
          ∙ sym (outside_none k order shift q n (t / 6) (t % 6) front.kept (omega arith) (omega arith) apart
          (λ h. missing (front.matrix q (let differ = apart in omega arith) qs (front.kept.converse (get_or order q 0) (get_or order n 0) h))))
          ∙ sym (laws.remainders.start a (6 * q + t / 6) (6 * n + t % 6))
    ]

-- the numbers left are small
pub left_small : RecurrenceLaws → (a : ℕ → ℕ → ℤ) (parents : List (Option ℕ)) (size n m : ℕ) (nodes : List ℕ) (work : List ℤ) → size ≤ 8000 → m ≤ n → n < size → ((i j : ℕ) → unsigned_abs (a i j) < 2 ^ 113) → ((d : ℕ) → d < n → Passes a parents size d) → IsRising nodes → All (λ q. (n ≤ q) × (q < size)) nodes → length work ≡ 36 * length nodes → HoldsLeft a size n nodes work m → All (λ x. unsigned_abs x < 2 ^ 126) work
left_small laws a parents size n m nodes work few le in' small passes up within whole holds s d lt =
    let p = s / 36 in
    let t = s % 36 in
    let p-in : p < length nodes = omega (arith, whole) in
    let q = get_or nodes p 0 in
    let bounds = within p 0 p-in in
    let at : 36 * place_of q nodes + t ≡ s = (let place = place_of-at nodes p up p-in in omega arith) in
    let is : get_or work s d ≡ left_after a (6 * m) (6 * q + t / 6) (6 * n + t % 6) =
    get_or_default work s d (pos 0) lt ∙ ap (λ (x : ℕ). get_or work x (pos 0)) (sym at) ∙ holds q t bounds.0 bounds.1 (omega arith)
    in
    let narrow : (x r : ℕ) → n ≤ x → x < size → r < 6 → (d : ℕ) → d < m → squares a parents d (6 * x + r) <ℤ pos (2 ^ 113) =
    λ x r nx xs rl e el. (passes e (omega arith)).narrow (6 * x + r) (omega arith, omega arith)
    in
    rw is
    (laws.sizes.left a parents m (6 * q + t / 6) (6 * n + t % 6) (omega arith) (small (6 * q + t / 6) (6 * n + t % 6))
    (narrow q (t / 6) bounds.0 bounds.1 (omega arith)) (narrow n (t % 6) (omega arith) in' (omega arith)))
