-- The steps of the two substitutions.
use Rattle.std.specs.Prelude.{slice_set}
use Rattle.std.proofs.Common.{◌≡◌, ◌≢◌, ℕ, ◌+◌, ◌<◌, ◌≤◌, ◌⊎◌, inl, inr, List, length, get_or, refl, sym, ◌∙◌, ap, subst, add-one, arith, ◌^◌, ℤ, pos, ◌+ℤ◌, ◌-ℤ◌, ◌*ℤ◌, ◌≤ℤ◌, ◌<ℤ◌, get_or-set_same, get_or-set_other}
use Rattle.std.proofs.Math.ListN.{length-set}
use Rattle.int_laws.specs.Sums.{sum_below}
use Rattle.int_laws.proofs.Sums.{int_sums}
use Rattle.int_laws.proofs.SumLaws.{sum_below-same}
use Rattle.int_laws.specs.Division.{nearest_of}
use Rattle.lists.specs.Order.{IsSpread}
use Rattle.factor_data.specs.Columns.{column_entry}
use Rattle.flex_num.specs.declared.guarded.GuardedSum.{GuardedSum}
use Rattle.solve.specs.Substitution.{at, Numerator, IsQuotient, forward_numerator, forward_size, IsForwardBelow, IsForward, ForwardBreaks, backward_numerator, IsBackwardFrom}
use Rattle.int_laws.specs.Matrices.{Entries, Vector, absolute}
use Rattle.solve.specs.Numerators.{taken_size, past, TakesColumn, IsNumeratorBroad, taken_part}
use Rattle.flex_num.specs.Guarded.{zero_sum, value_at, size_at}
use Rattle.solve.proofs.ColumnsTaken.{past-before}
use Rattle.solve.proofs.Entries.{taken-whole, taken_size-whole}

same_or_less : (k j : ℕ) → k < j + 1 → (k ≡ j) ⊎ (k < j)
same_or_less k j h = search arith

at-set_here : (xs : List ℤ) (j : ℕ) (x : ℤ) → j < length xs → at (slice_set xs j x) j ≡ x
at-set_here xs j x inside = get_or-set_same xs j x (pos 0) inside

pub at-set_other : (xs : List ℤ) (j k : ℕ) (x : ℤ) → k ≢ j → at (slice_set xs j x) k ≡ at xs k
at-set_other xs j k x apart = rw get_or-set_other

quotient-same : (m n : Numerator) (d x y : ℤ) → m.value ≡ n.value → m.size ≡ n.size → x ≡ y → IsQuotient m d x → IsQuotient n d y
quotient-same m n d x y value size same q =
    record {
      narrow = subst (λ (z : ℤ). z <ℤ pos (2 ^ 126)) size q.narrow;
      value = sym same ∙ q.value ∙ ap (λ (z : ℤ). nearest_of z d) value;
    }

-- what stands when the columns before j are done
pub record IsForwardState (n : ℕ) (g : Entries) (r : Vector) (left : List GuardedSum) (y : List ℤ) (j : ℕ) : Type 0 where
  pub one_unknown_each : length y ≡ n
  pub one_numerator_each : length left ≡ n
  pub solved : IsForwardBelow g r y j
  pub value : (i : ℕ) → j ≤ i → i < n → value_at left i ≡ r i -ℤ sum_below j (λ k. g i k *ℤ at y k)
  pub size : (i : ℕ) → j ≤ i → i < n → pos (size_at left i) ≡ forward_size g r y j i

-- an unknown at j changes nothing before it
sum-set : (j m : ℕ) (term : ℕ → ℤ → ℤ) (y : List ℤ) (x : ℤ) → m ≤ j → sum_below m (λ k. term k (at y k)) ≡ sum_below m (λ k. term k (at (slice_set y j x) k))
sum-set j m term y x below =
    sum_below-same m (λ k. term k (at y k)) (λ k. term k (at (slice_set y j x) k)) (λ k h. ap (term k) (sym (at-set_other y j k x (λ e. absurd (omega arith)))))

forward-solved : (n : ℕ) (g : Entries) (r : Vector) (left : List GuardedSum) (y : List ℤ) (j : ℕ) (x : ℤ) → j < n →
    IsForwardState n g r left y j → x ≡ nearest_of (value_at left j) (g j j) → IsForwardBelow g r (slice_set y j x) (j + 1)
forward-solved n g r left y j x inside state is k below = elim (same_or_less k j below) [
  | inl here ↦
      let value : value_at left j ≡ r j -ℤ sum_below j (λ k. g j k *ℤ at (slice_set y j x) k) =
      state.value j (omega arith) inside ∙ ap (λ (z : ℤ). r j -ℤ z) (sum-set j j (λ k z. g j k *ℤ z) y x (omega arith)) in
      let size : pos (size_at left j) ≡ absolute (r j) +ℤ sum_below j (λ k. absolute (g j k *ℤ at (slice_set y j x) k)) =
      state.size j (omega arith) inside ∙ ap (λ (z : ℤ). absolute (r j) +ℤ z) (sum-set j j (λ k z. absolute (g j k *ℤ z)) y x (omega arith)) in
      let small = (get_or left j zero_sum).narrow in
      let at_j : IsQuotient (forward_numerator g r (slice_set y j x) j) (g j j) (at (slice_set y j x) j) =
      record {
        narrow = subst (λ (z : ℤ). z <ℤ pos (2 ^ 126)) size (omega (arith, int_sums, small));
        value = at-set_here y j x (omega (arith, state.one_unknown_each)) ∙ is ∙ ap (λ (z : ℤ). nearest_of z (g j j)) value;
      } in
      subst (λ (m : ℕ). IsQuotient (forward_numerator g r (slice_set y j x) m) (g m m) (at (slice_set y j x) m)) (sym here) at_j
  | inr less ↦
      quotient-same (forward_numerator g r y k) (forward_numerator g r (slice_set y j x) k) (g k k) (at y k) (at (slice_set y j x) k)
      (ap (λ (z : ℤ). r k -ℤ z) (sum-set j k (λ m z. g k m *ℤ z) y x (omega arith)))
      (ap (λ (z : ℤ). absolute (r k) +ℤ z) (sum-set j k (λ m z. absolute (g k m *ℤ z)) y x (omega arith)))
      (sym (at-set_other y j k x (λ e. absurd (omega arith)))) (state.solved k less)
]

-- one column more
pub forward-step : (n : ℕ) (g : Entries) (r : Vector) (left next : List GuardedSum) (y : List ℤ) (j : ℕ) (x : ℤ) (rows : List ℕ) (values : List ℤ) → j < n →
    IsForwardState n g r left y j → x ≡ nearest_of (value_at left j) (g j j) → IsSpread rows n → ((i : ℕ) → g i j ≡ column_entry rows values i) →
    TakesColumn left next rows values j x (length rows) → IsForwardState n g r next (slice_set y j x) (j + 1)
forward-step n g r left next y j x rows values inside state is spread column takes =
    record {
      one_unknown_each = length-set y j x ∙ state.one_unknown_each;
      one_numerator_each = takes.length_kept ∙ state.one_numerator_each;
      solved = forward-solved n g r left y j x inside state is;
      value = λ i after below.
          let was = state.value i (omega arith) below in
          let same = sum-set j j (λ k z. g i k *ℤ z) y x (omega arith) in
          let now = takes.value i (omega arith) (omega (arith, state.one_numerator_each)) in
          let part : taken_part rows values x (length rows) i ≡ g i j *ℤ at (slice_set y j x) j =
          taken-whole rows values n i x spread ∙ ap (λ (z : ℤ). z *ℤ x) (sym (column i)) ∙ ap (λ (z : ℤ). g i j *ℤ z) (sym (at-set_here y j x (omega (arith, state.one_unknown_each)))) in
          rw (add-one j) (omega (arith, int_sums, was, same, now, part));
      size = λ i after below.
          let was = state.size i (omega arith) below in
          let same = sum-set j j (λ k z. absolute (g i k *ℤ z)) y x (omega arith) in
          let now = takes.size i (omega arith) (omega (arith, state.one_numerator_each)) in
          let part : taken_size rows values x (length rows) i ≡ absolute (g i j *ℤ at (slice_set y j x) j) =
          taken_size-whole rows values n i x spread ∙ ap (λ (z : ℤ). absolute (z *ℤ x)) (sym (column i)) ∙ ap (λ (z : ℤ). absolute (g i j *ℤ z)) (sym (at-set_here y j x (omega (arith, state.one_unknown_each)))) in
          rw (add-one j) (omega (arith, int_sums, was, same, now, part));
    }

-- a column that would make a numerator too broad
pub forward-breaks : (n : ℕ) (g : Entries) (r : Vector) (left : List GuardedSum) (y : List ℤ) (j : ℕ) (x : ℤ) (rows : List ℕ) (values : List ℤ) → j < n →
    IsForwardState n g r left y j → x ≡ nearest_of (value_at left j) (g j j) → IsSpread rows n → ((i : ℕ) → g i j ≡ column_entry rows values i) →
    IsNumeratorBroad left rows values j x → ForwardBreaks n g r
forward-breaks n g r left y j x rows values inside state is spread column beyond =
    let i = beyond.row in
    let below : i < n = omega (arith, beyond.inside, state.one_numerator_each) in
    let was = state.size i (omega (arith, beyond.past)) below in
    let same = sum-set j j (λ k z. absolute (g i k *ℤ z)) y x (omega arith) in
    let part : taken_size rows values x (length rows) i ≡ absolute (g i j *ℤ at (slice_set y j x) j) =
    taken_size-whole rows values n i x spread ∙ ap (λ (z : ℤ). absolute (z *ℤ x)) (sym (column i)) ∙ ap (λ (z : ℤ). absolute (g i j *ℤ z)) (sym (at-set_here y j x (omega (arith, state.one_unknown_each)))) in
    record {
      y = slice_set y j x;
      known = j + 1;
      position = i;
      solved_before = forward-solved n g r left y j x inside state is;
      not_past = omega (arith, beyond.past);
      inside = below;
      broad = rw (add-one j) (omega (arith, int_sums, was, same, part, beyond.broad));
    }

-- ---- from the last column to the first
quotient_sum-set : (n j k : ℕ) (term : ℕ → ℤ → ℤ) (z : List ℤ) (x : ℤ) → j ≤ k →
    sum_below n (λ i. past k i (term i (at z i))) ≡ sum_below n (λ i. past k i (term i (at (slice_set z j x) i)))
quotient_sum-set n j k term z x before = sum_below-same n (λ i. past k i (term i (at z i))) (λ i. past k i (term i (at (slice_set z j x) i))) (λ i _. same i)
  where
    same : (i : ℕ) → past k i (term i (at z i)) ≡ past k i (term i (at (slice_set z j x) i))
    same i =
        let side : (k < i) ⊎ (i ≤ k) = search arith in
        elim side [
          | inl after ↦ ap (λ (v : ℤ). past k i (term i v)) (sym (at-set_other z j i x (λ e. absurd (omega arith))))
          | inr not_past ↦ past-before k i (term i (at z i)) not_past ∙ sym (past-before k i (term i (at (slice_set z j x) i)) not_past)
        ]

-- one unknown more, where those after it are solved
pub backward-step : (n : ℕ) (g : Entries) (s : Vector) (z : List ℤ) (j : ℕ) (x value : ℤ) (size : ℕ) → j < n → length z ≡ n →
    IsBackwardFrom n g s z (j + 1) → size < 2 ^ 126 →
    value ≡ s j -ℤ sum_below n (λ i. past j i (g i j *ℤ at z i)) → pos size ≡ absolute (s j) +ℤ sum_below n (λ i. past j i (absolute (g i j *ℤ at z i))) →
    x ≡ nearest_of value (g j j) → IsBackwardFrom n g s (slice_set z j x) j
backward-step n g s z j x value size inside one_each after small value_is size_is is k not_before below = elim (cases k not_before) [
  | inl here ↦
      let sum = value_is ∙ ap (λ (v : ℤ). s j -ℤ v) (quotient_sum-set n j j (λ i v. g i j *ℤ v) z x (omega arith)) in
      let sizes = size_is ∙ ap (λ (v : ℤ). absolute (s j) +ℤ v) (quotient_sum-set n j j (λ i v. absolute (g i j *ℤ v)) z x (omega arith)) in
      let at_j : IsQuotient (backward_numerator n g s (slice_set z j x) j) (g j j) (at (slice_set z j x) j) =
      record {
        narrow = subst (λ (v : ℤ). v <ℤ pos (2 ^ 126)) sizes (omega (arith, int_sums, small));
        value = at-set_here z j x (omega (arith, one_each)) ∙ is ∙ ap (λ (v : ℤ). nearest_of v (g j j)) sum;
      } in
      subst (λ (m : ℕ). IsQuotient (backward_numerator n g s (slice_set z j x) m) (g m m) (at (slice_set z j x) m)) here at_j
  | inr later ↦
      quotient-same (backward_numerator n g s z k) (backward_numerator n g s (slice_set z j x) k) (g k k) (at z k) (at (slice_set z j x) k)
      (ap (λ (v : ℤ). s k -ℤ v) (quotient_sum-set n j k (λ i v. g i k *ℤ v) z x not_before))
      (ap (λ (v : ℤ). absolute (s k) +ℤ v) (quotient_sum-set n j k (λ i v. absolute (g i k *ℤ v)) z x not_before))
      (sym (at-set_other z j k x (λ e. absurd (omega arith)))) (after k (omega arith) below)
]
  where
    cases : (k : ℕ) → j ≤ k → (j ≡ k) ⊎ (j < k)
    cases k h = search arith

-- ---- a right side by other words
forward_below-sides : (n : ℕ) (g : Entries) (r s : Vector) (y : List ℤ) (j : ℕ) → j ≤ n → ((k : ℕ) → k < n → r k ≡ s k) → IsForwardBelow g r y j → IsForwardBelow g s y j
forward_below-sides n g r s y j inside same solved k below =
    quotient-same (forward_numerator g r y k) (forward_numerator g s y k) (g k k) (at y k) (at y k)
    (ap (λ (z : ℤ). z -ℤ sum_below k (λ i. g k i *ℤ at y i)) (same k (omega arith)))
    (ap (λ (z : ℤ). absolute z +ℤ sum_below k (λ i. absolute (g k i *ℤ at y i))) (same k (omega arith)))
    refl (solved k below)

pub forward-sides : (m n : ℕ) (g : Entries) (r s : Vector) (y : List ℤ) → m ≡ n → ((k : ℕ) → k < n → r k ≡ s k) → IsForward m g r y → IsForward n g s y
forward-sides m n g r s y size same solves =
    let here = subst (λ (k : ℕ). IsForward k g r y) size solves in
    record { one_each = here.one_each; solved = forward_below-sides n g r s y n (omega arith) same here.solved }

pub forward_breaks-sides : (m n : ℕ) (g : Entries) (r s : Vector) → m ≡ n → ((k : ℕ) → k < n → r k ≡ s k) → ForwardBreaks m g r → ForwardBreaks n g s
forward_breaks-sides m n g r s size same breaks =
    let here = subst (λ (k : ℕ). ForwardBreaks k g r) size breaks in
    let side = ap (λ (z : ℤ). absolute z +ℤ sum_below here.known (λ k. absolute (g here.position k *ℤ at here.y k))) (same here.position here.inside) in
    record {
      y = here.y;
      known = here.known;
      position = here.position;
      solved_before = forward_below-sides n g r s here.y here.known (omega (arith, here.not_past, here.inside)) same here.solved_before;
      not_past = here.not_past;
      inside = here.inside;
      broad = subst (λ (z : ℤ). pos (2 ^ 126) ≤ℤ z) side here.broad;
    }
