-- What the value of a front says of its node.
use Rattle.std.proofs.Common.{◌≡◌, ℕ, zero, suc, ◌+◌, ◌*◌, ◌/◌, ◌%◌, ◌^◌, ◌<◌, ◌≤◌, ◌⊎◌, inl, inr, Bool, true, false, cond, eqb, List, Option, Some, None, ◌∙◌, sym, ap, ap₂, refl, arith, subst, ℤ, pos, ◌≤ℤ◌, ◌<ℤ◌, unsigned_abs}
use Rattle.std.specs.Prelude.{◌||◌, ◌&&◌, nat_le, int_le, int_lt, is_some, length, slice_index, option_map, option_and_then, Result, Ok, Err}
use Rattle.std.specs.Option.{option_map_or, option_or}
use Rattle.std.proofs.lemmas.Bool.{cases_lt, cases_eq, false≢true, leb-true, le-leb, eq-eqb, ne_eqb}
use Rattle.std.proofs.lemmas.Int.{ints}
use Rattle.int_laws.specs.Matrices.{Entries}
use Rattle.lists.specs.Results.{unless}
use Rattle.lists.specs.Search.{any_below, first_below, IsFirst}
use Rattle.lists.proofs.SearchLemmas.{Finds, first_below-finds, any_below-here, any_below-some}
use Rattle.elimination.specs.Elimination.{parent_of, met_from, is_in_subtree}
use Rattle.cholesky_laws.specs.Recurrence.{cholesky, pivot}
use Rattle.cholesky_laws.specs.Breakdown.{squares, Passes, BreaksAtPivot, BreaksWide}
use Rattle.cholesky_laws.specs.Factor.{Breakdown, low, too_wide, low_pivot, has_large_entry, has_wide_row, node_fails}
use Rattle.cholesky_laws.specs.Fronts.{Front, Eliminated, Update, parents_of, matrix_of, front_columns, front_update, front_value, fails_in_subtree, breakdown_of, SubtreePasses}

-- ---- tests
or-parts : (x y : Bool) → (x || y) ≡ false → (x ≡ false) × (y ≡ false)
or-parts true y e = absurd (false≢true (sym e))
or-parts false y e = (refl, e)

and-parts : (x y : Bool) → (x && y) ≡ true → (x ≡ true) × (y ≡ true)
and-parts true y e = (refl, e)
and-parts false y e = absurd (false≢true e)

and-true : (x y : Bool) → x ≡ true → (x && y) ≡ y
and-true x y e = ap (λ t. t && y) e

not_low : (p : ℤ) → (int_lt p (pos 1) ≡ true → ⊥) → pos 1 ≤ℤ p
not_low p h = elim (by (int_lt p (pos 1)) refl) [ inl e ↦ absurd (h e) | inr e ↦ omega (arith, ints, e) ]
  where
    by : (t : Bool) → int_lt p (pos 1) ≡ t → (int_lt p (pos 1) ≡ true) ⊎ (int_lt p (pos 1) ≡ false)
    by true e = inl e
    by false e = inr e

is_low : (p : ℤ) → int_lt p (pos 1) ≡ true → p <ℤ pos 1
is_low p e = omega (arith, ints, e)

is_wide : (z : ℤ) → int_le (pos (2 ^ 113)) z ≡ true → pos (2 ^ 113) ≤ℤ z
is_wide z e = omega (arith, ints, e)

not_wide : (z : ℤ) → (int_le (pos (2 ^ 113)) z ≡ true → ⊥) → z <ℤ pos (2 ^ 113)
not_wide z h = elim (by (int_le (pos (2 ^ 113)) z) refl) [ inl e ↦ absurd (h e) | inr e ↦ omega (arith, ints, e) ]
  where
    by : (t : Bool) → int_le (pos (2 ^ 113)) z ≡ t → (int_le (pos (2 ^ 113)) z ≡ true) ⊎ (int_le (pos (2 ^ 113)) z ≡ false)
    by true e = inl e
    by false e = inr e

cases_bool : (t : Bool) → (t ≡ true) ⊎ (t ≡ false)
cases_bool true = inl refl
cases_bool false = inr refl

-- ---- pivots
pivots-pass : (a : Entries) (n : ℕ) → low_pivot a n ≡ None → (j : ℕ) → (6 * n ≤ j) × (j < 6 * n + 6) → pos 1 ≤ℤ pivot a j
pivots-pass a n none j (from, to) =
    let test = λ (freedom : ℕ). int_lt (pivot a (6 * n + freedom)) (pos 1) in
    let finds = subst (λ (o : Option ℕ). Finds 6 test o) none (first_below-finds 6 test) in
    let at : 6 * n + j % 6 ≡ j = omega arith in
    subst (λ (x : ℕ). pos 1 ≤ℤ pivot a x) at (not_low (pivot a (6 * n + j % 6)) (finds (j % 6) (omega arith)))

none-some : (o : Option ℕ) → is_some o ≡ false → o ≡ None
none-some None e = refl
none-some (Some k) e = absurd (false≢true (sym e))

-- a node that does not fail passes
pub passes : (a : Entries) (parents : List (Option ℕ)) (size n : ℕ) → node_fails a parents size n ≡ false → Passes a parents size n
passes a parents size n ok =
    let (no_low, rest) = or-parts (is_some (low_pivot a n)) (has_large_entry a size n || has_wide_row a parents size n) ok in
    let (large, wide) = or-parts (has_large_entry a size n) (has_wide_row a parents size n) rest in
    record {
      pivots = pivots-pass a n (none-some (low_pivot a n) no_low);
      small = λ i j il (from, to).
          elim (cases_lt (unsigned_abs (cholesky a i j)) (2 ^ 57)) [
            | inl small ↦ small
            | inr ge ↦
                let at : 6 * n + j % 6 ≡ j = omega arith in
                let here : nat_le (2 ^ 57) (unsigned_abs (cholesky a i (6 * n + j % 6))) ≡ true = le-leb (2 ^ 57) (unsigned_abs (cholesky a i (6 * n + j % 6))) (subst (λ (x : ℕ). 2 ^ 57 ≤ unsigned_abs (cholesky a i x)) (sym at) ge) in
                absurd (false≢true (sym large
                ∙ any_below-here (6 * size) (λ i. any_below 6 (λ freedom. nat_le (2 ^ 57) (unsigned_abs (cholesky a i (6 * n + freedom))))) i il
                (any_below-here 6 (λ freedom. nat_le (2 ^ 57) (unsigned_abs (cholesky a i (6 * n + freedom)))) (j % 6) (omega arith) here)))
          ];
      narrow = λ i (from, to).
          not_wide (squares a parents n i) (λ e.
          absurd (false≢true (sym wide
          ∙ any_below-here (6 * size) (λ i. nat_le (6 * n + 6) i && int_le (pos (2 ^ 113)) (squares a parents n i)) i to
          (and-true (nat_le (6 * n + 6) i) (int_le (pos (2 ^ 113)) (squares a parents n i)) (le-leb (6 * n + 6) i from) ∙ e))));
    }

-- a low pivot is the first breakdown where the nodes before pass
pub breaks-pivot : (a : Entries) (parents : List (Option ℕ)) (size n dof : ℕ) → n < size → ((m : ℕ) → m < n → Passes a parents size m) → low_pivot a n ≡ Some dof → (dof < 6) × BreaksAtPivot a parents size (6 * n + dof)
breaks-pivot a parents size n dof nl before is =
    let test = λ (freedom : ℕ). int_lt (pivot a (6 * n + freedom)) (pos 1) in
    let finds = subst (λ (o : Option ℕ). Finds 6 test o) is (first_below-finds 6 test) in
    let inside = finds.in_range in (
      inside,
      record {
        column = omega (arith, nl, inside);
        nodes_before = λ m lt. before m (omega (arith, lt, inside));
        pivots_before = λ k from lt.
            let at : 6 * n + k % 6 ≡ k = omega (arith, from, lt, inside) in
            subst (λ (x : ℕ). pos 1 ≤ℤ pivot a x) at (not_low (pivot a (6 * n + k % 6)) (finds.before (k % 6) (omega (arith, from, lt, inside))));
        breaks = is_low (pivot a (6 * n + dof)) finds.here;
      },
    )

pub breaks-wide : (a : Entries) (parents : List (Option ℕ)) (size n : ℕ) → n < size → ((m : ℕ) → m < n → Passes a parents size m) → low_pivot a n ≡ None → node_fails a parents size n ≡ true → BreaksWide a parents size n
breaks-wide a parents size n nl before none fails =
    let rest : (has_large_entry a size n || has_wide_row a parents size n) ≡ true = sym (ap (λ (o : Option ℕ). is_some o || (has_large_entry a size n || has_wide_row a parents size n)) none) ∙ fails in
    record {
      node = nl;
      nodes_before = before;
      pivots = pivots-pass a n none;
      wide =
          elim (cases_bool (has_large_entry a size n)) [
            | inl large ↦
                let (i, il, some) = any_below-some (6 * size) (λ i. any_below 6 (λ freedom. nat_le (2 ^ 57) (unsigned_abs (cholesky a i (6 * n + freedom))))) large in
                let (c, cl, here) = any_below-some 6 (λ freedom. nat_le (2 ^ 57) (unsigned_abs (cholesky a i (6 * n + freedom)))) some in
                inl (i, 6 * n + c, il, (omega arith, omega arith), leb-true (2 ^ 57) (unsigned_abs (cholesky a i (6 * n + c))) here)
            | inr small ↦
                let wide : has_wide_row a parents size n ≡ true = sym (ap (λ t. t || has_wide_row a parents size n) small) ∙ rest in
                let (i, il, both) = any_below-some (6 * size) (λ i. nat_le (6 * n + 6) i && int_le (pos (2 ^ 113)) (squares a parents n i)) wide in
                let (from, here) = and-parts (nat_le (6 * n + 6) i) (int_le (pos (2 ^ 113)) (squares a parents n i)) both in
                inr (i, (leb-true (6 * n + 6) i from, il), is_wide (squares a parents n i) here)
          ];
    }

-- ---- a node is in its own subtree
met-late : (parents : List (Option ℕ)) (u m : ℕ) → u ≤ m → met_from parents u m ≡ Some m
met-late parents zero m le = refl
met-late parents (suc u) m le =
    ap (λ o. option_and_then (λ v. cond (eqb v u) (parent_of parents u) (Some v)) o) (met-late parents u m (omega arith))
    ∙ ap (λ t. cond t (parent_of parents u) (Some m)) (ne_eqb m u (λ e. omega arith))

in_own : (parents : List (Option ℕ)) (n : ℕ) → is_in_subtree parents n n ≡ true
in_own parents n = ap (λ o. option_map_or (λ v. eqb v n) o false) (met-late parents n n (omega arith)) ∙ eq-eqb n n refl

-- ---- the value of a front
module _ (base : List Front) where
  abbrev fails : ℕ → Bool
  fails n = node_fails (matrix_of base) (parents_of base) (length base) n

  own-test : (f : ℕ) → fails_in_subtree base f f ≡ fails f
  own-test f = and-true (is_in_subtree (parents_of base) f f) (fails f) (in_own (parents_of base) f)

  no-test : (n f : ℕ) → ((m : ℕ) → m < n → fails m ≡ false) → first_below n (fails_in_subtree base f) ≡ None
  no-test n f ok = at (first_below n (fails_in_subtree base f)) refl (first_below-finds n (fails_in_subtree base f))
    where
      at : (o : Option ℕ) → first_below n (fails_in_subtree base f) ≡ o → Finds n (fails_in_subtree base f) o → first_below n (fails_in_subtree base f) ≡ None
      at None e finds = e
      at (Some k) e finds = absurd (false≢true (sym (ok k finds.in_range) ∙ (and-parts (is_in_subtree (parents_of base) f k) (fails k) finds.here).1))

  -- nothing fails before a front: its value is decided by its own node
  first-is : (f : ℕ) → ((m : ℕ) → m < f → fails m ≡ false) → first_below (suc f) (fails_in_subtree base f) ≡ cond (fails f) (Some f) None
  first-is f ok = ap₂ (λ (o : Option ℕ) (t : Bool). option_or o (cond t (Some f) None)) (no-test f f ok) (own-test f)

  -- a front whose subtree passes does not fail itself
  pub passing-self : (f : ℕ) → SubtreePasses base f → fails f ≡ false
  passing-self f passes =
      elim (cases_bool (fails f)) [
        | inl yes' ↦
            (let finds = subst (λ (o : Option ℕ). Finds (suc f) (fails_in_subtree base f) o) passes (first_below-finds (suc f) (fails_in_subtree base f)) in
            absurd (finds f (omega arith) (own-test f ∙ yes')))
        | inr no' ↦ no'
      ]

  abbrev good : ℕ → Eliminated
  good f = record { columns = front_columns base f; update = front_update base f }

  value-is : (f : ℕ) → ((m : ℕ) → m < f → fails m ≡ false) → (t : Bool) → fails f ≡ t → front_value base f ≡ unless (option_map (breakdown_of (matrix_of base)) (cond t (Some f) None)) (good f)
  value-is f ok t e = ap (λ (o : Option ℕ). unless (option_map (breakdown_of (matrix_of base)) o) (good f)) (first-is f ok ∙ ap (λ (u : Bool). cond u (Some f) None) e)

  pub value-ok : (f : ℕ) → ((m : ℕ) → m < f → fails m ≡ false) → (e : Eliminated) → Ok e ≡ front_value base f → (e ≡ good f) × SubtreePasses base f
  value-ok f ok e is =
      elim (cases_bool (fails f)) [
        | inl bad ↦ (let no' = is ∙ value-is f ok true bad in cc)
        | inr fine ↦ (let same = is ∙ value-is f ok false fine in (cc, first-is f ok ∙ ap (λ (u : Bool). cond u (Some f) None) fine))
      ]

  pub value-err : (f : ℕ) → ((m : ℕ) → m < f → fails m ≡ false) → (b : Breakdown) → Err b ≡ front_value base f → (fails f ≡ true) × (b ≡ breakdown_of (matrix_of base) f)
  value-err f ok b is =
      elim (cases_bool (fails f)) [
        | inl bad ↦ (let same = is ∙ value-is f ok true bad in (bad, cc))
        | inr fine ↦ (let no' = is ∙ value-is f ok false fine in cc)
      ]

-- the names of a breakdown
pub low-names : (a : Entries) (n front dof : ℕ) → low front dof ≡ breakdown_of a n → (front ≡ n) × (low_pivot a n ≡ Some dof)
low-names a n front dof is = at (low_pivot a n) refl
  where
    at : (o : Option ℕ) → low_pivot a n ≡ o → (front ≡ n) × (low_pivot a n ≡ Some dof)
    at (Some d) e = (let same : low front dof ≡ low n d = is ∙ ap (λ (o : Option ℕ). option_map_or (low n) o (too_wide n)) e in (cc, cc))
    at None e = (let no' : low front dof ≡ too_wide n = is ∙ ap (λ (o : Option ℕ). option_map_or (low n) o (too_wide n)) e in cc)

pub wide-names : (a : Entries) (n front : ℕ) → too_wide front ≡ breakdown_of a n → (front ≡ n) × (low_pivot a n ≡ None)
wide-names a n front is = at (low_pivot a n) refl
  where
    at : (o : Option ℕ) → low_pivot a n ≡ o → (front ≡ n) × (low_pivot a n ≡ None)
    at (Some d) e = (let no' : too_wide front ≡ low n d = is ∙ ap (λ (o : Option ℕ). option_map_or (low n) o (too_wide n)) e in cc)
    at None e = (let same : too_wide front ≡ too_wide n = is ∙ ap (λ (o : Option ℕ). option_map_or (low n) o (too_wide n)) e in (cc, e))
