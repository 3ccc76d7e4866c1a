-- A pivot's root and a quotient, as they are cast; and the products of parts of two rows.
use Rattle.std.proofs.Common.{◌≡◌, ℕ, ◌+◌, ◌-◌, ◌*◌, ◌^◌, ◌<◌, ◌≤◌, true, false, List, length, get_or, take, drop, ◌∙◌, ap, sym, arith, subst, ℤ, pos, negsuc, ◌-ℤ◌, ◌*ℤ◌, ◌≤ℤ◌, ◌<ℤ◌, to_z, of_z, SFits, int_lt}
use Rattle.std.specs.Int.{w64, w128}
use Rattle.std.specs.Int.RustNames.{unsigned_abs}
use Rattle.std.proofs.lemmas.Int.{to_z-of_z, ints}
use Rattle.std.proofs.lemmas.List.{get_or-take, get_or-drop, length-take, length-drop}
use Rattle.int_laws.specs.Sums.{sum_below}
use Rattle.int_laws.proofs.Sums.{int_sums}
use Rattle.int_laws.proofs.SumLaws.{sum_below-same, sum_below-nonnegative}
use Rattle.int_laws.proofs.Products.{square_nonnegative}
use Rattle.int_laws.specs.Division.{nearest_of}
use Rattle.int_laws.proofs.RootLemmas.{root_bounds}
use Rattle.int_laws.specs.Root.{root_of}
use Rattle.dense_front.specs.Square.{by_rows, dot_of, left_in_row}
use Rattle.dense_front.proofs.CastLemmas.{wide_is, narrow_is, fits_narrow}

not_low : (p : ℤ) → int_lt p (pos 1) ≡ false → pos 1 ≤ℤ p
not_low p h = omega (arith, ints)

pub root_answer : (p r : ℤ) → SFits w128 p → p <ℤ pos (2 ^ 114) → int_lt (to_z w128 (of_z w128 p)) (pos 1) ≡ false → r ≡ root_of (to_z w128 (of_z w128 p)) → SFits w64 (to_z w128 (of_z w128 r)) × (pos 1 ≤ℤ p) × (to_z w64 (of_z w64 (to_z w128 (of_z w128 r))) ≡ root_of p)
root_answer p r fits small test is =
    let p-is = to_z-of_z w128 p fits in
    let positive = not_low p (rw p-is at test) in
    let r-is : r ≡ root_of p = is ∙ ap root_of p-is in
    let bounds = root_bounds p positive small in
    let r-small : unsigned_abs r < 2 ^ 63 = omega (arith, int_sums, bounds.0, bounds.1, r-is) in
    let wide = wide_is r (omega arith) in
    (rw wide (fits_narrow r r-small), positive, ap (λ z. to_z w64 (of_z w64 z)) wide ∙ narrow_is r r-small ∙ r-is)

-- what the quotient's test says of its size
within_limit : (q : ℤ) → int_lt (negsuc (2 ^ 57 - 1)) q ≡ true → int_lt q (pos (2 ^ 57)) ≡ true → unsigned_abs q < 2 ^ 57
within_limit q low high = omega (arith, ints)

at_limit_low : (q : ℤ) → int_lt (negsuc (2 ^ 57 - 1)) q ≡ false → 2 ^ 57 ≤ unsigned_abs q
at_limit_low q test = omega (arith, ints)

at_limit_high : (q : ℤ) → int_lt q (pos (2 ^ 57)) ≡ false → 2 ^ 57 ≤ unsigned_abs q
at_limit_high q test = omega (arith, ints)

-- the quotient that was computed
pub quotient_is : (left pivot q : ℤ) → SFits w128 left → SFits w64 pivot → q ≡ nearest_of (to_z w128 (of_z w128 left)) (to_z w128 (of_z w128 (to_z w64 (of_z w64 pivot)))) → q ≡ nearest_of left pivot
quotient_is left pivot q left-fits pivot-fits is =
    let small : unsigned_abs pivot ≤ 2 ^ 63 = omega (arith, int_sums) in
    is
    ∙ ap (λ z. nearest_of z (to_z w128 (of_z w128 (to_z w64 (of_z w64 pivot))))) (to_z-of_z w128 left left-fits)
    ∙ ap (λ z. nearest_of left (to_z w128 (of_z w128 z))) (to_z-of_z w64 pivot pivot-fits)
    ∙ ap (λ z. nearest_of left z) (wide_is pivot (omega arith))

pub quotient_small : (exact q : ℤ) → q ≡ exact → SFits w128 q → int_lt (negsuc (2 ^ 57 - 1)) (to_z w128 (of_z w128 q)) ≡ true → int_lt (to_z w128 (of_z w128 q)) (pos (2 ^ 57)) ≡ true → (unsigned_abs (to_z w64 (of_z w64 (to_z w128 (of_z w128 q)))) < 2 ^ 57) × (to_z w64 (of_z w64 (to_z w128 (of_z w128 q))) ≡ exact)
quotient_small exact q is fits low high =
    let wide = to_z-of_z w128 q fits in
    let small = within_limit q (rw wide at low) (rw wide at high) in
    let whole : to_z w64 (of_z w64 (to_z w128 (of_z w128 q))) ≡ q = ap (λ z. to_z w64 (of_z w64 z)) wide ∙ narrow_is q (omega arith) in
    (rw whole small, whole ∙ is)

pub quotient_large_low : (exact q : ℤ) → q ≡ exact → SFits w128 q → int_lt (negsuc (2 ^ 57 - 1)) (to_z w128 (of_z w128 q)) ≡ false → 2 ^ 57 ≤ unsigned_abs exact
quotient_large_low exact q is fits test = rw (← is) (at_limit_low q (rw (to_z-of_z w128 q fits) at test))

pub quotient_large_high : (exact q : ℤ) → q ≡ exact → SFits w128 q → int_lt (to_z w128 (of_z w128 q)) (pos (2 ^ 57)) ≡ false → 2 ^ 57 ≤ unsigned_abs exact
quotient_large_high exact q is fits test = rw (← is) (at_limit_high q (rw (to_z-of_z w128 q fits) at test))

-- the products of parts of a list
pub sliced_dot : (xs : List ℤ) (c m n i j : ℕ) → length (take m (drop i xs)) ≡ c → c ≤ m → c ≤ n → dot_of (length (take m (drop i xs))) (take m (drop i xs)) (take n (drop j xs)) ≡ sum_below c (λ k. get_or xs (i + k) (pos 0) *ℤ get_or xs (j + k) (pos 0))
sliced_dot xs c m n i j len within within' =
    ap (λ x. dot_of x (take m (drop i xs)) (take n (drop j xs))) len
    ∙ sum_below-same c _ _ (λ k lt.
    ap (λ z. z *ℤ get_or (take n (drop j xs)) k (pos 0)) (get_or-take m (drop i xs) k (pos 0) (omega arith) ∙ get_or-drop i xs k (pos 0))
    ∙ ap (λ z. get_or xs (i + k) (pos 0) *ℤ z) (get_or-take n (drop j xs) k (pos 0) (omega arith) ∙ get_or-drop j xs k (pos 0)))

-- what is left, as it is computed
pub rest_is : (left taken : ℤ) → unsigned_abs left < 2 ^ 126 → unsigned_abs taken < 2 ^ 117 → to_z w128 (of_z w128 (to_z w128 (of_z w128 left) -ℤ to_z w128 (of_z w128 taken))) ≡ left -ℤ taken
rest_is left taken left-small taken-small =
    ap (λ z. to_z w128 (of_z w128 (z -ℤ to_z w128 (of_z w128 taken)))) (wide_is left (omega arith))
    ∙ ap (λ z. to_z w128 (of_z w128 (left -ℤ z))) (wide_is taken (omega arith))
    ∙ wide_is (left -ℤ taken) (omega (arith, int_sums))

-- on the diagonal nothing is added
pub left_in_row-diagonal : (left : ℤ) (entries : List ℤ) (row column : ℕ) → row ≡ column → left <ℤ pos (2 ^ 113) → left_in_row left entries row column <ℤ pos (2 ^ 114)
left_in_row-diagonal left entries row column e small =
    let P : ℕ → Type 0 = λ r. left_in_row left entries r column <ℤ pos (2 ^ 114) in
    let taken = sum_below-nonnegative column (λ k. by_rows entries column k *ℤ by_rows entries column k) (λ k lt. square_nonnegative (by_rows entries column k)) in
    subst P (sym e) (omega (arith, int_sums))

-- what is left in a row and column
pub taken_is : (left : ℤ) (entries : List ℤ) (row column : ℕ) (taken : ℤ) → 6 * row + column ≤ length entries → column ≤ row → unsigned_abs left < 2 ^ 126 → taken ≡ dot_of (length (take (6 * row + column - 6 * row) (drop (6 * row) entries))) (take (6 * row + column - 6 * row) (drop (6 * row) entries)) (take (6 * column + column - 6 * column) (drop (6 * column) entries)) → unsigned_abs taken < 2 ^ 117 → to_z w128 (of_z w128 (to_z w128 (of_z w128 left) -ℤ to_z w128 (of_z w128 taken))) ≡ left_in_row left entries row column
taken_is left entries row column taken whole le small is taken-small =
    let len : length (take (6 * row + column - 6 * row) (drop (6 * row) entries)) ≡ column =
    omega (arith, whole, length-take (6 * row + column - 6 * row) (drop (6 * row) entries), length-drop (6 * row) entries)
    in
    rest_is left taken small taken-small
    ∙ ap (λ z. left -ℤ z) (is ∙ sliced_dot entries column (6 * row + column - 6 * row) (6 * column + column - 6 * column) (6 * row) (6 * column) len (omega arith) (omega arith))

-- the pivot, as it is read
pub pivot_read : (entries : List ℤ) (column : ℕ) → unsigned_abs (by_rows entries column column) < 2 ^ 57 → to_z w64 (of_z w64 (get_or entries (7 * column) (pos 0))) ≡ by_rows entries column column
pivot_read entries column small =
    let at : 7 * column ≡ 6 * column + column = omega arith in
    ap (λ n. to_z w64 (of_z w64 (get_or entries n (pos 0)))) at ∙ narrow_is (by_rows entries column column) (omega arith)
