-- What a front's elimination finds, as the laws of fronts name it.
use Rattle.std.proofs.Common.{◌≡◌, ℕ, suc, ◌+◌, ◌-◌, ◌*◌, ◌/◌, ◌%◌, ◌^◌, ◌<◌, ◌≤◌, Bool, true, false, cond, List, ◌∷◌, length, get_or, Option, Some, None, ◌∙◌, sym, ap, ap₂, refl, arith, subst, inl, inr, ℤ, pos, neg_ℤ, ◌+ℤ◌, ◌-ℤ◌, ◌*ℤ◌, ◌≤ℤ◌, ◌<ℤ◌, unsigned_abs}
use Rattle.std.specs.Prelude.{◌||◌, ◌&&◌, nat_le, int_le, int_lt, Result, Ok, Err}
use Rattle.std.specs.Option.{option_map_or}
use Rattle.std.proofs.lemmas.Bool.{cases_lt, cases_Bool, false≢true, leb-true, le-leb}
use Rattle.std.proofs.lemmas.Int.{ints}
use Rattle.int_laws.specs.Matrices.{Entries}
use Rattle.int_laws.specs.Sums.{sum_below}
use Rattle.int_laws.proofs.SumLaws.{sum_below-same}
use Rattle.lists.specs.Results.{unless}
use Rattle.lists.specs.Search.{any_below, first_below, IsFirst}
use Rattle.lists.proofs.SearchLemmas.{Finds, first_below-finds, first-unique, any_below-here, any_below-some}
use Rattle.cholesky_laws.specs.Recurrence.{cholesky, left_after, pivot}
use Rattle.cholesky_laws.specs.Factor.{Breakdown, low, too_wide, low_pivot, has_large_entry}
use Rattle.cholesky_laws.specs.Fronts.{Space, Update, Eliminated, lower, lower_entry, has_low_row, space_breakdown, eliminated}
use Rattle.cholesky_laws.specs.FrontLaws.{TriangleLaws}
use Rattle.dense_front.specs.Square.{at_square, triangle_of, later_triangle, by_rows, row_products}
use Rattle.dense_front.specs.Own.{IsOwnTo, IsOwnBreakdown, breakdown_in_front}
use Rattle.dense_front.specs.declared.own.OwnBreakdown.{OwnBreakdown}
use Rattle.dense_front.specs.declared.own.OwnBreakdown.TheVariants.{Pivot, Wide}
use Rattle.dense_front.specs.Space.{space_of}
use Rattle.dense_front.specs.Child.{update_of}

positive : (z : ℤ) → pos 1 ≤ℤ z → int_lt z (pos 1) ≡ true → ⊥
positive z ok less = omega (arith, ints, ok, less)

is_low : (z : ℤ) → z <ℤ pos 1 → int_lt z (pos 1) ≡ true
is_low z less = grind (arith, ints)

first-column : (c : ℕ) → 6 * 0 + c ≡ c
first-column c = omega arith

-- no pivot is low
pub low-none : (w : Entries) → ((c : ℕ) → c < 6 → pos 1 ≤ℤ pivot w c) → low_pivot w 0 ≡ None
low-none w ok = at (low_pivot w 0) refl (first_below-finds 6 (λ freedom. int_lt (pivot w (6 * 0 + freedom)) (pos 1)))
  where
    at : (o : Option ℕ) → low_pivot w 0 ≡ o → Finds 6 (λ freedom. int_lt (pivot w (6 * 0 + freedom)) (pos 1)) o → low_pivot w 0 ≡ None
    at None e finds = e
    at (Some k) e finds = absurd (positive (pivot w (6 * 0 + k)) (subst (λ (x : ℕ). pos 1 ≤ℤ pivot w x) (sym (first-column k)) (ok k finds.in_range)) finds.here)

-- the first low pivot
pub low-some : (w : Entries) (r : ℕ) → r < 6 → ((c : ℕ) → c < r → pos 1 ≤ℤ pivot w c) → pivot w r <ℤ pos 1 → low_pivot w 0 ≡ Some r
low-some w r rl before breaks = at (low_pivot w 0) refl (first_below-finds 6 test)
  where
    test : ℕ → Bool
    test freedom = int_lt (pivot w (6 * 0 + freedom)) (pos 1)

    here : test r ≡ true
    here = is_low (pivot w (6 * 0 + r)) (subst (λ (x : ℕ). pivot w x <ℤ pos 1) (sym (first-column r)) breaks)

    never : (k : ℕ) → k < r → test k ≡ true → ⊥
    never k lt holds = positive (pivot w (6 * 0 + k)) (subst (λ (x : ℕ). pos 1 ≤ℤ pivot w x) (sym (first-column k)) (before k lt)) holds

    at : (o : Option ℕ) → low_pivot w 0 ≡ o → Finds 6 test o → low_pivot w 0 ≡ Some r
    at None e finds = absurd (finds r rl here)
    at (Some k) e finds = e ∙ ap Some (first-unique 6 (λ j. test j ≡ true) k r finds record { in_range = rl; here = here; before = never })

bool-none : (b : Bool) → (b ≡ true → ⊥) → b ≡ false
bool-none true never = absurd (never refl)
bool-none false never = refl

-- no entry is large
pub large-none : (w : Entries) (places : ℕ) (entries : List ℤ) → length entries ≡ 6 * (6 * places) → IsOwnTo w (6 * (6 * places)) entries → has_large_entry w places 0 ≡ false
large-none w places entries whole own =
    bool-none (has_large_entry w places 0) (λ any.
    let (r, rl, some) = any_below-some (6 * places) (λ i. any_below 6 (λ freedom. nat_le (2 ^ 57) (unsigned_abs (cholesky w i (6 * 0 + freedom))))) any in
    let (c, cl, large) = any_below-some 6 (λ freedom. nat_le (2 ^ 57) (unsigned_abs (cholesky w r (6 * 0 + freedom)))) some in
    let row : (6 * r + c) / 6 ≡ r = omega arith in
    let column : (6 * r + c) % 6 ≡ c = omega arith in
    let is : by_rows entries r c ≡ cholesky w r (6 * 0 + c) = own.values (6 * r + c) (omega arith) ∙ ap₂ (cholesky w) row (column ∙ sym (first-column c)) in
    let small = own.small (6 * r + c) (pos 0) (omega (arith, whole)) in
    omega (arith, leb-true (2 ^ 57) (unsigned_abs (cholesky w r (6 * 0 + c))) large, small, ap unsigned_abs is))

pub large-some : (w : Entries) (places s : ℕ) → s < 6 * (6 * places) → 2 ^ 57 ≤ unsigned_abs (cholesky w (s / 6) (s % 6)) → has_large_entry w places 0 ≡ true
large-some w places s lt large =
    let is : nat_le (2 ^ 57) (unsigned_abs (cholesky w (s / 6) (6 * 0 + s % 6))) ≡ true =
    ap (λ (x : ℕ). nat_le (2 ^ 57) (unsigned_abs (cholesky w (s / 6) x))) (first-column (s % 6)) ∙ le-leb (2 ^ 57) (unsigned_abs (cholesky w (s / 6) (s % 6))) large
    in
    any_below-here (6 * places) (λ i. any_below 6 (λ freedom. nat_le (2 ^ 57) (unsigned_abs (cholesky w i (6 * 0 + freedom))))) (s / 6) (omega arith)
    (any_below-here 6 (λ freedom. nat_le (2 ^ 57) (unsigned_abs (cholesky w (s / 6) (6 * 0 + freedom)))) (s % 6) (omega arith) is)

-- what is left past the own columns
pub left-is : TriangleLaws → (size : ℕ) (old new entries : List ℤ) → IsOwnTo (lower_entry (triangle_of size old)) (6 * size) entries →
    ((r c : ℕ) → 6 ≤ c → c ≤ r → r < size → at_square size new r c ≡ at_square size old r c -ℤ row_products entries r c) →
    (r c : ℕ) → 6 ≤ c → c ≤ r → r < size → at_square size new r c ≡ left_after (lower_entry (triangle_of size old)) 6 r c
unfolding left_after
left-is laws size old new entries own taken r c from le rl =
    let w = lower_entry (triangle_of size old) in
    taken r c from le rl
    ∙ ap₂ (λ (x y : ℤ). x -ℤ y) (sym (laws.inside size size (at_square size old) r c (omega arith) le rl))
    (sum_below-same 6 _ _ (λ k kl. ap₂ (λ (x y : ℤ). x *ℤ y) (entry r k rl kl) (entry c k (omega arith) kl)))
  where
    entry : (r k : ℕ) → r < size → k < 6 → by_rows entries r k ≡ cholesky (lower_entry (triangle_of size old)) r k
    entry r k rl kl =
        let row : (6 * r + k) / 6 ≡ r = omega arith in
        let column : (6 * r + k) % 6 ≡ k = omega arith in
        own.values (6 * r + k) (omega arith) ∙ ap₂ (cholesky (lower_entry (triangle_of size old))) row column

and-parts : (x y : Bool) → (x && y) ≡ true → (x ≡ true) × (y ≡ true)
and-parts true y e = (refl, e)
and-parts false y e = absurd (false≢true e)

and_both : (x y : Bool) → x ≡ true → y ≡ true → (x && y) ≡ true
and_both x y ex ey = ap (λ t. t && y) ex ∙ ey

is_wide : (z : ℤ) → pos (2 ^ 113) ≤ℤ z → int_le (pos (2 ^ 113)) z ≡ true
is_wide z h = grind (arith, ints)

not_wide : (z : ℤ) → z <ℤ pos (2 ^ 113) → int_le (pos (2 ^ 113)) z ≡ true → ⊥
not_wide z h e = omega (arith, ints, h, e)

pub low_row-some : (w : Entries) (size : ℕ) (new : List ℤ) → ((r c : ℕ) → 6 ≤ c → c ≤ r → r < size → at_square size new r c ≡ left_after w 6 r c) → (r : ℕ) → 6 ≤ r → r < size → pos (2 ^ 113) ≤ℤ neg_ℤ (at_square size new r r) → has_low_row w size ≡ true
low_row-some w size new left r from rl wide =
    any_below-here size (λ r. nat_le 6 r && int_le (pos (2 ^ 113)) (neg_ℤ (left_after w 6 r r))) r rl
    (and_both _ _ (le-leb 6 r from) (is_wide (neg_ℤ (left_after w 6 r r)) (rw (left r r from (omega arith) rl) at wide)))

pub low_row-none : (w : Entries) (size : ℕ) (new : List ℤ) → ((r c : ℕ) → 6 ≤ c → c ≤ r → r < size → at_square size new r c ≡ left_after w 6 r c) → ((r : ℕ) → 6 ≤ r → r < size → neg_ℤ (at_square size new r r) <ℤ pos (2 ^ 113)) → has_low_row w size ≡ false
low_row-none w size new left narrow =
    bool-none (has_low_row w size) (λ any.
    let (r, rl, holds) = any_below-some size (λ r. nat_le 6 r && int_le (pos (2 ^ 113)) (neg_ℤ (left_after w 6 r r))) any in
    let (late, wide) = and-parts (nat_le 6 r) (int_le (pos (2 ^ 113)) (neg_ℤ (left_after w 6 r r))) holds in
    let from = leb-true 6 r late in
    not_wide (neg_ℤ (left_after w 6 r r)) (rw (left r r from (omega arith) rl) at (narrow r from rl)) wide)

-- ---- the breakdown of a front, and its parts
or_right : (a b : Bool) → b ≡ true → (a || b) ≡ true
or_right true b e = refl
or_right false b e = e

abbrev breakdown : (f : ℕ) (o : Option ℕ) (t : Bool) → Option Breakdown
breakdown f o t = option_map_or (λ freedom. Some (low f freedom)) o (cond t (Some (too_wide f)) None)

pub breaks-pivot : (f places r : ℕ) (w : Entries) → low_pivot w 0 ≡ Some r → space_breakdown f w places ≡ Some (low f r)
breaks-pivot f places r w e = ap (λ (o : Option ℕ). breakdown f o (has_large_entry w places 0 || has_low_row w (6 * places))) e

pub breaks-wide : (f places : ℕ) (w : Entries) → low_pivot w 0 ≡ None → (has_large_entry w places 0 || has_low_row w (6 * places)) ≡ true → space_breakdown f w places ≡ Some (too_wide f)
breaks-wide f places w e t = ap₂ (breakdown f) e t

pub breaks-none : (f places : ℕ) (w : Entries) → low_pivot w 0 ≡ None → has_large_entry w places 0 ≡ false → has_low_row w (6 * places) ≡ false → space_breakdown f w places ≡ None
breaks-none f places w e large wide = ap₂ (breakdown f) e (ap₂ (λ (x y : Bool). x || y) large wide)

-- how the own columns break down is how the front does
pub own-breaks : (f places size : ℕ) (w : Entries) (b : OwnBreakdown) → size ≡ 6 * places → IsOwnBreakdown w size b → Some (breakdown_in_front f b) ≡ space_breakdown f w places
own-breaks f places size w (Pivot r) size_is (rl, before, breaks) = sym (breaks-pivot f places r w (low-some w r rl before breaks))
own-breaks f places size w Wide size_is (passes, (s, from, lt, large)) =
    sym (breaks-wide f places w (low-none w passes) (ap (λ t. t || has_low_row w (6 * places)) (large-some w places s (omega (arith, size_is, lt)) large)))

-- so is a wide row past them
pub row-breaks : (f places size : ℕ) (w : Entries) → size ≡ 6 * places → ((c : ℕ) → c < 6 → pos 1 ≤ℤ pivot w c) → has_low_row w size ≡ true → Some (too_wide f) ≡ space_breakdown f w places
row-breaks f places size w size_is passes wide =
    let here : has_low_row w (6 * places) ≡ true = subst (λ (n : ℕ). has_low_row w n ≡ true) size_is wide in
    sym (breaks-wide f places w (low-none w passes) (or_right (has_large_entry w places 0) (has_low_row w (6 * places)) here))

pub nothing-breaks : (f places size : ℕ) (w : Entries) (entries : List ℤ) → size ≡ 6 * places → 0 < places → length entries ≡ 6 * size → IsOwnTo w (6 * size) entries → has_low_row w size ≡ false → None ≡ space_breakdown f w places
nothing-breaks f places size w entries size_is some whole own narrow =
    let narrow_here : has_low_row w (6 * places) ≡ false = subst (λ (n : ℕ). has_low_row w n ≡ false) size_is narrow in
    let count : 6 * size ≡ 6 * (6 * places) = ap (λ (n : ℕ). 6 * n) size_is in
    let own_here = subst (λ (n : ℕ). IsOwnTo w n entries) count own in
    sym (breaks-none f places w (low-none w (λ c cl. own.pivots c cl (omega arith))) (large-none w places entries (whole ∙ count) own_here) narrow_here)

-- an entry of the own columns
pub own-entry : {w : Entries} {size : ℕ} {entries : List ℤ} → IsOwnTo w (6 * size) entries → (r c : ℕ) → c < 6 → r < size → by_rows entries r c ≡ cholesky w r c
own-entry {w} own r c cl rl =
    let row : (6 * r + c) / 6 ≡ r = omega arith in
    let column : (6 * r + c) % 6 ≡ c = omega arith in
    own.values (6 * r + c) (omega arith) ∙ ap₂ (cholesky w) row column

-- the parts of a front that passes
abbrev pub parts : Space → Eliminated
parts s =
    record {
      columns = lower 6 (6 * suc (length s.later)) (cholesky (lower_entry s.entries));
      update = record {
        later = s.later;
        entries = lower (6 * length s.later) (6 * length s.later) (λ r c. left_after (lower_entry s.entries) 6 (6 + r) (6 + c));
      };
    }

pub answers-breakdown : (s : Space) (b : Breakdown) → space_breakdown s.front (lower_entry s.entries) (suc (length s.later)) ≡ Some b → Err b ≡ eliminated s
answers-breakdown s b e = sym (ap (λ (o : Option Breakdown). unless o (parts s)) e)

pub answers-parts : (s : Space) (e : Eliminated) → space_breakdown s.front (lower_entry s.entries) (suc (length s.later)) ≡ None → e ≡ parts s → Ok e ≡ eliminated s
answers-parts s e none same = ap Ok same ∙ sym (ap (λ (o : Option Breakdown). unless o (parts s)) none)

abbrev make : List (List ℤ) → Update → Eliminated
make columns update = record { columns = columns; update = update }

-- the own columns and what is left, as a front's parts
pub eliminated-parts : TriangleLaws → (f : ℕ) (nodes later : List ℕ) (old new entries : List ℤ) →
    ((r c : ℕ) → c < 6 → r < 6 * length later + 6 → by_rows entries r c ≡ cholesky (lower_entry (triangle_of (6 * length later + 6) old)) r c) →
    ((r c : ℕ) → 6 ≤ c → c ≤ r → r < 6 * length later + 6 → at_square (6 * length later + 6) new r c ≡ left_after (lower_entry (triangle_of (6 * length later + 6) old)) 6 r c) →
    (columns : List (List ℤ)) (update : Update) → columns ≡ lower 6 (6 * length later + 6) (by_rows entries) → update ≡ update_of later new → make columns update ≡ parts (space_of f nodes later old)
eliminated-parts laws f nodes later old new entries own left columns update columns_are update_is =
    ap₂ make
    (columns_are ∙ laws.same 6 size (by_rows entries) (cholesky w) (λ r c cl le rl. own r c cl rl) ∙ ap (λ (n : ℕ). lower 6 n (cholesky w)) (omega arith))
    (update_is ∙ ap with_entries (laws.same n n (λ r c. at_square size new (6 + r) (6 + c)) (λ r c. left_after w 6 (6 + r) (6 + c)) (λ r c cl le rl. left (6 + r) (6 + c) (omega arith) (omega arith) (omega arith))))
  where
    n : ℕ
    n = 6 * length later

    size : ℕ
    size = 6 * length later + 6

    w : Entries
    w = lower_entry (triangle_of size old)

    with_entries : List (List ℤ) → Update
    with_entries es = record { later = later; entries = es }
