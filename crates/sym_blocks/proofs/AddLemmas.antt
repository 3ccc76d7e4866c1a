-- What the code reads and writes where it adds to a stored entry.
use Rattle.lists.proofs.ListsLemmas.{contents-read, listing_in_range}
use Rattle.lists.specs.Lists.{contents, list_of}
use Rattle.lists.specs.Rising.{IsRising}
use Rattle.std.proofs.Common.{◌≡◌, ℕ, zero, suc, ◌/◌, ◌^◌, ◌<◌, ◌≤◌, List, [], length, get_or, set, Contains, ◌∙◌, sym, ap, arith, ℤ, pos, ◌+ℤ◌, to_z, of_z, SFits, Vec, Global, refl, subst, inl, inr}
use Rattle.std.specs.Int.{w128}
use Rattle.std.specs.Int.RustNames.{unsigned_abs}
use Rattle.std.specs.Vec.{with_item}
use Rattle.std.proofs.lemmas.Bool.{cases_lt}
use Rattle.std.proofs.lemmas.List.{map-set, get_or_default}
use Rattle.std.proofs.lemmas.List.Elements.{Contains-get_or}
use Rattle.std.proofs.lemmas.Int.{to_z-of_z, fits_signed_from_abs}
use Rattle.sym_blocks.specs.Matrix.{AddsAt, entry}
use Rattle.sym_blocks.specs.Storage.{flat_index, lower_entry, stored, stored_matrix, IsStorage, AddsToLower}
use Rattle.sym_blocks.proofs.StorageLemmas.{IsTarget, lower_target, target_inside, written, lower-written_same, lower-written_other, stored_below, stored_above, stored_symmetric, entry-stored_matrix}

-- what was read on the way to an entry, by what is stored: the row of the node
pub record IsEntry (lists : List (List ℕ)) (triangle : List (Vec ℤ Global)) (row col place : ℕ) (beside : Vec ℤ Global) : Type 0 where
  pub target : IsTarget lists row col place
  pub inside : flat_index place row col < length beside.items
  pub value : (d : ℤ) → get_or beside.items (flat_index place row col) d ≡ lower_entry lists (contents triangle) row col
  pub after : (w : ℤ) → contents (set triangle (row / 6) (with_item beside (flat_index place row col) w)) ≡ written (contents triangle) (row / 6) (flat_index place row col) w

pub entry_read : {lists : List (List ℕ)} {triangle : List (Vec ℤ Global)} {row col place : ℕ} {beside : Vec ℤ Global} → IsStorage lists (contents triangle) → col ≤ row → (place < length (list_of lists (row / 6))) × (get_or (list_of lists (row / 6)) place 0 ≡ col / 6) → beside ≡ get_or triangle (row / 6) beside → IsEntry lists triangle row col place beside
entry_read {lists} {triangle} {row} {col} {place} {beside} ok below found beside_is =
    let n = row / 6 in
    let k = flat_index place row col in
    let items = λ (v : Vec ℤ Global). v.items in
    let target : IsTarget lists row col place = record { below = below; place = found.0; node = found.1 } in
    let in' = target_inside lists (contents triangle) row col place ok target in
    let in_triangle = listing_in_range triangle n (get_or (list_of (contents triangle) n) k (pos 0)) (Contains-get_or (list_of (contents triangle) n) k (pos 0) in'.1) in
    let row_is = contents-read triangle n beside in_triangle beside_is in
    record {
      target = target;
      inside = omega (arith, in'.1, ap length row_is);
      value = λ d.
          get_or_default beside.items k d (pos 0) (omega (arith, in'.1, ap length row_is))
          ∙ ap (λ (xs : List ℤ). get_or xs k (pos 0)) (sym row_is)
          ∙ sym (lower_target lists (contents triangle) row col place ok target);
      after = λ w.
          map-set items triangle n (with_item beside k w)
          ∙ ap (λ (xs : List ℤ). set (contents triangle) n (set xs k w)) (sym row_is);
    }

-- a list that was read, where its number and what it lists are known
pub list_at : {X : Type 0} (vs : List (Vec X Global)) (i n : ℕ) (v : Vec X Global) (k : X) → i ≡ n → Contains (list_of (contents vs) n) k → v ≡ get_or vs i v → v.items ≡ list_of (contents vs) n
list_at {X} vs i n v k same lists is =
    sym (contents-read vs i v (omega (arith, same, listing_in_range vs n k lists)) is) ∙ ap (λ (m : ℕ). list_of (contents vs) m) same

-- a place in a rising list is no greater than the number there
pub rising_least : (ns : List ℕ) (p : ℕ) → IsRising ns → p < length ns → p ≤ get_or ns p 0
rising_least ns zero up lt = omega arith
rising_least ns (suc p) up lt = omega (arith, rising_least ns p up (omega arith), up p (suc p) 0 (omega arith) lt)

-- an entry that was read, and the sum, fit their type
pub fits_small : (z : ℤ) → unsigned_abs z < 2 ^ 126 → SFits w128 z
fits_small z small = fits_signed_from_abs w128 z (omega arith)

-- the sum that is written
pub sum_is : (x y v : ℤ) → x ≡ y → unsigned_abs y < 2 ^ 126 → SFits w128 v → unsigned_abs (y +ℤ v) < 2 ^ 126 → to_z w128 (of_z w128 (to_z w128 (of_z w128 x) +ℤ to_z w128 (of_z w128 v))) ≡ y +ℤ v
sum_is x y v e small v-fits sum-small =
    let y-fits = fits_small y small in
    let sum-fits = fits_small (y +ℤ v) sum-small in
    rw e (simp to_z-of_z)

pub AddsToLower-written : (lists : List (List ℕ)) (triangle : List (List ℤ)) (row col p : ℕ) (v : ℤ) → IsStorage lists triangle → IsTarget lists row col p → AddsToLower lists triangle (written triangle (row / 6) (flat_index p row col) (lower_entry lists triangle row col +ℤ v)) row col v
AddsToLower-written lists triangle row col p v ok at =
    let w = lower_entry lists triangle row col +ℤ v in
    record {
      place = lower-written_same lists triangle row col p w ok at;
      others = λ i j apart. lower-written_other lists triangle row col p i j w ok at apart;
    }

-- the whole matrix after a sum below its diagonal
pub AddsAt-below : (lists : List (List ℕ)) (a b : List (List ℤ)) (row col : ℕ) (v : ℤ) → IsStorage lists a → IsStorage lists b → col ≤ row → AddsToLower lists a b row col v → AddsAt (stored_matrix lists a) (stored_matrix lists b) row col v
AddsAt-below lists a b row col v old new below adds =
    let at = entry-stored_matrix lists a old in
    let at' = entry-stored_matrix lists b new in
    let place : entry (stored_matrix lists b) row col ≡ entry (stored_matrix lists a) row col +ℤ v =
    at' row col ∙ stored_below lists b row col below ∙ adds.place
    ∙ ap (λ z. z +ℤ v) (sym (at row col ∙ stored_below lists a row col below))
    in
    record {
      pattern = refl;
      place = place;
      mirror =
          at' col row ∙ stored_symmetric lists b col row ∙ sym (at' row col) ∙ place
          ∙ ap (λ z. z +ℤ v) (at row col ∙ stored_symmetric lists a row col ∙ sym (at col row));
      others = λ i j first second.
          at' i j
          ∙ elim (cases_lt i j) [
            | inl lt ↦ stored_above lists b i j lt ∙ adds.others j i (λ (e, f). second (f, e)) ∙ sym (stored_above lists a i j lt)
            | inr ge ↦ stored_below lists b i j ge ∙ adds.others i j first ∙ sym (stored_below lists a i j ge)
          ]
          ∙ sym (at i j);
    }

-- the same of the mirror
pub AddsAt-mirror : (lists : List (List ℕ)) (a b : List (List ℤ)) (row col : ℕ) (v : ℤ) → AddsAt (stored_matrix lists a) (stored_matrix lists b) col row v → AddsAt (stored_matrix lists a) (stored_matrix lists b) row col v
AddsAt-mirror lists a b row col v adds =
    record { pattern = adds.pattern; place = adds.mirror; mirror = adds.place; others = λ i j first second. adds.others i j second first }
