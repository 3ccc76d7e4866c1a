-- The sums of a row, under one write.
use Rattle.std.proofs.Common.{◌≡◌, ℕ, zero, suc, ◌+◌, ◌<◌, ◌≤◌, ◌≢◌, inl, inr, refl, sym, ◌∙◌, ap, subst, arith, ℤ, pos, ◌+ℤ◌, ◌≤ℤ◌, nat_eq, List, [], ◌∷◌, ◌++◌, length, get_or, set, length-append, get_or-set_same, get_or-set_other, unsigned_abs, Contains, replicate}
use Rattle.std.specs.Prelude.{if◌then◌else◌}
use Rattle.std.proofs.Math.ListN.{length-set, length-replicate}
use Rattle.std.proofs.Math.Seq.{get_or-append_seam}
use Rattle.std.proofs.lemmas.List.{get_or_append_left, get_or-append-add, get_or-replicate, get_or_default}
use Rattle.std.proofs.lemmas.List.Elements.{Contains-append_left, Contains-push, Contains-append_cases}
use Rattle.std.proofs.lemmas.Bool.{cases_eq}
use Rattle.std.proofs.lemmas.Bool.Decides.{nat_tests}
use Rattle.int_laws.specs.Sums.{sum_below}
use Rattle.int_laws.proofs.Sums.{int_sums}
use Rattle.int_laws.proofs.SumLaws.{sum_below-changed, sum_below-zero, sum_below-lt_count, sum_below-nonnegative}
use Rattle.flex_num.specs.declared.guarded.GuardedSum.{GuardedSum}
use Rattle.int_laws.specs.Matrices.{absolute}
use Rattle.certificate.specs.RowSums.{sizes_total, IsClear, touched_count, IsTracked, AddsProduct}
use Rattle.flex_num.specs.Guarded.{zero_sum, value_at, size_at}

-- ---- reading after a write
pub read-here : (sums : List GuardedSum) (at : ℕ) (new : GuardedSum) → at < length sums → get_or (set sums at new) at zero_sum ≡ new
read-here sums at new inside = get_or-set_same sums at new zero_sum inside

pub read-other : (sums : List GuardedSum) (at : ℕ) (new : GuardedSum) (j : ℕ) → j ≢ at → get_or (set sums at new) j zero_sum ≡ get_or sums j zero_sum
read-other sums at new j apart = get_or-set_other sums at j new zero_sum apart

-- ---- the count of positions with a term
mark-none : (size : ℕ) → size ≡ 0 → (if nat_eq size 0 then pos 0 else pos 1) ≡ pos 0
mark-none size e = grind (arith, nat_tests)

mark-some : (size : ℕ) → size ≢ 0 → (if nat_eq size 0 then pos 0 else pos 1) ≡ pos 1
mark-some size e = grind (arith, nat_tests)

mark-le : (size : ℕ) → (if nat_eq size 0 then pos 0 else pos 1) ≤ℤ pos 1
mark-le size = elim (cases_eq size 0) [ inl e ↦ omega (arith, int_sums, mark-none size e) | inr ne ↦ omega (arith, int_sums, mark-some size ne) ]

mark-ge : (size : ℕ) → pos 0 ≤ℤ (if nat_eq size 0 then pos 0 else pos 1)
mark-ge size = elim (cases_eq size 0) [ inl e ↦ omega (arith, int_sums, mark-none size e) | inr ne ↦ omega (arith, int_sums, mark-some size ne) ]

count-set : (sums : List GuardedSum) (at : ℕ) (new : GuardedSum) → at < length sums →
    touched_count (set sums at new) +ℤ (if nat_eq (size_at sums at) 0 then pos 0 else pos 1)
    ≡ touched_count sums +ℤ (if nat_eq new.size 0 then pos 0 else pos 1)
count-set sums at new inside =
    let weight = λ (s : GuardedSum). if nat_eq s.size 0 then pos 0 else pos 1 in
    let changed = sum_below-changed (length sums) at (λ j. weight (get_or sums j zero_sum)) (λ j. weight (get_or (set sums at new) j zero_sum)) inside
    (λ j _ apart. ap weight (read-other sums at new j apart)) in
    let here = ap weight (read-here sums at new inside) in
    let size = ap (λ (n : ℕ). sum_below n (λ j. weight (get_or (set sums at new) j zero_sum))) (length-set sums at new) in
    omega (arith, int_sums, changed, here, size)

-- an untouched position leaves room
pub tracked-room : (sums : List GuardedSum) (touched : List ℕ) (capacity at : ℕ) → IsTracked sums touched capacity → at < length sums →
    size_at sums at ≡ 0 → length touched < capacity
tracked-room sums touched capacity at tracked inside none =
    let fewer = sum_below-lt_count (length sums) at (λ j. if nat_eq (size_at sums j) 0 then pos 0 else pos 1) inside
    (λ j _. mark-le (size_at sums j)) (mark-none (size_at sums at) none) in
    omega (arith, int_sums, fewer, tracked.counted, tracked.room)

in_same : (sums : List GuardedSum) (at : ℕ) (new : GuardedSum) (j : ℕ) → j < length (set sums at new) → j < length sums
in_same sums at new j h = omega (arith, length-set sums at new)

-- a write where there was a term already
pub tracked-again : (sums : List GuardedSum) (touched : List ℕ) (capacity at : ℕ) (new : GuardedSum) → IsTracked sums touched capacity → at < length sums →
    size_at sums at ≢ 0 → new.size ≢ 0 → IsTracked (set sums at new) touched capacity
tracked-again sums touched capacity at new tracked inside was is =
    record {
      noted = λ j h some.
          elim (cases_eq j at) [
            | inl e ↦ let P : ℕ → Type 0 = λ k. Contains touched k in subst P (sym e) (tracked.noted at inside was)
            | inr ne ↦ tracked.noted j (in_same sums at new j h) (λ z. some (ap (λ (s : GuardedSum). s.size) (read-other sums at new j ne) ∙ z))
          ];
      in_range = λ t h. omega (arith, tracked.in_range t h, length-set sums at new);
      counted = omega (arith, int_sums, tracked.counted, count-set sums at new inside, mark-some (size_at sums at) was, mark-some new.size is);
      room = omega (arith, tracked.room, length-set sums at new);
    }

-- a write that keeps the size
pub tracked-same : (sums : List GuardedSum) (touched : List ℕ) (capacity at : ℕ) (new : GuardedSum) → IsTracked sums touched capacity → at < length sums →
    size_at sums at ≡ new.size → IsTracked (set sums at new) touched capacity
tracked-same sums touched capacity at new tracked inside same =
    let size : (j : ℕ) → size_at (set sums at new) j ≡ size_at sums j =
    λ j. elim (cases_eq j at) [
      | inl e ↦ rw e (ap (λ (s : GuardedSum). s.size) (read-here sums at new inside) ∙ sym same)
      | inr ne ↦ ap (λ (s : GuardedSum). s.size) (read-other sums at new j ne)
    ] in
    let mark = ap (λ (n : ℕ). if nat_eq n 0 then pos 0 else pos 1) same in
    record {
      noted = λ j h some. tracked.noted j (in_same sums at new j h) (λ z. some (size j ∙ z));
      in_range = λ t h. omega (arith, tracked.in_range t h, length-set sums at new);
      counted = omega (arith, int_sums, tracked.counted, count-set sums at new inside, mark);
      room = omega (arith, tracked.room, length-set sums at new);
    }

-- the first term at a position, which is noted
pub tracked-first : (sums : List GuardedSum) (touched : List ℕ) (capacity at : ℕ) (new : GuardedSum) → IsTracked sums touched capacity → at < length sums →
    size_at sums at ≡ 0 → new.size ≢ 0 → IsTracked (set sums at new) (touched ++ at ∷ []) capacity
tracked-first sums touched capacity at new tracked inside was is =
    record {
      noted = λ j h some.
          elim (cases_eq j at) [
            | inl e ↦ let P : ℕ → Type 0 = λ k. Contains (touched ++ at ∷ []) k in subst P (sym e) (Contains-push touched at)
            | inr ne ↦
                Contains-append_left touched (at ∷ []) j
                (tracked.noted j (in_same sums at new j h) (λ z. some (ap (λ (s : GuardedSum). s.size) (read-other sums at new j ne) ∙ z)))
          ];
      in_range = λ t h. grind (arith, tracked.in_range t, length-set sums at new, length-append touched (at ∷ []), get_or_append_left touched (at ∷ []) 0 t, get_or-append-add touched (at ∷ []) 0 0);
      counted = omega (arith, int_sums, tracked.counted, count-set sums at new inside, mark-none (size_at sums at) was, mark-some new.size is, length-append touched (at ∷ []));
      room = omega (arith, tracked.room, length-set sums at new);
    }

last-is : (at j : ℕ) → Contains (at ∷ []) j → j ≡ at
last-is at j (zero, h, e) = sym e
last-is at j (suc k, h, e) = absurd (omega arith)

-- a position is cleared, and is noted no more
pub tracked-cleared : (sums : List GuardedSum) (touched : List ℕ) (capacity at : ℕ) (none : GuardedSum) → IsTracked sums (touched ++ at ∷ []) capacity →
    none.size ≡ 0 → (at < length sums) × IsTracked (set sums at none) touched capacity
tracked-cleared sums touched capacity at none tracked empty =
    let end = get_or-append_seam touched at [] 0 in
    let inside : at < length sums = omega (arith, tracked.in_range (length touched), length-append touched (at ∷ []), end) in
    let gone : size_at (set sums at none) at ≡ 0 = ap (λ (s : GuardedSum). s.size) (read-here sums at none inside) ∙ empty in (
      inside,
      record {
        noted = λ j h some.
            elim (cases_eq j at) [
              | inl e ↦ absurd (some (ap (size_at (set sums at none)) e ∙ gone))
              | inr ne ↦
                  elim (Contains-append_cases touched (at ∷ []) j
                  (tracked.noted j (in_same sums at none j h) (λ z. some (ap (λ (s : GuardedSum). s.size) (read-other sums at none j ne) ∙ z)))) [
                    | inl before ↦ before
                    | inr last ↦ absurd (ne (last-is at j last))
                  ]
            ];
        in_range = λ t h. omega (arith, tracked.in_range t (omega (arith, length-append touched (at ∷ []))), length-set sums at none, get_or_append_left touched (at ∷ []) 0 t h);
        counted = omega (arith, int_sums, tracked.counted, count-set sums at none inside, mark-le (size_at sums at), mark-none none.size empty, length-append touched (at ∷ []));
        room = omega (arith, tracked.room, length-set sums at none);
      },
    )

none_small : (v : ℤ) → unsigned_abs v ≤ 0 → v ≡ pos 0
none_small v h = omega (arith, int_sums)

-- nothing is noted, so nothing is summed
pub tracked-nothing : (sums : List GuardedSum) (touched : List ℕ) (capacity : ℕ) → IsTracked sums touched capacity → length touched ≡ 0 → IsClear sums
tracked-nothing sums touched capacity tracked none j inside =
    elim (cases_eq (size_at sums j) 0) [
      | inl e ↦ (none_small (value_at sums j) (omega (arith, (get_or sums j zero_sum).bounded)), e)
      | inr ne ↦ absurd (let found = tracked.noted j inside ne in omega (arith, found.1))
    ]

pub tracked-new : (n capacity : ℕ) (none : GuardedSum) → n ≤ capacity → none.size ≡ 0 → IsTracked (replicate n none) [] capacity
tracked-new n capacity none room empty =
    record {
      noted = λ j h some. absurd (some (ap (λ (s : GuardedSum). s.size) (get_or-replicate n j none zero_sum (omega (arith, length-replicate n none))) ∙ empty));
      in_range = λ t h. absurd (omega arith);
      counted = sum_below-nonnegative (length (replicate n none)) (λ j. if nat_eq (size_at (replicate n none) j) 0 then pos 0 else pos 1) (λ j _. mark-ge (size_at (replicate n none) j));
      room = omega (arith, length-replicate n none);
    }

-- an element that was read is that of the default
pub read_as : (sums : List GuardedSum) (at : ℕ) (s : GuardedSum) → at < length sums → s ≡ get_or sums at s → get_or sums at zero_sum ≡ s
read_as sums at s inside e = get_or_default sums at zero_sum s inside ∙ sym e

-- a position is noted where its sum had no term
pub tracked-noted : (sums : List GuardedSum) (touched touched' : List ℕ) (capacity at : ℕ) (new : GuardedSum) → IsTracked sums touched capacity → at < length sums →
    new.size ≢ 0 → (size_at sums at ≡ 0 → touched' ≡ touched ++ at ∷ []) → ((size_at sums at ≡ 0 → ⊥) → touched' ≡ touched) →
    IsTracked (set sums at new) touched' capacity
tracked-noted sums touched touched' capacity at new tracked inside is first again =
    let P : List ℕ → Type 0 = λ xs. IsTracked (set sums at new) xs capacity in
    elim (cases_eq (size_at sums at) 0) [
      | inl e ↦ subst P (sym (first e)) (tracked-first sums touched capacity at new tracked inside e is)
      | inr ne ↦ subst P (sym (again ne)) (tracked-again sums touched capacity at new tracked inside ne is)
    ]

pub adds-product : (sums : List GuardedSum) (at : ℕ) (old new : GuardedSum) (product : ℤ) → at < length sums → get_or sums at zero_sum ≡ old →
    new.value ≡ old.value +ℤ product → new.size ≡ old.size + unsigned_abs product → AddsProduct sums (set sums at new) at product
adds-product sums at old new product inside read value size =
    record {
      length_kept = length-set sums at new;
      value = ap (λ (s : GuardedSum). s.value) (read-here sums at new inside) ∙ value ∙ ap (λ (s : GuardedSum). s.value +ℤ product) (sym read);
      size = ap (λ (s : GuardedSum). s.size) (read-here sums at new inside) ∙ size ∙ ap (λ (s : GuardedSum). s.size + unsigned_abs product) (sym read);
      others = λ j apart. read-other sums at new j apart;
    }

-- what all sums come to in size
pub sizes-cleared : (sums : List GuardedSum) (at : ℕ) (none : GuardedSum) → at < length sums → none.value ≡ pos 0 →
    sizes_total (set sums at none) +ℤ absolute (value_at sums at)
    ≡ sizes_total sums
sizes-cleared sums at none inside empty =
    let weight = λ (s : GuardedSum). absolute s.value in
    let changed = sum_below-changed (length sums) at (λ j. weight (get_or sums j zero_sum)) (λ j. weight (get_or (set sums at none) j zero_sum)) inside
    (λ j _ apart. ap weight (read-other sums at none j apart)) in
    let here = ap weight (read-here sums at none inside) in
    let gone = ap absolute empty in
    let size = ap (λ (n : ℕ). sum_below n (λ j. weight (get_or (set sums at none) j zero_sum))) (length-set sums at none) in
    omega (arith, int_sums, changed, here, gone, size)

pub sizes-nonnegative : (sums : List GuardedSum) → pos 0 ≤ℤ sizes_total sums
sizes-nonnegative sums = sum_below-nonnegative (length sums) (λ j. absolute (value_at sums j)) (λ j _. omega (arith, int_sums))

pub sizes-clear : (sums : List GuardedSum) → IsClear sums → sizes_total sums ≡ pos 0
sizes-clear sums clear = sum_below-zero (length sums) (λ j. absolute (value_at sums j)) (λ j h. ap absolute (clear j h).0)

-- the last position noted is cleared
pub tracked-popped : (sums : List GuardedSum) (touched touched' : List ℕ) (capacity capacity' at : ℕ) (none : GuardedSum) → IsTracked sums touched capacity →
    touched ≡ touched' ++ at ∷ [] → capacity' ≡ capacity → none.size ≡ 0 → (at < length sums) × IsTracked (set sums at none) touched' capacity'
tracked-popped sums touched touched' capacity capacity' at none tracked popped room empty =
    let P : List ℕ → Type 0 = λ xs. IsTracked sums xs capacity in
    let Q : ℕ → Type 0 = λ n. (at < length sums) × IsTracked (set sums at none) touched' n in
    subst Q (sym room) (tracked-cleared sums touched' capacity at none (subst P popped tracked) empty)

-- a sum moves from the list to the total
pub drain-step : (sums : List GuardedSum) (at : ℕ) (none : GuardedSum) (v : ℤ) (total total' : ℕ) (whole : ℤ) → at < length sums → none.value ≡ pos 0 →
    value_at sums at ≡ v → total' ≡ total + unsigned_abs v → pos total +ℤ sizes_total sums ≡ whole → pos total' +ℤ sizes_total (set sums at none) ≡ whole
drain-step sums at none v total total' whole inside empty read more before =
    let step = sizes-cleared sums at none inside empty in
    let size = ap absolute read in
    omega (arith, int_sums, step, size, more, before)

-- one sum alone reaches the limit
pub drain-stop : (sums : List GuardedSum) (at : ℕ) (v : ℤ) (total : ℕ) (whole limit : ℤ) → at < length sums → value_at sums at ≡ v →
    limit ≤ℤ (pos total +ℤ absolute v) → pos total +ℤ sizes_total sums ≡ whole → limit ≤ℤ whole
drain-stop sums at v total whole limit inside read reached before =
    let step = sizes-cleared sums at zero_sum inside refl in
    let size = ap absolute read in
    let rest = sizes-nonnegative (set sums at zero_sum) in
    omega (arith, int_sums, step, size, rest, reached, before)
