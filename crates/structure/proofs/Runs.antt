-- Lists of numbers one after the other: rising, where each is and lies behind those before it.
use Rattle.std.proofs.Common.{◌≡◌, ℕ, zero, suc, ◌+◌, ◌-◌, ◌<◌, ◌≤◌, inl, inr, List, [], ◌∷◌, ◌++◌, length, length-append, get_or, sym, ap, ◌∙◌, subst, arith, map-id}
use Rattle.std.specs.Prelude.{Contains, replicate}
use Rattle.std.specs.List.{flat_map, range_with_len}
use Rattle.std.proofs.lemmas.Bool.{cases_lt}
use Rattle.std.proofs.lemmas.List.{flat_map_more, get_or_append_left, get_or-append-add}
use Rattle.std.proofs.lemmas.List.Elements.{Contains-get_or, Contains-append_left, Contains-append_right, Contains-append_cases}
use Rattle.std.proofs.lemmas.List.FromFn.{map-range_with_len_more}
use Rattle.lists.specs.Rising.{IsRising}

range_more : (n : ℕ) → range_with_len 0 (n + 1) ≡ range_with_len 0 n ++ n ∷ []
range_more n =
    let step = map-range_with_len_more (λ (k : ℕ). k) 0 n n (omega arith) in
    rw (map-id (range_with_len 0 (n + 1)), map-id (range_with_len 0 n)) at step

-- the lists of one more number
pub flat_map_range_more : {X : Type 0} (f : ℕ → List X) (old : List X) (n : ℕ) →
    (old ++ flat_map f (range_with_len 0 n)) ++ f n ≡ old ++ flat_map f (range_with_len 0 (n + 1))
flat_map_range_more f old n = flat_map_more f old (range_with_len 0 n) n ∙ ap (λ (ns : List ℕ). old ++ flat_map f ns) (sym (range_more n))

-- the lists of the numbers below n, one after the other
abbrev pub joined : (ℕ → List ℕ) → ℕ → List ℕ
joined f n = flat_map f (range_with_len 0 n)

pub joined-more : (f : ℕ → List ℕ) (n : ℕ) → joined f n ++ f n ≡ joined f (suc n)
joined-more f n =
    flat_map_range_more f [] n ∙ ap (λ (k : ℕ). flat_map f (range_with_len 0 k)) (let next : n + 1 ≡ suc n = omega arith in next)

-- what one of them contains, all of them do
pub joined-has : (f : ℕ → List ℕ) (n i k : ℕ) → i < n → Contains (f i) k → Contains (joined f n) k
joined-has f zero i k below has = absurd (omega arith)
joined-has f (suc n) i k below has =
    subst (λ (xs : List ℕ). Contains xs k) (joined-more f n)
    (elim (cases_lt i n) [
      | inl before ↦ Contains-append_left (joined f n) (f n) k (joined-has f n i k before has)
      | inr last ↦ Contains-append_right (joined f n) (f n) k (subst (λ (j : ℕ). Contains (f j) k) (let same : i ≡ n = omega arith in same) has)
    ])

-- and the other way round
pub joined-from : (f : ℕ → List ℕ) (n k : ℕ) → Contains (joined f n) k → (i : ℕ) × (i < n) × Contains (f i) k
joined-from f zero k has = absurd (omega (arith, has.1))
joined-from f (suc n) k has =
    elim (Contains-append_cases (joined f n) (f n) k (subst (λ (xs : List ℕ). Contains xs k) (sym (joined-more f n)) has)) [
      | inl before ↦ let one = joined-from f n k before in (one.0, omega (arith, one.1), one.2)
      | inr last ↦ (n, omega arith, last)
    ]

-- ---- runs

-- rising numbers from one on to below another
pub record IsRun (least past : ℕ) (xs : List ℕ) : Type 0 where
  pub rising : IsRising xs
  pub inside : (k : ℕ) → Contains xs k → (least ≤ k) × (k < past)

pub run-within : (a b c d : ℕ) (xs : List ℕ) → a ≤ b → c ≤ d → IsRun b c xs → IsRun a d xs
run-within a b c d xs low high run = record {
  rising = run.rising;
  inside = λ k has. let own = run.inside k has in (omega (arith, own.0), omega (arith, own.1));
}

no_run : (a b : ℕ) → IsRun a b []
no_run a b = record { rising = λ i j d before inside. absurd (omega (arith, inside)); inside = λ k has. absurd (omega (arith, has.1)) }

-- at most once one number
pub replicate-run : (count k : ℕ) → count ≤ 1 → IsRun k (suc k) (replicate count k)
replicate-run zero k few = no_run k (suc k)
replicate-run (suc zero) k few = record {
  rising = λ i j d before inside. absurd (omega (arith, before, inside));
  inside = λ n has. let same = only k n has in (omega (arith, same), omega (arith, same));
}
  where
    only : (k n : ℕ) → Contains (k ∷ []) n → k ≡ n
    only k n (zero, inside, is) = is
    only k n (suc i, inside, is) = absurd (omega (arith, inside))
replicate-run (suc (suc count)) k few = absurd (omega arith)

append-run : (a b c : ℕ) (xs ys : List ℕ) → a ≤ b → b ≤ c → IsRun a b xs → IsRun b c ys → IsRun a c (xs ++ ys)
append-run a b c xs ys low high first second = record {
  rising = λ i j d before inside. elim (cases_lt j (length xs)) [
    | inl left ↦
        let left_too : i < length xs = omega (arith, before, left) in
        rw (get_or_append_left xs ys d i left_too, get_or_append_left xs ys d j left) (first.rising i j d before left)
    | inr right ↦
        let room : j - length xs < length ys = omega (arith, inside, length-append xs ys) in
        let at : get_or (xs ++ ys) j d ≡ get_or ys (j - length xs) d =
        ap (λ (k : ℕ). get_or (xs ++ ys) k d) (let same : j ≡ length xs + (j - length xs) = omega arith in same) ∙ get_or-append-add xs ys (j - length xs) d in
        elim (cases_lt i (length xs)) [
          | inl left ↦
              let one = first.inside (get_or xs i d) (Contains-get_or xs i d left) in
              let other = second.inside (get_or ys (j - length xs) d) (Contains-get_or ys (j - length xs) d room) in
              rw (get_or_append_left xs ys d i left, at) (omega (arith, one.1, other.0))
          | inr right_too ↦
              let at_too : get_or (xs ++ ys) i d ≡ get_or ys (i - length xs) d =
              ap (λ (k : ℕ). get_or (xs ++ ys) k d) (let same : i ≡ length xs + (i - length xs) = omega arith in same) ∙ get_or-append-add xs ys (i - length xs) d in
              rw (at, at_too) (second.rising (i - length xs) (j - length xs) d (omega (arith, before)) room)
        ]
  ];
  inside = λ k has. elim (Contains-append_cases xs ys k has) [
    | inl left ↦ let own = first.inside k left in (own.0, omega (arith, own.1))
    | inr right ↦ let own = second.inside k right in (omega (arith, own.0), own.1)
  ];
}

-- runs one behind the other are one
pub joined-run : (f : ℕ → List ℕ) (start : ℕ → ℕ) (n : ℕ) →
    ((i : ℕ) → i < n → (start i ≤ start (suc i)) × IsRun (start i) (start (suc i)) (f i)) →
    (start 0 ≤ start n) × IsRun (start 0) (start n) (joined f n)
joined-run f start zero each = (omega arith, no_run (start 0) (start 0))
joined-run f start (suc n) each =
    let before = joined-run f start n (λ i below. each i (omega arith)) in
    let own = each n (omega arith) in (
      omega (arith, before.0, own.0),
      subst (IsRun (start 0) (start (suc n))) (joined-more f n)
          (append-run (start 0) (start n) (start (suc n)) (joined f n) (f n) before.0 own.0 before.1 own.1),
    )
