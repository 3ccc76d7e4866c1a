-- Numbers of a square, changed one after another.
use Rattle.std.proofs.Common.{◌≡◌, ℕ, ◌+◌, ◌-◌, ◌*◌, ◌^◌, ◌<◌, ◌≤◌, List, length, get_or, set, take, drop, ◌∙◌, ap, sym, refl, arith, subst, ◌⊎◌, inl, inr, mul-le-mul_left, ℤ, pos, ◌+ℤ◌, ◌-ℤ◌, ◌*ℤ◌, neg_ℤ, to_z, of_z}
use Rattle.std.specs.Int.{w128}
use Rattle.std.specs.Int.RustNames.{unsigned_abs}
use Rattle.std.proofs.lemmas.Bool.{cases_eq, cases_lt}
use Rattle.std.proofs.lemmas.List.{get_or-set_same, get_or-set_other, length-take, length-drop}
use Rattle.int_laws.proofs.Sums.{int_sums}
use Rattle.int_laws.proofs.SumLaws.{sum_below-same}
use Rattle.dense_front.specs.Square.{at_square, by_rows, dot_of, row_products, RaisesFrom, PutsFrom}
use Rattle.dense_front.proofs.EntryLemmas.{sliced_dot, rest_is}
use Rattle.dense_front.proofs.CastLemmas.{wide_is}

pub raises-none : (old : List ℤ) (start : ℕ) (by : ℕ → ℤ) → RaisesFrom old old start 0 by
raises-none old start by = record { raised = λ t lt. absurd (omega arith); others = λ s apart. refl }

pub raises-more : (old cur : List ℤ) (start t : ℕ) (by : ℕ → ℤ) (y : ℤ) → start + t < length cur → RaisesFrom old cur start t by → y ≡ get_or cur (start + t) (pos 0) +ℤ by t → RaisesFrom old (set cur (start + t) y) start (t + 1) by
raises-more old cur start t by y in' done is =
    record {
      raised = λ u lt.
          elim (cases_eq u t) [
            | inl e ↦
                (let P : ℕ → Type 0 = λ x. get_or (set cur (start + t) y) (start + x) (pos 0) ≡ get_or old (start + x) (pos 0) +ℤ by x in
                subst P (sym e) (get_or-set_same cur (start + t) y (pos 0) in' ∙ is ∙ ap (λ z. z +ℤ by t) (done.others (start + t) (inr (omega arith)))))
            | inr apart ↦ get_or-set_other cur (start + t) (start + u) y (pos 0) (λ q. apart (omega arith)) ∙ done.raised u (omega arith)
          ];
      others = λ s side.
          get_or-set_other cur (start + t) s y (pos 0) (λ q. elim side [ inl lt ↦ omega arith | inr ge ↦ omega arith ])
          ∙ done.others s (elim side [ inl lt ↦ inl lt | inr ge ↦ inr (omega arith) ]);
    }

pub put_on : (x y : ℤ) → unsigned_abs x < 2 ^ 126 → unsigned_abs y < 2 ^ 113 → to_z w128 (of_z w128 (to_z w128 (of_z w128 x) +ℤ to_z w128 (of_z w128 y))) ≡ x +ℤ y
put_on x y x-small y-small =
    ap (λ z. to_z w128 (of_z w128 (z +ℤ to_z w128 (of_z w128 y)))) (wide_is x (omega arith))
    ∙ ap (λ z. to_z w128 (of_z w128 (x +ℤ z))) (wide_is y (omega arith))
    ∙ wide_is (x +ℤ y) (omega (arith, int_sums))

pub taken_off : (x taken exact : ℤ) → unsigned_abs x < 2 ^ 126 → unsigned_abs taken < 2 ^ 117 → taken ≡ exact → to_z w128 (of_z w128 (to_z w128 (of_z w128 x) -ℤ to_z w128 (of_z w128 taken))) ≡ x +ℤ neg_ℤ exact
taken_off x taken exact small taken-small is = rest_is x taken small taken-small ∙ ap (λ z. x -ℤ z) is ∙ omega (arith, int_sums)

-- the products that are taken off
pub products_are : (entries : List ℤ) (row column : ℕ) → 6 * row + 6 ≤ length entries → dot_of (length (take (6 * row + 6 - 6 * row) (drop (6 * row) entries))) (take (6 * row + 6 - 6 * row) (drop (6 * row) entries)) (take (6 * column + 6 - 6 * column) (drop (6 * column) entries)) ≡ row_products entries row column
products_are entries row column in' =
    let len : length (take (6 * row + 6 - 6 * row) (drop (6 * row) entries)) ≡ 6 = omega (arith, length-take (6 * row + 6 - 6 * row) (drop (6 * row) entries), length-drop (6 * row) entries, in') in
    sliced_dot entries 6 (6 * row + 6 - 6 * row) (6 * column + 6 - 6 * column) (6 * row) (6 * column) len (omega arith) (omega arith)

-- a place of a square has one row and one column
pub column-before : (size c d r : ℕ) → c < d → r < size → size * c + r < size * d
column-before size c d r lt rl = let wide : size * (c + 1) ≤ size * d = mul-le-mul_left size (omega arith) in omega (arith, wide)

-- ---- numbers put in the place of others
pub puts-none : (old : List ℤ) (start : ℕ) (f : ℕ → ℤ) → PutsFrom old old start 0 f
puts-none old start f = record { put = λ t lt. absurd (omega arith); others = λ s apart. refl }

pub puts-more : (old cur : List ℤ) (start t : ℕ) (f : ℕ → ℤ) (y : ℤ) → start + t < length cur → PutsFrom old cur start t f → y ≡ f t → PutsFrom old (set cur (start + t) y) start (t + 1) f
puts-more old cur start t f y in' done is =
    record {
      put = λ u lt.
          elim (cases_eq u t) [
            | inl e ↦ (let P : ℕ → Type 0 = λ x. get_or (set cur (start + t) y) (start + x) (pos 0) ≡ f x in subst P (sym e) (get_or-set_same cur (start + t) y (pos 0) in' ∙ is))
            | inr apart ↦ get_or-set_other cur (start + t) (start + u) y (pos 0) (λ q. apart (omega arith)) ∙ done.put u (omega arith)
          ];
      others = λ s side.
          get_or-set_other cur (start + t) s y (pos 0) (λ q. elim side [ inl lt ↦ omega arith | inr ge ↦ omega arith ])
          ∙ done.others s (elim side [ inl lt ↦ inl lt | inr ge ↦ inr (omega arith) ]);
    }
