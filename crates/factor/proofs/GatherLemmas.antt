-- Blocks raised one after another, for the nodes that an earlier node reaches.
use Rattle.std.proofs.Common.{◌≡◌, ℕ, suc, ◌+◌, ◌-◌, ◌*◌, ◌/◌, ◌%◌, ◌^◌, ◌<◌, ◌≤◌, Bool, cond, ltb, List, length, get_or, set, take, drop, ◌∙◌, ap, sym, arith, subst, ◌⊎◌, inl, inr, mul-suc, mul-le-mul_left, ℤ, pos, ◌+ℤ◌, ◌-ℤ◌, ◌*ℤ◌, neg_ℤ, to_z, of_z}
use Rattle.std.specs.Int.{w128}
use Rattle.std.specs.Int.RustNames.{unsigned_abs}
use Rattle.std.proofs.lemmas.Bool.{cases_lt, cases_eq, lt-ltb, le-ltb}
use Rattle.std.proofs.lemmas.List.{get_or-set_same, get_or-set_other, get_or_past, length-take, length-drop}
use Rattle.int_laws.proofs.Sums.{int_sums}
use Rattle.int_laws.proofs.Products.{zero-mul}
use Rattle.int_laws.proofs.SumLaws.{sum_below-same, sum_below-zero}
use Rattle.lists.specs.Rising.{IsRising}
use Rattle.lists.specs.Order.{place_of}
use Rattle.lists.proofs.PlaceLemmas.{place_of-at, at_place_of}
use Rattle.factor.specs.Panel.{kept_for, partial_product}
use Rattle.factor.specs.Gather.{products_at, entry_products, block_product, UpdatesBlock}
use Rattle.factor.proofs.EntryLemmas.{sliced_dot, rest_is}
use Rattle.factor.proofs.CastLemmas.{wide_is}

-- the first t numbers of a block are raised
abbrev pub IsRaisedTo : (old new : List ℤ) (base : ℕ) (by : ℕ → ℤ) → ℕ → Type 0
IsRaisedTo old new base by t =
    ((u : ℕ) → u < t → get_or new (base + u) (pos 0) ≡ get_or old (base + u) (pos 0) +ℤ by u)
    × ((s : ℕ) → (s < base) ⊎ (base + t ≤ s) → get_or new s (pos 0) ≡ get_or old s (pos 0))

pub raised_more : (old cur : List ℤ) (base t : ℕ) (by : ℕ → ℤ) (y : ℤ) → base + t < length cur → IsRaisedTo old cur base by t → y ≡ get_or cur (base + t) (pos 0) +ℤ by t → IsRaisedTo old (set cur (base + t) y) base by (t + 1)
raised_more old cur base t by y in' done is = (
  λ u lt.
      elim (cases_eq u t) [
        | inl e ↦
            (let P : ℕ → Type 0 = λ x. get_or (set cur (base + t) y) (base + x) (pos 0) ≡ get_or old (base + x) (pos 0) +ℤ by x in
            subst P (sym e) (get_or-set_same cur (base + t) y (pos 0) in' ∙ is ∙ ap (λ z. z +ℤ by t) (done.1 (base + t) (inr (omega arith)))))
        | inr apart ↦ get_or-set_other cur (base + t) (base + u) y (pos 0) (λ q. apart (omega arith)) ∙ done.0 u (omega arith)
      ],
  λ s side.
      get_or-set_other cur (base + t) s y (pos 0) (λ q. elim side [ inl lt ↦ omega arith | inr ge ↦ omega arith ])
      ∙ done.1 s (elim side [ inl lt ↦ inl lt | inr ge ↦ inr (omega arith) ]),
)

-- the products that are taken off
pub products_are : (entries : List ℤ) (row column t : ℕ) → 36 * row + 36 ≤ length entries → t < 36 → partial_product (length (take (36 * row + 6 * (t / 6) + 6 - (36 * row + 6 * (t / 6))) (drop (36 * row + 6 * (t / 6)) entries))) (take (36 * row + 6 * (t / 6) + 6 - (36 * row + 6 * (t / 6))) (drop (36 * row + 6 * (t / 6)) entries)) (take (36 * column + 6 * (t % 6) + 6 - (36 * column + 6 * (t % 6))) (drop (36 * column + 6 * (t % 6)) entries)) ≡ products_at entries row column t
products_are entries row column t in' lt =
    let left = 36 * row + 6 * (t / 6) in
    let right = 36 * column + 6 * (t % 6) in
    let len : length (take (left + 6 - left) (drop left entries)) ≡ 6 = omega (arith, length-take (left + 6 - left) (drop left entries), length-drop left entries, in') in
    sliced_dot entries 6 (left + 6 - left) (right + 6 - right) left right len (omega arith) (omega arith)
    ∙ sum_below-same 6 _ _ (λ c cl.
    let at : left + c ≡ 36 * row + (6 * (t / 6) + c) = omega arith in
    let at' : right + c ≡ 36 * column + (6 * (t % 6) + c) = omega arith in
    ap (λ n. get_or entries n (pos 0) *ℤ get_or entries (right + c) (pos 0)) at
    ∙ ap (λ n. get_or entries (36 * row + (6 * (t / 6) + c)) (pos 0) *ℤ get_or entries n (pos 0)) at')

pub taken_off : (x taken exact : ℤ) → unsigned_abs x < 2 ^ 126 → unsigned_abs taken < 2 ^ 117 → taken ≡ exact → to_z w128 (of_z w128 (to_z w128 (of_z w128 x) -ℤ to_z w128 (of_z w128 taken))) ≡ x +ℤ neg_ℤ exact
taken_off x taken exact small taken-small is = rest_is x taken small taken-small ∙ ap (λ z. x -ℤ z) is ∙ omega (arith, int_sums)

pub put_on : (x y : ℤ) → unsigned_abs x < 2 ^ 126 → unsigned_abs y < 2 ^ 120 → to_z w128 (of_z w128 (to_z w128 (of_z w128 x) +ℤ to_z w128 (of_z w128 y))) ≡ x +ℤ y
put_on x y x-small y-small =
    ap (λ z. to_z w128 (of_z w128 (z +ℤ to_z w128 (of_z w128 y)))) (wide_is x (omega arith))
    ∙ ap (λ z. to_z w128 (of_z w128 (x +ℤ z))) (wide_is y (omega arith))
    ∙ wide_is (x +ℤ y) (omega (arith, int_sums))

-- ---- the nodes that are reached, from one on
abbrev pub shown : Bool → ℤ → ℤ
shown b z = cond b z (pos 0)

-- the blocks of the nodes that stand before place p are raised
abbrev pub IsGatheredTo : (width : ℕ) (nodes reached : List ℕ) (old new : List ℤ) (least : ℕ) (by : ℕ → ℕ → ℤ) → ℕ → Type 0
IsGatheredTo width nodes reached old new least by p =
    (q t : ℕ) → least ≤ q → t < width → kept_for width nodes new q t ≡ kept_for width nodes old q t +ℤ shown (ltb (place_of q reached) p) (by q t)

plus_none : (z : ℤ) → z ≡ z +ℤ pos 0
plus_none z = omega (arith, int_sums)

pub gathered_none : (width : ℕ) (nodes reached : List ℕ) (old : List ℤ) (least : ℕ) (by : ℕ → ℕ → ℤ) (p : ℕ) → IsRising reached → p < length reached → get_or reached p 0 ≡ least → IsGatheredTo width nodes reached old old least by p
gathered_none width nodes reached old least by p up in' is q t le tl =
    let late : p ≤ place_of q reached =
    elim (cases_lt (place_of q reached) p) [
      | inl early ↦
          (let named = at_place_of reached q (omega arith) in
          let before = up (place_of q reached) p 0 early in' in
          absurd (omega arith))
      | inr ok ↦ ok
    ]
    in
    plus_none (kept_for width nodes old q t) ∙ ap (λ b. kept_for width nodes old q t +ℤ shown b (by q t)) (sym (le-ltb (place_of q reached) p late))

-- a place of another block
apart_blocks : (width a b t : ℕ) → (a ≡ b → ⊥) → t < width → (width * a + t < width * b) ⊎ (width * b + width ≤ width * a + t)
apart_blocks width a b t apart lt =
    elim (cases_lt a b) [
      | inl less ↦ (let le : suc a ≤ b = omega arith in inl (omega (arith, mul-le-mul_left width le, mul-suc width a)))
      | inr ge ↦ (let le : suc b ≤ a = omega arith in inr (omega (arith, mul-le-mul_left width le, mul-suc width b)))
    ]

pub gathered_more : (width : ℕ) (nodes reached : List ℕ) (old cur new : List ℤ) (least : ℕ) (by : ℕ → ℕ → ℤ) (p target : ℕ) → IsRising nodes → IsRising reached → p < length reached → target < length nodes → get_or nodes target 0 ≡ get_or reached p 0 → IsGatheredTo width nodes reached old cur least by p → UpdatesBlock width cur new target (by (get_or reached p 0)) → IsGatheredTo width nodes reached old new least by (p + 1)
gathered_more width nodes reached old cur new least by p target n-up r-up in' target-in is done raised q t le tl =
    let q' = get_or reached p 0 in
    elim (cases_eq (place_of q reached) p) [
      | inl here ↦
          (let named : q' ≡ q = ap (λ x. get_or reached x 0) (sym here) ∙ at_place_of reached q (omega arith) in
          let place : place_of q nodes ≡ target = ap (λ x. place_of x nodes) (sym named ∙ sym is) ∙ place_of-at nodes target n-up target-in in
          let before = done q t le tl ∙ ap (λ b. kept_for width nodes old q t +ℤ shown b (by q t)) (le-ltb (place_of q reached) p (omega arith)) in
          let step : kept_for width nodes new q t ≡ kept_for width nodes cur q t +ℤ by q t =
          ap (λ x. get_or new (width * x + t) (pos 0)) place ∙ raised.raised t tl
          ∙ ap (λ x. get_or cur (width * x + t) (pos 0) +ℤ by q' t) (sym place)
          ∙ ap (λ x. kept_for width nodes cur q t +ℤ by x t) named
          in
          step ∙ ap (λ z. z +ℤ by q t) before ∙ ap (λ z. z +ℤ by q t) (sym (plus_none (kept_for width nodes old q t)))
          ∙ ap (λ b. kept_for width nodes old q t +ℤ shown b (by q t)) (sym (lt-ltb (place_of q reached) (p + 1) (omega arith))))
      | inr other ↦
          let place : place_of q nodes ≡ target → ⊥ =
          λ e.
          let named : get_or nodes target 0 ≡ q = ap (λ x. get_or nodes x 0) (sym e) ∙ at_place_of nodes q (omega arith) in
          let at : place_of q reached ≡ p = ap (λ x. place_of x reached) (sym named ∙ is) ∙ place_of-at reached p r-up in' in
          other at
          in
          raised.others (width * place_of q nodes + t) (apart_blocks width (place_of q nodes) target t place tl)
          ∙ done q t le tl
          ∙ ap (λ b. kept_for width nodes old q t +ℤ shown b (by q t)) (same_test (place_of q reached) p other)
    ]
  where
    same_test : (a p : ℕ) → (a ≡ p → ⊥) → ltb a p ≡ ltb a (p + 1)
    same_test a p apart =
        elim (cases_lt a p) [
          | inl lt ↦ lt-ltb a p lt ∙ sym (lt-ltb a (p + 1) (omega arith))
          | inr ge ↦ le-ltb a p ge ∙ sym (le-ltb a (p + 1) (omega arith))
        ]

-- all blocks: a node that is not reached has nothing to give
pub gathered_all : (width : ℕ) (nodes reached : List ℕ) (old new : List ℤ) (least : ℕ) (by : ℕ → ℕ → ℤ) → ((q t : ℕ) → length reached ≤ place_of q reached → t < width → by q t ≡ pos 0) → IsGatheredTo width nodes reached old new least by (length reached) → (q t : ℕ) → least ≤ q → t < width → kept_for width nodes new q t ≡ kept_for width nodes old q t +ℤ by q t
gathered_all width nodes reached old new least by none done q t le tl =
    elim (cases_lt (place_of q reached) (length reached)) [
      | inl lt ↦ done q t le tl ∙ ap (λ b. kept_for width nodes old q t +ℤ shown b (by q t)) (lt-ltb (place_of q reached) (length reached) lt)
      | inr ge ↦
          done q t le tl ∙ ap (λ b. kept_for width nodes old q t +ℤ shown b (by q t)) (le-ltb (place_of q reached) (length reached) ge)
          ∙ ap (λ z. kept_for width nodes old q t +ℤ z) (sym (none q t ge tl))
    ]

-- numbers kept for a node that is not listed
pub kept_for-past : (width : ℕ) (nodes : List ℕ) (values : List ℤ) (q s : ℕ) → length values ≤ width * length nodes → length nodes ≤ place_of q nodes → kept_for width nodes values q s ≡ pos 0
kept_for-past width nodes values q s whole le =
    get_or_past values (width * place_of q nodes + s) (pos 0) (omega (arith, mul-le-mul_left width le, whole))

-- the products at the places of two nodes
pub products_match : (reached : List ℕ) (entries : List ℤ) (node q row column t : ℕ) → place_of q reached ≡ row → place_of node reached ≡ column → entry_products entries row column t ≡ neg_ℤ (block_product reached entries node q t)
products_match reached entries node q row column t at at' =
    ap (λ x. neg_ℤ (products_at entries x column t)) (sym at) ∙ ap (λ x. neg_ℤ (products_at entries (place_of q reached) x t)) (sym at')

pub UpdatesBlock-same : (width : ℕ) (old new : List ℤ) (place : ℕ) (f g : ℕ → ℤ) → ((t : ℕ) → f t ≡ g t) → UpdatesBlock width old new place f → UpdatesBlock width old new place g
UpdatesBlock-same width old new place f g same u =
    record { raised = λ t lt. u.raised t lt ∙ ap (λ z. get_or old (width * place + t) (pos 0) +ℤ z) (same t); others = u.others }

-- a block that is not yet raised
pub unraised : (width : ℕ) (nodes reached : List ℕ) (old cur : List ℤ) (least : ℕ) (by : ℕ → ℕ → ℤ) (p target t : ℕ) → IsRising nodes → IsRising reached → p < length reached → target < length nodes → get_or nodes target 0 ≡ get_or reached p 0 → least ≤ get_or reached p 0 → t < width → IsGatheredTo width nodes reached old cur least by p → get_or cur (width * target + t) (pos 0) ≡ get_or old (width * target + t) (pos 0)
unraised width nodes reached old cur least by p target t n-up r-up in' target-in is le tl done =
    let q = get_or reached p 0 in
    let place : place_of q nodes ≡ target = ap (λ x. place_of x nodes) (sym is) ∙ place_of-at nodes target n-up target-in in
    let late : place_of q reached ≡ p = place_of-at reached p r-up in' in
    ap (λ x. get_or cur (width * x + t) (pos 0)) (sym place)
    ∙ done q t le tl
    ∙ ap (λ b. kept_for width nodes old q t +ℤ shown b (by q t)) (le-ltb (place_of q reached) p (omega arith))
    ∙ sym (plus_none (kept_for width nodes old q t))
    ∙ ap (λ x. get_or old (width * x + t) (pos 0)) place

-- a node that is not reached has no products
pub products_none : (reached : List ℕ) (entries : List ℤ) (node q t : ℕ) → length entries ≡ 36 * length reached → length reached ≤ place_of q reached → neg_ℤ (block_product reached entries node q t) ≡ pos 0
products_none reached entries node q t whole le =
    let none = sum_below-zero 6 (λ c. kept_for 36 reached entries q (6 * (t / 6) + c) *ℤ kept_for 36 reached entries node (6 * (t % 6) + c))
    (λ c lt. ap (λ z. z *ℤ kept_for 36 reached entries node (6 * (t % 6) + c)) (kept_for-past 36 reached entries q (6 * (t / 6) + c) (omega (arith, whole)) le) ∙ zero-mul (kept_for 36 reached entries node (6 * (t % 6) + c)))
    in
    omega (arith, int_sums)

-- a node at or past a place is at least the node there
pub reached_from : (reached : List ℕ) (least column p : ℕ) → IsRising reached → column < length reached → get_or reached column 0 ≡ least → column ≤ p → p < length reached → least ≤ get_or reached p 0
reached_from reached least column p up in' is le lt =
    elim (cases_eq column p) [
      | inl e ↦ (let P : ℕ → Type 0 = λ x. least ≤ get_or reached x 0 in subst P e (omega (arith, is)))
      | inr apart ↦ (let before = up column p 0 (omega arith) lt in omega arith)
    ]

pub minus_is : (x y : ℤ) → x +ℤ neg_ℤ y ≡ x -ℤ y
minus_is x y = omega (arith, int_sums)
