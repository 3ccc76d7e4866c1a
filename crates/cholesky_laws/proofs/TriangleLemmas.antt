-- Lower triangles by columns, and the rows of fronts.
use Rattle.std.proofs.Common.{◌≡◌, ℕ, zero, suc, ◌+◌, ◌-◌, ◌*◌, ◌/◌, ◌%◌, ◌<◌, ◌≤◌, List, [], ◌∷◌, length, get_or, Contains, ◌∙◌, sym, ap, refl, arith, inl, inr, ℤ, pos}
use Rattle.std.proofs.lemmas.Bool.{cases_lt, cases_eq}
use Rattle.std.proofs.lemmas.List.{get_or_default, get_or_past, same_lists}
use Rattle.std.proofs.lemmas.List.FromFn.{get_or-map-range_with_len, length-map-range_with_len}
use Rattle.int_laws.specs.Matrices.{Entries}
use Rattle.lists.specs.Rising.{IsRising}
use Rattle.lists.specs.Listed.{listed}
use Rattle.lists.specs.Order.{place_of}
use Rattle.lists.specs.Rows.{freedom_at, position_of}
use Rattle.lists.proofs.PlaceLemmas.{place_of-at, place_of-absent, place_of-inside, at_place_of}
use Rattle.cholesky_laws.specs.Fronts.{Front, later_of, places_in, lower, lower_entry, IsBase}

length-listed : {X : Type 0} (n : ℕ) (f : ℕ → X) → length (listed n f) ≡ n
length-listed n f = length-map-range_with_len f 0 n

listed-read : {X : Type 0} (n : ℕ) (f : ℕ → X) (i : ℕ) (d : X) → i < n → get_or (listed n f) i d ≡ f i
listed-read n f i d lt = get_or-map-range_with_len f 0 n i i d lt (omega arith)

listed-same : {X : Type 0} (n : ℕ) (f g : ℕ → X) → ((i : ℕ) → i < n → f i ≡ g i) → listed n f ≡ listed n g
listed-same n f g same =
    same_lists (listed n f) (listed n g) (length-listed n f ∙ sym (length-listed n g)) (λ k d lt.
    let inside : k < n = omega (arith, lt, length-listed n f) in
    listed-read n f k d inside ∙ same k inside ∙ sym (listed-read n g k d inside))

-- ---- triangles
pub lower-same : (columns rows : ℕ) (f g : Entries) → ((r c : ℕ) → c < columns → c ≤ r → r < rows → f r c ≡ g r c) → lower columns rows f ≡ lower columns rows g
lower-same columns rows f g same =
    listed-same columns _ _ (λ c cl. listed-same (rows - c) (λ k. f (c + k) c) (λ k. g (c + k) c) (λ k kl. same (c + k) c cl (omega arith) (omega arith)))

pub lower-entry : (columns rows : ℕ) (f : Entries) (r c : ℕ) → c < columns → c ≤ r → r < rows → lower_entry (lower columns rows f) r c ≡ f r c
lower-entry columns rows f r c cl le rl =
    let back : c + (r - c) ≡ r = omega arith in
    ap (λ (xs : List ℤ). get_or xs (r - c) (pos 0)) (listed-read columns (λ d. listed (rows - d) (λ k. f (d + k) d)) c [] cl)
    ∙ listed-read (rows - c) (λ k. f (c + k) c) (r - c) (pos 0) (omega arith)
    ∙ ap (λ x. f x c) back

-- past their ends they are 0
pub lower-past_columns : (columns rows : ℕ) (f : Entries) (r c : ℕ) → columns ≤ c → lower_entry (lower columns rows f) r c ≡ pos 0
lower-past_columns columns rows f r c past =
    ap (λ (xs : List ℤ). get_or xs (r - c) (pos 0)) (get_or_past (lower columns rows f) c [] (omega (arith, length-listed columns (λ (d : ℕ). listed (rows - d) (λ k. f (d + k) d)))))

pub lower-past : (columns rows : ℕ) (f : Entries) (r c : ℕ) → rows ≤ r → lower_entry (lower columns rows f) r c ≡ pos 0
lower-past columns rows f r c past =
    elim (cases_lt c columns) [
      | inl cl ↦
          let column = λ (d : ℕ). listed (rows - d) (λ k. f (d + k) d) in
          ap (λ (xs : List ℤ). get_or xs (r - c) (pos 0)) (listed-read columns column c [] cl)
          ∙ get_or_past (column c) (r - c) (pos 0) (omega (arith, length-listed (rows - c) (λ k. f (c + k) c)))
      | inr out ↦ lower-past_columns columns rows f r c out
    ]

-- ---- rows of a list of places
pub row-parts : (ns : List ℕ) (r : ℕ) → (freedom_at ns r / 6 ≡ get_or ns (r / 6) 0) × (freedom_at ns r % 6 ≡ r % 6)
row-parts ns r = (omega arith, omega arith)

pub own-row : (base : List Front) (f c : ℕ) → c < 6 → freedom_at (places_in base f) c ≡ 6 * f + c
own-row base f c lt =
    let first : c / 6 ≡ 0 = omega arith in
    let rest : c % 6 ≡ c = omega arith in
    ap (λ (p : ℕ). 6 * get_or (places_in base f) p 0 + c % 6) first ∙ ap (λ (x : ℕ). 6 * f + x) rest

pub later-row : (base : List Front) (f r : ℕ) → freedom_at (places_in base f) (6 + r) ≡ freedom_at (later_of base f) r
later-row base f r =
    let next : (6 + r) / 6 ≡ suc (r / 6) = omega arith in
    let rest : (6 + r) % 6 ≡ r % 6 = omega arith in
    ap (λ (p : ℕ). 6 * get_or (places_in base f) p 0 + (6 + r) % 6) next ∙ ap (λ (x : ℕ). 6 * get_or (later_of base f) (r / 6) 0 + x) rest

contained : (ns : List ℕ) (p : ℕ) → p < length ns → Contains ns (get_or ns p 0)
contained ns p lt = (p, lt, get_or_default ns p (get_or ns p 0) 0 lt)

rising-cons : (f : ℕ) (ns : List ℕ) → IsRising ns → ((q : ℕ) → Contains ns q → f < q) → (i j d : ℕ) → i < j → j < length (f ∷ ns) → get_or (f ∷ ns) i d < get_or (f ∷ ns) j d
rising-cons f ns up above zero zero d lt jl = absurd (omega arith)
rising-cons f ns up above (suc i) zero d lt jl = absurd (omega arith)
rising-cons f ns up above zero (suc j) d lt jl = above (get_or ns j d) (j, omega arith, get_or_default ns j (get_or ns j d) d (omega arith))
rising-cons f ns up above (suc i) (suc j) d lt jl = up i j d (omega arith) (omega arith)

pub places-rising : (base : List Front) → IsBase base → (f : ℕ) → IsRising (places_in base f)
places-rising base b f = rising-cons f (later_of base f) (b.rising f) (λ q h. (b.above f q h).0)

-- a row past a front's own is of one of its later places
pub later-place : (base : List Front) (f r : ℕ) → 6 ≤ r → r < 6 * length (places_in base f) → Contains (later_of base f) (freedom_at (places_in base f) r / 6)
later-place base f r from lt = at (r / 6) refl
  where
    at : (p : ℕ) → r / 6 ≡ p → Contains (later_of base f) (freedom_at (places_in base f) r / 6)
    at zero e = absurd (omega (arith, e, from))
    at (suc p) e =
        let place : freedom_at (places_in base f) r / 6 ≡ get_or (later_of base f) p 0 = (row-parts (places_in base f) r).0 ∙ ap (λ (k : ℕ). get_or (places_in base f) k 0) e in
        (p, omega (arith, e, lt), get_or_default (later_of base f) p (freedom_at (places_in base f) r / 6) 0 (omega (arith, e, lt)) ∙ sym place)

pub row-bounds : (base : List Front) → IsBase base → (f r : ℕ) → f < length base → r < 6 * length (places_in base f) → (6 * f ≤ freedom_at (places_in base f) r) × (freedom_at (places_in base f) r < 6 * length base)
row-bounds base b f r fl lt =
    elim (cases_lt r 6) [
      | inl own ↦ (let is = own-row base f r own in (omega (arith, is), omega (arith, is, own, fl)))
      | inr later ↦ (let h = b.above f (freedom_at (places_in base f) r / 6) (later-place base f r later lt) in (omega (arith, h.0), omega (arith, h.1)))
    ]

-- ---- positions
pub row-at_position : (ns : List ℕ) (i : ℕ) → Contains ns (i / 6) → (freedom_at ns (position_of ns i) ≡ i) × (position_of ns i < 6 * length ns)
row-at_position ns i in' =
    let lt = place_of-inside ns (i / 6) in' in
    let place : position_of ns i / 6 ≡ place_of (i / 6) ns = omega arith in
    let rest : position_of ns i % 6 ≡ i % 6 = omega arith in
    let is = at_place_of ns (i / 6) lt in
    let read : get_or ns (position_of ns i / 6) 0 ≡ i / 6 = ap (λ (p : ℕ). get_or ns p 0) place ∙ is in
    (omega (arith, read, rest), omega (arith, lt))

pub position-at_row : (ns : List ℕ) (r : ℕ) → IsRising ns → r < 6 * length ns → position_of ns (freedom_at ns r) ≡ r
position-at_row ns r up lt =
    let parts = row-parts ns r in
    let place : place_of (freedom_at ns r / 6) ns ≡ r / 6 = ap (λ (x : ℕ). place_of x ns) parts.0 ∙ place_of-at ns (r / 6) up (omega arith) in
    omega (arith, place, parts.1)

pub position-past : (ns : List ℕ) (i : ℕ) → (Contains ns (i / 6) → ⊥) → 6 * length ns ≤ position_of ns i
position-past ns i absent = omega (arith, place_of-absent ns (i / 6) absent)

place-less : (ns : List ℕ) (p q : ℕ) → IsRising ns → Contains ns p → Contains ns q → p < q → place_of p ns < place_of q ns
place-less ns p q up hp hq lt =
    let pl = place_of-inside ns p hp in
    let ql = place_of-inside ns q hq in
    let ep = at_place_of ns p pl in
    let eq = at_place_of ns q ql in
    elim (cases_lt (place_of p ns) (place_of q ns)) [
      | inl before ↦ before
      | inr from ↦
          elim (cases_eq (place_of q ns) (place_of p ns)) [
            | inl same ↦ absurd (omega (arith, ep, eq, ap (λ (k : ℕ). get_or ns k 0) same, lt))
            | inr apart ↦ absurd (omega (arith, ep, eq, up (place_of q ns) (place_of p ns) 0 (omega (arith, from, apart)) pl, lt))
          ]
    ]

-- positions keep the order of rows
pub position-le : (ns : List ℕ) (i j : ℕ) → IsRising ns → Contains ns (i / 6) → Contains ns (j / 6) → j ≤ i → position_of ns j ≤ position_of ns i
position-le ns i j up hi hj le =
    elim (cases_lt (j / 6) (i / 6)) [
      | inl before ↦ omega (arith, place-less ns (j / 6) (i / 6) up hj hi before)
      | inr from ↦ (let same : j / 6 ≡ i / 6 = omega arith in let e = ap (λ (x : ℕ). place_of x ns) same in omega (arith, e))
    ]

pub rows-le : (base : List Front) → IsBase base → (f r c : ℕ) → c ≤ r → r < 6 * length (places_in base f) → freedom_at (places_in base f) c ≤ freedom_at (places_in base f) r
rows-le base b f r c le lt =
    elim (cases_lt (c / 6) (r / 6)) [
      | inl before ↦ (let up = places-rising base b f (c / 6) (r / 6) 0 before (omega arith) in omega (arith, up))
      | inr from ↦ (let same : c / 6 ≡ r / 6 = omega arith in let e = ap (λ (x : ℕ). get_or (places_in base f) x 0) same in omega (arith, e))
    ]
