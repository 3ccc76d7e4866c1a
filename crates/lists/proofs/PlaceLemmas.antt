-- The place of a number in a list, and orders.
use Rattle.std.proofs.Common.{◌≡◌, ℕ, zero, suc, ◌<◌, ◌≤◌, cond, List, [], ◌∷◌, length, get_or, Contains, inl, inr, ◌∙◌, sym, ap, refl, arith, eqb}
use Rattle.std.proofs.lemmas.Bool.{cases_eq, cases_lt, eq-eqb, ne_eqb}
use Rattle.std.proofs.lemmas.List.{get_or_default, same_lists}
use Rattle.std.proofs.lemmas.List.FromFn.{length-map-range_with_len, get_or-map-range_with_len}
use Rattle.lists.specs.Rising.{IsRising}
use Rattle.lists.specs.Order.{IsSpread, IsOrder, place_of, places_of, HasPlaces}
use Rattle.lists.proofs.UniqueLemmas.{rising-tail}

place_of-head : (n : ℕ) (ns : List ℕ) (k : ℕ) → n ≡ k → place_of k (n ∷ ns) ≡ 0
place_of-head n ns k e = ap (λ t. cond t 0 (suc (place_of k ns))) (eq-eqb n k e)

place_of-later : (n : ℕ) (ns : List ℕ) (k : ℕ) → (n ≡ k → ⊥) → place_of k (n ∷ ns) ≡ suc (place_of k ns)
place_of-later n ns k apart = ap (λ t. cond t 0 (suc (place_of k ns))) (ne_eqb n k apart)

pub place_of-at : (ns : List ℕ) (p : ℕ) → IsRising ns → p < length ns → place_of (get_or ns p 0) ns ≡ p
place_of-at [] p up lt = absurd (omega arith)
place_of-at (n ∷ ns) zero up lt = place_of-head n ns n refl
place_of-at (n ∷ ns) (suc p) up lt =
    let first : n < get_or ns p 0 = up zero (suc p) 0 (omega arith) lt in
    place_of-later n ns (get_or ns p 0) (λ q. omega (arith, first, q)) ∙ ap suc (place_of-at ns p (rising-tail n ns up) (omega arith))

pub place_of-absent : (ns : List ℕ) (k : ℕ) → (Contains ns k → ⊥) → place_of k ns ≡ length ns
place_of-absent [] k absent = refl
place_of-absent (n ∷ ns) k absent =
    place_of-later n ns k (λ q. absent (zero, omega arith, q)) ∙ ap suc (place_of-absent ns k (λ (i, lt, is). absent (suc i, omega arith, is)))

-- the number stands at its place
pub at_place_of : (ns : List ℕ) (k : ℕ) → place_of k ns < length ns → get_or ns (place_of k ns) 0 ≡ k
at_place_of [] k lt = absurd (omega arith)
at_place_of (n ∷ ns) k lt =
    elim (cases_eq n k) [
      | inl e ↦ ap (λ p. get_or (n ∷ ns) p 0) (place_of-head n ns k e) ∙ e
      | inr apart ↦ (let later = place_of-later n ns k apart in ap (λ p. get_or (n ∷ ns) p 0) later ∙ at_place_of ns k (omega (arith, lt, later)))
    ]

-- a number that is listed has a place
pub place_of-inside : (ns : List ℕ) (k : ℕ) → Contains ns k → place_of k ns < length ns
place_of-inside [] k (i, lt, is) = absurd (omega arith)
place_of-inside (n ∷ ns) k (i, lt, is) =
    elim (cases_eq n k) [
      | inl e ↦ omega (arith, place_of-head n ns k e)
      | inr apart ↦ omega (arith, place_of-later n ns k apart, place_of-inside ns k (listed_later n ns k i lt is apart))
    ]
  where
    listed_later : (n : ℕ) (ns : List ℕ) (k i : ℕ) → i < length (n ∷ ns) → get_or (n ∷ ns) i k ≡ k → (n ≡ k → ⊥) → Contains ns k
    listed_later n ns k zero lt is apart = absurd (apart is)
    listed_later n ns k (suc i) lt is apart = (i, omega arith, is)

-- ---- orders
-- every number of an order has its place there
pub place-found : (order : List ℕ) (number : ℕ) → IsOrder order → number < length order →
    (place_of number order < length order) × (get_or order (place_of number order) 0 ≡ number)
place-found order number ordered inside =
    let in' = place_of-inside order number (ordered.complete number inside) in
    (in', at_place_of order number in')

-- the number at a place has that place
pub place-at : (order : List ℕ) (p : ℕ) → IsOrder order → p < length order → place_of (get_or order p 0) order ≡ p
place-at order p ordered inside =
    let found = place-found order (get_or order p 0) ordered (ordered.spread.in_range p inside) in
    ordered.spread.apart (place_of (get_or order p 0) order) p found.0 inside found.1

pub length-places : (order : List ℕ) → length (places_of order) ≡ length order
length-places order = length-map-range_with_len (λ number. place_of number order) 0 (length order)

pub places-read : (order : List ℕ) (number : ℕ) → number < length order → get_or (places_of order) number 0 ≡ place_of number order
places-read order number inside = get_or-map-range_with_len (λ k. place_of k order) 0 (length order) number number 0 inside (omega arith)

pub place-read : (order places : List ℕ) (number d : ℕ) → HasPlaces order places → number < length order → get_or places number d ≡ place_of number order
place-read order places number d has inside =
    let len = ap (λ (xs : List ℕ). length xs) has.inverse ∙ length-places order in
    get_or_default places number d 0 (omega (arith, len)) ∙ ap (λ (xs : List ℕ). get_or xs number 0) has.inverse ∙ places-read order number inside

-- a list with the place of each number of an order
pub places-written : (order places : List ℕ) → IsOrder order → length places ≡ length order →
    ((p : ℕ) → p < length order → get_or places (get_or order p 0) 0 ≡ p) → places ≡ places_of order
places-written order places ordered same written =
    same_lists places (places_of order) (same ∙ sym (length-places order))
    (λ k d inside.
    let in' : k < length order = omega (arith, same) in
    let found = place-found order k ordered in' in
    get_or_default places k d 0 inside ∙ sym (ap (λ (m : ℕ). get_or places m 0) found.1) ∙ written (place_of k order) found.0
    ∙ sym (places-read order k in') ∙ sym (get_or_default (places_of order) k d 0 (omega (arith, length-places order))))

-- the places of an order are themselves an order
pub places-order : (order : List ℕ) → IsOrder order → IsOrder (places_of order)
places-order order ordered =
    let same = length-places order in
    record {
      spread = record {
        in_range = λ k inside. omega (arith, same, (place-found order k ordered (omega (arith, same))).0, places-read order k (omega (arith, same)));
        apart = λ a b pa pb e.
            let at = place-found order a ordered (omega (arith, same)) in
            let bt = place-found order b ordered (omega (arith, same)) in
            let alike = sym (places-read order a (omega (arith, same))) ∙ e ∙ places-read order b (omega (arith, same)) in
            sym at.1 ∙ ap (λ (p : ℕ). get_or order p 0) alike ∙ bt.1;
      };
      complete = λ p inside.
          let within = ordered.spread.in_range p (omega (arith, same)) in
          let at = places-read order (get_or order p 0) within ∙ place-at order p ordered (omega (arith, same)) in
          (get_or order p 0, omega (arith, within, same), get_or_default (places_of order) (get_or order p 0) p 0 (omega (arith, within, same)) ∙ at);
    }

-- ---- rising lists
pub spread-rising : (numbers : List ℕ) (n : ℕ) → IsRising numbers → ((k : ℕ) → Contains numbers k → k < n) → IsSpread numbers n
spread-rising numbers n rising below =
    record {
      in_range = λ k inside. below (get_or numbers k 0) (k, inside, get_or_default numbers k (get_or numbers k 0) 0 inside);
      apart = λ k l pk pl e.
          elim (cases_lt k l) [
            | inl lt ↦ absurd (omega (arith, rising k l 0 lt pl, e))
            | inr ge ↦ elim (cases_lt l k) [ inl lt ↦ absurd (omega (arith, rising l k 0 lt pk, e)) | inr le ↦ omega arith ]
          ];
    }

rising-at_least : (numbers : List ℕ) (k : ℕ) → IsRising numbers → k < length numbers → k ≤ get_or numbers k 0
rising-at_least numbers zero rising inside = omega arith
rising-at_least numbers (suc k) rising inside = omega (arith, rising-at_least numbers k rising (omega arith), rising k (suc k) 0 (omega arith) inside)

pub length-rising : (numbers : List ℕ) (n : ℕ) → IsRising numbers → ((k : ℕ) → Contains numbers k → k < n) → length numbers ≤ n
length-rising [] n rising below = omega arith
length-rising (m ∷ numbers) n rising below =
    let last = below (get_or (m ∷ numbers) (length numbers) 0) (length numbers, omega arith, get_or_default (m ∷ numbers) (length numbers) (get_or (m ∷ numbers) (length numbers) 0) 0 (omega arith)) in
    omega (arith, last, rising-at_least (m ∷ numbers) (length numbers) rising (omega arith))
