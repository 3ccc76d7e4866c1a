-- What a tree keeps beside its later places, and how these are found.
use Rattle.std.specs.Prelude.{◌≡◌, ◌≢◌, ℕ, ◌<◌, List, length, slice_index, slice_index_or, Contains, Option, Some, None, ◌⊎◌, ◌↔◌}
use Rattle.lists.specs.Rising.{IsRising, InsertsLater}
use Rattle.lists.specs.Lists.{list_of}
use Rattle.elim_tree.specs.Fronts.{Fronts, parents_in, front_rows, AreChildren, entries_of, IsAssemblyTree}

-- the parts that readers hand out
pub record HasParts (t : Fronts) (parents : List (Option ℕ)) (rows children : List (List ℕ)) (entries : ℕ) : Type 0 where
  pub tree : IsAssemblyTree t
  pub parents_are : parents ≡ parents_in t
  pub rows_are : rows ≡ front_rows t
  pub children_are : (f : ℕ) → AreChildren t f (list_of children f)
  pub entries_are : entries ≡ entries_of t.later

-- a pair has the nodes at two places
abbrev pub PairsPlaces : List (ℕ × ℕ) → List ℕ → ℕ → ℕ → Type 0
PairsPlaces pairs places p q = (n : ℕ) × (k : ℕ) × Contains pairs (n, k) × (((slice_index places n ≡ p) × (slice_index places k ≡ q)) ⊎ ((slice_index places n ≡ q) × (slice_index places k ≡ p)))

-- the list of each place has the higher places that a pair joins with it
pub record ListsHigher (pairs : List (ℕ × ℕ)) (places : List ℕ) (old new : List (List ℕ)) : Type 0 where
  pub count : length new ≡ length old
  pub rising : (p : ℕ) → IsRising (list_of new p)
  pub members : (p q : ℕ) → Contains (list_of new p) q ↔ (Contains (list_of old p) q ⊎ ((p < q) × PairsPlaces pairs places p q))

-- the lists have higher places alone
pub record AreHigher (lists : List (List ℕ)) : Type 0 where
  pub rising : (p : ℕ) → IsRising (list_of lists p)
  pub above : (p q : ℕ) → Contains (list_of lists p) q → (p < q) × (q < length lists)

-- the places that lists of higher places link
abbrev pub higher : List (List ℕ) → ℕ → ℕ → Type 0
higher lists p q = Contains (list_of lists p) q

-- of the first n fronts each is in the list of its parent
pub record ListsChildren (parents : List (Option ℕ)) (n : ℕ) (children : List (List ℕ)) : Type 0 where
  pub rising : (f : ℕ) → IsRising (list_of children f)
  pub members : (f c : ℕ) → Contains (list_of children f) c ↔ ((c < n) × (slice_index_or parents c None ≡ Some f))

-- the fronts of an order with these later places
abbrev pub fronts_of : List ℕ → List (List ℕ) → Fronts
fronts_of order later = record { order = order; later = later }

-- a list is handed to the list that its first number names: what is above that number is put in
abbrev pub HandsTo : Option ℕ → List ℕ → List (List ℕ) → List (List ℕ) → Type 0
HandsTo None own old new = new ≡ old
HandsTo (Some v) own old new = InsertsLater (list_of old v) (list_of new v) own v × ((c : ℕ) → c ≢ v → list_of new c ≡ list_of old c)
