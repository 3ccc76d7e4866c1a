-- The laws of fronts, for every list of fronts that is a base.
use Rattle.std.specs.Prelude.{◌≡◌, ℕ, suc, ◌-◌, ◌*◌, ◌^◌, ◌<◌, ◌≤◌, List, length, Contains, false, pos, ◌<ℤ◌}
use Rattle.std.specs.Int.RustNames.{unsigned_abs}
use Rattle.int_laws.specs.Matrices.{Entries}
use Rattle.lists.specs.Rising.{IsRising}
use Rattle.lists.specs.Rows.{freedom_at}
use Rattle.elimination.specs.Elimination.{is_parent}
use Rattle.cholesky_laws.specs.Fronts.{Front, Space, Update, front_at, parents_of, IsBase, lower, lower_entry, update_entry, space_places, loaded, added, eliminated, front_value, assembled, IsNextChild, IsComplete}

-- a front with the updates of its children, one after another; eliminated with all of them it is the front's value
pub record AssemblyLaws : Type 0 where
  pub loaded_is : (base : List Front) (f : ℕ) → IsBase base → f < length base → loaded f (front_at base f) ≡ assembled base f 0
  pub others : (base : List Front) (f m : ℕ) → is_parent (parents_of base) f m ≡ false → assembled base f (suc m) ≡ assembled base f m
  pub next : (base : List Front) (d : ℕ) (s : Space) (u : Update) → IsNextChild base d s u → added s u ≡ assembled base s.front (suc d)
  pub value : (base : List Front) (s : Space) → IsComplete base s → eliminated s ≡ front_value base s.front

-- its numbers fit 127 bits with their signs
pub record FrontSizes : Type 0 where
  pub before : (base : List Front) (d : ℕ) (s : Space) (u : Update) → IsNextChild base d s u → (r c : ℕ) → c ≤ r → r < 6 * length (space_places s) → unsigned_abs (lower_entry s.entries r c) < 2 ^ 126 - 2 ^ 114
  pub update : (base : List Front) (d : ℕ) (s : Space) (u : Update) → IsNextChild base d s u → (r c : ℕ) → c ≤ r → r < 6 * length (space_places s) →
      unsigned_abs (update_entry u (freedom_at (space_places s) r) (freedom_at (space_places s) c)) < 2 ^ 113
  pub entries : (base : List Front) (s : Space) → IsComplete base s → (r c : ℕ) → c ≤ r → r < 6 * length (space_places s) → unsigned_abs (lower_entry s.entries r c) < 2 ^ 126 - 2 ^ 114
  pub diagonal : (base : List Front) (s : Space) → IsComplete base s → (c : ℕ) → c < 6 → lower_entry s.entries c c <ℤ pos (2 ^ 113)

-- a child's places past its first are its parent's, whose rows rise
pub record FrontShapes : Type 0 where
  pub child : (base : List Front) (d : ℕ) (s : Space) (u : Update) → IsNextChild base d s u → (q : ℕ) → Contains u.later q → Contains (space_places s) q
  pub rising : (base : List Front) (d : ℕ) (s : Space) (u : Update) → IsNextChild base d s u → IsRising (space_places s)
  pub child_rising : (base : List Front) (d : ℕ) (s : Space) (u : Update) → IsNextChild base d s u → IsRising u.later

-- lower triangles by their columns: their entries, 0 past them, and that these make them up
pub record TriangleLaws : Type 0 where
  pub inside : (columns rows : ℕ) (f : Entries) (r c : ℕ) → c < columns → c ≤ r → r < rows → lower_entry (lower columns rows f) r c ≡ f r c
  pub past_rows : (columns rows : ℕ) (f : Entries) (r c : ℕ) → rows ≤ r → lower_entry (lower columns rows f) r c ≡ pos 0
  pub past_columns : (columns rows : ℕ) (f : Entries) (r c : ℕ) → columns ≤ c → lower_entry (lower columns rows f) r c ≡ pos 0
  pub same : (columns rows : ℕ) (f g : Entries) → ((r c : ℕ) → c < columns → c ≤ r → r < rows → f r c ≡ g r c) → lower columns rows f ≡ lower columns rows g

-- all of them
pub record FrontLaws : Type 0 where
  pub triangles : TriangleLaws
  pub assembly : AssemblyLaws
  pub sizes : FrontSizes
  pub shapes : FrontShapes
