-- What a front that is worked on keeps.
use Rattle.std.specs.Prelude.{◌≡◌, ℕ, suc, ◌+◌, ◌-◌, ◌*◌, ◌<◌, ◌≤◌, List, ◌∷◌, length, All, ℤ}
use Rattle.lists.specs.Lists.{list_of}
use Rattle.cholesky_laws.specs.Fronts.{Space}
use Rattle.dense_front.specs.Square.{AllSmall, triangle_of}

-- a front as contracts see it
abbrev pub space_of : ℕ → List ℕ → List ℕ → List ℤ → Space
space_of front nodes later square = record { front = front; nodes = nodes; later = later; entries = triangle_of (6 * length later + 6) square }

-- so many columns as long as those of a lower triangle of so many rows
pub record AreColumnsFor (rows : ℕ) (columns : List (List ℤ)) : Type 0 where
  pub count : length columns ≡ 6
  pub long : (c : ℕ) → c < 6 → length (list_of columns c) ≡ rows - c

-- the places of its rows are its own and the later ones, each with a node; and its lists have the lengths that the rows need
pub record IsSpace (front : ℕ) (nodes places later matched : List ℕ) (square entries : List ℤ) (columns : List (List ℤ)) : Type 0 where
  pub places_are : places ≡ front ∷ later
  pub few : length later ≤ 31
  pub nodes_whole : length nodes ≡ suc (length later)
  pub nodes_small : All (λ n. n < 8000) nodes
  pub matched_whole : length matched ≡ 32
  pub square_whole : length square ≡ (6 * length later + 6) * (6 * length later + 6)
  pub entries_whole : length entries ≡ 6 * (6 * length later + 6)
  pub entries_small : AllSmall entries
  pub columns_whole : AreColumnsFor (6 * length later + 6) columns
