-- What the checker keeps of a factor.
use Rattle.std.specs.Prelude.{ℕ, ◌*◌, ◌^◌, ◌<◌, ◌≤◌, ◌≡◌, List, length}
use Rattle.factor_data.specs.Columns.{ColumnLists}
use Rattle.certificate.specs.declared.row_lists.RowEntry.{RowEntry}
use Rattle.lists.specs.Lists.{list_of}
use Rattle.certificate.specs.RowLists.{ListsRow}

-- the order of the nodes, and the entries of each row
pub record CheckLists : Type 0 where
  pub order : List ℕ
  pub rows : List (List RowEntry)

-- the lists are those of factor f, whose rows have numbers below 2^32
pub record AreListsOf (f : ColumnLists) (lists : CheckLists) : Type 0 where
  pub order_is : lists.order ≡ f.order
  pub length_same : length lists.rows ≡ 6 * length f.order
  pub rows : (i : ℕ) → i < 6 * length f.order → ListsRow f i (list_of lists.rows i)
  pub numbered : 6 * length f.order ≤ 2 ^ 32
