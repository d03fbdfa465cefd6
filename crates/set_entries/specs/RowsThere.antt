-- Rows that a table has, by their numbers in a list.
use Rattle.std.specs.Prelude.{List, ℕ, ◌+◌, ◌≤◌, ◌<◌, length, get_or}
use Rattle.tables.specs.Tables.{RoomFor}

-- The list has the numbers from index a up to, and not including, b, and the table has room for each as a row.
pub record RowsThere (table set : List ℕ) (a b : ℕ) : Type 0 where
  pub there : b ≤ length set
  pub room : (i : ℕ) → a ≤ i → i < b → RoomFor (get_or set i 0 + 1) table
