-- A table of rows in one list of bytes, and the plant that it holds.
use Rattle.std.specs.Prelude.{◌≡◌, List, map, ℕ, ◌+◌, ◌*◌, ◌≤◌, length, get_or, eqb}
use Rattle.livelock.specs.Lists.{below}
use Rattle.livelock.specs.Plants.{Row, Plant}
use Rattle.plant.specs.Steps.{type_of}
use Rattle.plant_rows.specs.Rows.{fields_row}
use Rattle.tables.specs.declared.TableRow.{TableRow}

-- Row k of a table: the bytes from 8 × k on.
unfoldable pub row_in : List ℕ → ℕ → Row
row_in table k =
    record {
      machine = get_or table (8 * k) 0;
      left = get_or table (8 * k + 1) 0;
      entered = get_or table (8 * k + 2) 0;
      sent = type_of (get_or table (8 * k + 3) 0);
      taken = type_of (get_or table (8 * k + 4) 0);
      progress = eqb (get_or table (8 * k + 5) 0) 1;
    }

-- The row that a value of `row_in` is.
abbrev pub row_of : TableRow → Row
row_of r = fields_row r.machine r.fields

-- A table has room for so many rows.
abbrev pub RoomFor : ℕ → List ℕ → Type 0
RoomFor rows table = 8 * rows ≤ length table

-- Row k is stored, and every other row is kept.
pub record Stored (k : ℕ) (r : Row) (before after : List ℕ) : Type 0 where
  pub stored : row_in after k ≡ r
  pub others : (i : ℕ) → (i ≡ k → ⊥) → row_in after i ≡ row_in before i
  pub long : length after ≡ length before

-- The plant with these types and states, and with the first rows of a table.
abbrev pub plant_in : ℕ → List ℕ → ℕ → List ℕ → Plant
plant_in types states rows table = record { types = types; states = states; rows = map (row_in table) (below rows) }
