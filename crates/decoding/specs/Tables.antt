-- The decoded table of `decode`, and the plant that it holds.
use Rattle.std.specs.Prelude.{◌≡◌, List, ℕ, ◌≤◌, length, get_or, take, ltb, Result, Ok, Err}
use Rattle.livelock.specs.Lists.{count}
use Rattle.livelock.specs.Plants.{Plant}
use Rattle.plant.specs.Found.{Found, found}
use Rattle.plant.specs.Steps.{fault_found}
use Rattle.plant.specs.declared.Fault.{Fault}
use Rattle.tables.specs.Tables.{plant_in, RoomFor}
use Rattle.decoding.specs.declared.Shape.{Shape}

-- The plant of a shape and a table: the entries and rows up to the counts.
abbrev pub plant_of : Shape → List ℕ → Plant
plant_of s table = plant_in s.types (take s.machines s.states) s.rows table

-- What decoding gives: the plant of the shape and the table that a file of n bytes is read into, up to its end, or the fault.
abbrev pub decoded_found : Result Shape Fault → ℕ → List ℕ → Found Plant
decoded_found (Ok s) n table = found (plant_of s table) n
decoded_found (Err f) n table = fault_found f

-- How many rows the machines before m have: the number of the first row of machine m.
abbrev pub rows_before : Plant → ℕ → ℕ
rows_before p m = count (λ r. ltb r.machine m) p.rows

-- At most 16 machines, 1,024 rows and 64 types, and a table with room for the rows.
pub record Sound (s : Shape) (table : List ℕ) : Type 0 where
  pub few_machines : s.machines ≤ 16
  pub few_rows : s.rows ≤ 1024
  pub few_types : s.types ≤ 64
  pub states_room : length s.states ≡ 16
  pub room : RoomFor s.rows table

-- What `decode` ensures of its shape and table: there is room, and the number of each machine's first row.
pub record Ready (s : Shape) (table : List ℕ) : Type 0 where
  pub sound : Sound s table
  pub first_row : (m : ℕ) → m ≤ s.machines → get_or s.first m 0 ≡ rows_before (plant_of s table) m
