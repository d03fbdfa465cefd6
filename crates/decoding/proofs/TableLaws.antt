-- Laws of a decoded plant: its counts and its rows are those of the shape and the table.
use mathlib.Core.Path.{◌≡◌, sym}
use mathlib.Core.List.{List, map}
use Prim.Native.Nat.{ℕ, ◌<◌}
use native.Mathlib.Omega.{arith}
use lib.ListN.{length, take, get_or}
use lib.Seq.{length-take-le, get_or-take}
use Rattle.livelock.specs.Lists.{below}
use Rattle.livelock.specs.Plants.{row_at, state_count}
use Rattle.tables.specs.Tables.{row_in}
use Rattle.tables.proofs.RowLaws.{rows_in, row_is}
use Rattle.decoding.specs.Tables.{plant_of, Sound}
use Rattle.decoding.specs.declared.Shape.{Shape}

pub rows_counted : (s : Shape) (table : List ℕ) → length (map (row_in table) (below s.rows)) ≡ s.rows
rows_counted s table = rows_in table s.rows

pub machines_counted : (s : Shape) (table : List ℕ) → Sound s table → length (take s.machines s.states) ≡ s.machines
machines_counted s table h = length-take-le s.machines s.states (omega (arith, h.few_machines, h.states_room))

-- The plant's row k is the table's.
pub plant_row_is : (s : Shape) (table : List ℕ) (k : ℕ) → k < s.rows → row_at (plant_of s table) k ≡ row_in table k
plant_row_is s table k l = row_is s.types (take s.machines s.states) s.rows table k l

-- The plant's count of states of machine m is the shape's.
pub states_at : (s : Shape) (table : List ℕ) (m : ℕ) → m < s.machines → get_or s.states m 0 ≡ state_count (plant_of s table) m
states_at s table m l = sym (get_or-take s.machines s.states m 0 l)
