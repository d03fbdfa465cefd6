-- The entry that numbers make up, the table that its rows are judged by, and what judging it gives.
use Rattle.std.specs.Prelude.{◌≡◌, List, ℕ, ◌+◌, ◌≤◌, ◌<◌, length, get_or, Result}
use Rattle.livelock.specs.Plants.{Plant, row_at, row_count, machine_count}
use Rattle.livelock.specs.CycleSets.{Entry}
use Rattle.plant.specs.Steps.{read_found}
use Rattle.plant.specs.declared.Fault.{Fault}
use Rattle.plant.specs.declared.Field.{Field}
use Rattle.tables.specs.Tables.{row_in}
use Rattle.set_numbers.specs.Numbers.{part}
use Rattle.set_entries.specs.declared.entries.Entry as E
use Rattle.set_entries.specs.Sets.{entry_at}

-- The list has the numbers from index a up to, and not including, b, and each is below a limit.
pub record NumbersBelow (limit : ℕ) (set : List ℕ) (a b : ℕ) : Type 0 where
  pub there : b ≤ length set
  pub small : (i : ℕ) → a ≤ i → i < b → get_or set i 0 < limit

-- The table has the rows of a plant, whose states are bytes.
pub record TableOf (P : Plant) (rows : ℕ) (table : List ℕ) : Type 0 where
  pub rows_are : row_count P ≡ rows
  pub row_is : (k : ℕ) → k < rows → row_at P k ≡ row_in table k
  pub byte : (k : ℕ) → k < rows → (row_at P k).left < 256

-- The entry that the numbers from an index on, up to another, make up.
abbrev pub entry_up_to : List ℕ → (at end : ℕ) → Entry
entry_up_to set at end = record { machine = get_or set at 0; repeats = get_or set (at + 1) 0; cycle = part set (at + 3) end }

-- The entry that the numbers from an index on make up.
abbrev pub entry_in : List ℕ → ℕ → Entry
entry_in set at = entry_up_to set at (at + 3 + get_or set (at + 2) 0)

-- The entry that was read.
abbrev pub entry_of : E.Entry → Entry
entry_of e = record { machine = e.machine; repeats = e.repeats; cycle = e.rows.now }

-- What was read is what the entry at an index reads as, in every plant with this table and so many machines.
abbrev pub JudgedEntry : List ℕ → (rows machines : ℕ) → List ℕ → ℕ → Result (Field E.Entry) Fault → Type 0
JudgedEntry c rows machines set at r =
    (P : Plant) → TableOf P rows c → machine_count P ≡ machines → read_found entry_of r ≡ entry_at P set at
