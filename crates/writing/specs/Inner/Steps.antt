-- What the writer's private functions ensure beside `write_rows`: what was read of the list, and the bytes that were stored for it.
use Rattle.std.specs.Prelude.{◌≡◌, List, ◌∷◌, ℕ, ◌+◌, ◌-◌, ◌*◌, ◌≤◌, length, Result, Ok, Err}
use Rattle.livelock.specs.Lists.{All}
use Rattle.livelock.specs.Plants.{Row, Plant, row_count, machine_count}
use Rattle.plant.specs.Found.{Found, found}
use Rattle.plant.specs.Limits.{most_row_bytes, Numbered}
use Rattle.plant.specs.Reading.{with_machine, no_machines}
use Rattle.plant.specs.Steps.{fault_found}
use Rattle.plant.specs.declared.Fault.{Fault}
use Rattle.plant_files.specs.Files.{rows_bytes, machines_as, file_of}
use Rattle.plant_files.specs.Inner.Parts.{with_rows}
use Rattle.plant_lists.specs.Lists.{listed_machines}
use Rattle.row_bytes.specs.Stores.{Stored}
use Rattle.written_rows.specs.Steps.{Near}
use Rattle.writing.specs.declared.Walked.{Walked}

-- A machine was read behind those of p and stored, with the count of rows with its own, or there was a fault.
pub data MachineStored (p : Plant) (before after : List ℕ) (pos end : ℕ) : Found Plant → Result Walked Fault → Type 0 where
  machine_stored : (states : ℕ) (rs : List Row) {next rows : ℕ} → rows ≡ row_count p + length rs → All (λ r. r.machine ≡ machine_count p) rs
      → Stored before after pos (states ∷ (length rs ∷ rows_bytes 0 rs)) end
      → MachineStored p before after pos end (found (with_rows (with_machine p states) rs) next) (Ok (record { at = next; rows = rows }))
  machine_refused : {f : Fault} → MachineStored p before after pos end (fault_found f) (Err f)

-- With the rows of a machine behind `used` others there are no fewer, and at most 1,024; its bytes end near: two, and at most five for each of its rows.
abbrev pub MachineNear : List ℕ → ℕ → ℕ → ℕ → Result Walked Fault → Type 0
MachineNear s used pos end (Ok w) = (used ≤ w.rows) × (w.rows ≤ 1024) × Near s (pos + 2 + most_row_bytes * (w.rows - used)) end (Ok w.at)
MachineNear s used pos end (Err f) = Unit {0}

-- After i of n machines: the plant q so far, from which what is left to read gives what the whole gives.
pub record MachinesGoing (n from : ℕ) (s : List ℕ) (types : ℕ) (before : List ℕ) (pos i at : ℕ) (file : List ℕ) (end rows : ℕ) : Type 0 where
  pub q : Plant
  pub few : q.types ≡ types
  pub count : machine_count q ≡ i
  pub total : row_count q ≡ rows
  pub numbered : Numbered q
  pub stored : Stored before file pos (machines_as (rows_bytes 0) i 0 q) end
  pub rest : listed_machines (n - i) s at q ≡ listed_machines n s from (no_machines types)

-- n machines were read and stored, or there was a fault.
pub data MachinesStored (n types : ℕ) (before after : List ℕ) (pos end : ℕ) : Found Plant → Result ℕ Fault → Type 0 where
  machines_stored : (q : Plant) {next : ℕ} → machine_count q ≡ n → q.types ≡ types → Stored before after pos (machines_as (rows_bytes 0) n 0 q) end
      → MachinesStored n types before after pos end (found q next) (Ok next)
  machines_refused : {f : Fault} → MachinesStored n types before after pos end (fault_found f) (Err f)

-- The plant that a list says was stored, up to this end of its file, or there was a fault.
pub data PlantStored (before after : List ℕ) : Found Plant → Result ℕ Fault → Type 0 where
  plant_stored : (p : Plant) {next end : ℕ} → Stored before after 0 (file_of p) end → PlantStored before after (found p next) (Ok end)
  plant_refused : {f : Fault} → PlantStored before after (fault_found f) (Err f)
