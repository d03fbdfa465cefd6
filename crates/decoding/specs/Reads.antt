-- What reading a file into a store of rows gives.
use Rattle.std.specs.Prelude.{◌≡◌, List, ℕ, ◌≤◌, length, get_or, take, Result, Ok, Err}
use Rattle.livelock.specs.Plants.{Row, Plant, row_count}
use Rattle.plant.specs.Found.{Found, found}
use Rattle.plant.specs.Reading.{read_plant}
use Rattle.plant.specs.Steps.{fault_found}
use Rattle.plant.specs.declared.Fault.{Fault}
use Rattle.decoding.specs.Tables.{rows_before}
use Rattle.decoding.specs.declared.Shape.{Shape}

-- A plant that was found, and an offset after it, have a property.
pub record FoundWith (H : Plant → ℕ → Type 0) (x : Found Plant) : Type 0 where
  pub plant : Plant
  pub end : ℕ
  pub is : found plant end ≡ x
  pub holds : H plant end

-- What was found goes with a result: a plant that has the property for the value, or the fault.
abbrev pub FoundAs : {T : Type 0} → (T → Plant → ℕ → Type 0) → Result T Fault → Found Plant → Type 0
FoundAs H (Ok t) x = FoundWith (H t) x
FoundAs H (Err f) x = fault_found f ≡ x

-- A shape has the counts of a plant, and its machines' states and first rows; there are at most 16 machines, 1,024 rows and 64 types.
pub record Shaped (s : Shape) (p : Plant) : Type 0 where
  pub types : p.types ≡ s.types
  pub states : p.states ≡ take s.machines s.states
  pub rows : row_count p ≡ s.rows
  pub first_row : (m : ℕ) → m ≤ s.machines → get_or s.first m 0 ≡ rows_before p m
  pub few_types : s.types ≤ 64
  pub few_machines : s.machines ≤ 16
  pub few_rows : s.rows ≤ 1024
  pub states_room : length s.states ≡ 16

-- A file was read to its end, its shape is handed back and a store holds its rows; or its fault is handed back.
abbrev pub PlantRead : List ℕ → (List Row → Type 0) → Result Shape Fault → Type 0
PlantRead file held r = FoundAs (λ s p end. (end ≡ length file) × (s.rows ≤ length file) × Shaped s p × held p.rows) r (read_plant file)
