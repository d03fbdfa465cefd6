-- The shortest file of a plant (document 02, L2; the format is document 01's).
use Rattle.std.specs.Prelude.{◌≡◌, Bool, true, false, not, cond, List, [], ◌∷◌, ◌++◌, ℕ, zero, suc, ◌+◌, ◌≤◌, length, eqb, Option, None, Some}
use Rattle.livelock.specs.Plants.{Row, Plant, machine_count, state_count}
use Rattle.plant.specs.Found.{found}
use Rattle.plant.specs.Reading.{has_bit, implied_left, read_plant}
use Rattle.plant.specs.Limits.{rows_in}

-- ---- rows

-- "one byte for each field whose bit stands": a state, if its bit stands,
abbrev pub byte_if : Bool → ℕ → List ℕ
byte_if stands byte = cond stands (byte ∷ []) []

-- and a type, if there is one.
abbrev pub type_bytes : Option ℕ → List ℕ
type_bytes None = []
type_bytes (Some t) = t ∷ []

-- "A row is a map byte, then one byte for each field whose bit stands, lowest bit first": a row with this map byte.
abbrev pub bytes_with : ℕ → Row → List ℕ
bytes_with map r = map ∷ (byte_if (has_bit map 1) r.left ++ (byte_if (has_bit map 2) r.entered ++ (type_bytes r.sent ++ type_bytes r.taken)))

-- Bits 0 to 4: state left, state entered, type sent, type taken, progress. The map byte with these bits.
abbrev pub map_with : (left entered sent taken progress : Bool) → ℕ
map_with left entered sent taken progress = cond left 1 0 + cond entered 2 0 + cond sent 4 0 + cond taken 8 0 + cond progress 16 0

-- A state has to be written where it is not the one that stands for it without its bit,
abbrev pub differs : ℕ → ℕ → Bool
differs state absent = not (eqb state absent)

-- and a type where there is one.
abbrev pub is_some : Option ℕ → Bool
is_some None = false
is_some (Some t) = true

-- "The output has the fewest bytes": every state that can be left out is left out.
abbrev pub shortest_map : ℕ → Row → ℕ
shortest_map implied r = map_with (differs r.left implied) (differs r.entered r.left) (is_some r.sent) (is_some r.taken) r.progress

-- A row before which this state is implied.
unfoldable pub row_bytes : ℕ → Row → List ℕ
row_bytes implied r = bytes_with (shortest_map implied r) r

-- Rows in turn: "the state that this machine's previous row leaves".
unfoldable pub rows_bytes : ℕ → List Row → List ℕ
rows_bytes implied [] = []
rows_bytes implied (r ∷ rs) = row_bytes implied r ++ rows_bytes (implied_left (Some r)) rs

-- ---- machines and the file

-- "each machine: one byte of states (1 to 64), one byte of rows (0 to 255), its rows", the rows as f has them: the file and the writer's
-- list have this in common.
abbrev pub machine_as : (List Row → List ℕ) → Plant → ℕ → List ℕ
machine_as f p m = state_count p m ∷ (length (rows_in m p.rows) ∷ f (rows_in m p.rows))

-- n machines, the first of which is m.
unfoldable pub machines_as : (List Row → List ℕ) → ℕ → ℕ → Plant → List ℕ
machines_as f zero m p = []
machines_as f (suc n) m p = machine_as f p m ++ machines_as f n (m + 1) p

-- "Byte 0 is the count of machines … Byte 1 is the count of message types … Then each machine".
abbrev pub plant_as : (List Row → List ℕ) → Plant → List ℕ
plant_as f p = machine_count p ∷ (p.types ∷ machines_as f (machine_count p) 0 p)

-- "Without it: … 0 at its first row": the shortest file of a plant.
abbrev pub file_of : Plant → List ℕ
file_of = plant_as (rows_bytes (implied_left None))

-- ---- what a shortest file is

-- "What the writer wrote reads as the list's rows", and "every other file that reads as the same types, machines and rows has at least
-- as many" bytes.
pub record Shortest (p : Plant) (file : List ℕ) : Type 0 where
  pub reads : read_plant file ≡ found p (length file)
  pub least : (other : List ℕ) (end : ℕ) → read_plant other ≡ found p end → length file ≤ length other
