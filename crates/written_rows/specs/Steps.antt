-- What the function that writes the rows of a machine ensures: what was read of the list, and the bytes that were stored for it.
use Rattle.std.specs.Prelude.{◌≡◌, List, [], ◌∷◌, ◌++◌, ℕ, ◌+◌, ◌-◌, ◌*◌, ◌≤◌, min, length, Result, Ok, Err}
use Rattle.livelock.specs.Lists.{All}
use Rattle.livelock.specs.Plants.{Row, Plant}
use Rattle.plant.specs.Found.{Found, found}
use Rattle.plant.specs.Limits.{longest_file}
use Rattle.plant.specs.Steps.{fault_found}
use Rattle.plant.specs.declared.Fault.{Fault}
use Rattle.twins.specs.Keys.{RowsKept}
use Rattle.plant_files.specs.Files.{rows_bytes}
use Rattle.plant_files.specs.Inner.Parts.{with_rows}
use Rattle.plant_lists.specs.Lists.{listed_rows}
use Rattle.row_bytes.specs.Stores.{Stored}

-- Before the number at `at` is read and the byte at `pos` is stored, with so many bytes to come at most: the buffer has as many bytes as the
-- longest file, or as the list has numbers, and no more bytes were stored than numbers read.
pub record Room (s file : List ℕ) (at pos bytes : ℕ) : Type 0 where
  pub space : min longest_file (length s) ≤ length file
  pub inside : at ≤ length s
  pub behind : pos ≤ at
  pub within : pos + bytes ≤ longest_file

-- There is room for the keys of a machine: it has at most 255 rows, and each has six numbers in the list.
abbrev pub ListKeyRoom : List ℕ → List ℕ → Type 0
ListKeyRoom s keys = min (6 * 255) (length s) ≤ 6 * length keys

-- What was read ends in the list, with no more bytes stored than numbers read, and at most up to a limit.
abbrev pub Near : List ℕ → ℕ → ℕ → Result ℕ Fault → Type 0
Near s limit end (Ok at) = (at ≤ length s) × (end ≤ at) × (end ≤ limit)
Near s limit end (Err f) = Unit {0}

-- The state that the last of these rows leaves.
unfoldable pub last_left : ℕ → List Row → ℕ
last_left implied [] = implied
last_left implied (r ∷ rs) = last_left r.left rs

-- n rows of machine m were read behind those of p and stored, or there was a fault.
pub data RowsStored (n m : ℕ) (p : Plant) (before after : List ℕ) (pos end : ℕ) : Found Plant → Result ℕ Fault → Type 0 where
  rows_stored : (rs : List Row) {next : ℕ} → length rs ≡ n → All (λ r. r.machine ≡ m) rs → Stored before after pos (rows_bytes 0 rs) end
      → RowsStored n m p before after pos end (found (with_rows p rs) next) (Ok next)
  rows_refused : {f : Fault} → RowsStored n m p before after pos end (fault_found f) (Err f)

-- After i of n rows, which are kept: what is left to read, behind the rows rs, gives what the whole gives.
pub record RowsGoing (n m states from : ℕ) (s : List ℕ) (p : Plant) (before : List ℕ) (pos i at : ℕ) (file : List ℕ) (end implied : ℕ) (keys : List ℕ) (leave : ℕ) : Type 0 where
  pub rs : List Row
  pub count : length rs ≡ i
  pub machine : All (λ r. r.machine ≡ m) rs
  pub left : implied ≡ last_left 0 rs
  pub stored : Stored before file pos (rows_bytes 0 rs) end
  pub rows_kept : RowsKept m i (p.rows ++ rs) keys leave
  pub rest : listed_rows (n - i) m states s at (with_rows p rs) ≡ listed_rows n m states s from p
