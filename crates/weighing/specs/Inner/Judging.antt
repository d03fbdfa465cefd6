-- What the private functions that weigh a table ask and give.
use Rattle.std.specs.Prelude.{List, ℕ, ◌*◌, ◌≤◌, min}
use Rattle.plant.specs.Found.{found}
use Rattle.decoding.specs.Tables.{plant_of}
use Rattle.decoding.specs.declared.Shape.{Shape}
use Rattle.weighing.specs.Answers.{Answer, Judgement}
use Rattle.weighing.specs.Weighing.{Owed, OwedVerdict}

-- The answer is owed for the plant of a shape and a table, wherever its file ended,
abbrev pub OwedTable : Shape → (table ws before after : List ℕ) → Answer → Type 0
OwedTable s table ws before after a = (end : ℕ) → Owed ws before after a (found (plant_of s table) end)

-- and the verdict.
abbrev pub OwedTableVerdict : Shape → (table ws : List ℕ) → Judgement → Type 0
OwedTableVerdict s table ws v = (end : ℕ) → OwedVerdict ws v (found (plant_of s table) end)

-- A table of so many bytes has room for the rows of a file of n bytes, and a list of so many edges for those of a machine. Neither is larger than any file needs.
abbrev pub RoomToWeigh : (n bytes edges : ℕ) → Type 0
RoomToWeigh n bytes edges = (8 * min 1024 n ≤ bytes) × (bytes ≤ 8192) × (min 2048 bytes ≤ 8 * edges) × (edges ≤ 256)
