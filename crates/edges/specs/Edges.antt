-- The quiet rows of one machine as an edge list.
use Rattle.std.specs.Prelude.{◌≡◌, false, List, ℕ, ◌+◌, ◌≤◌, ◌<◌, length, get_or, ℤ, pos, ◌-ℤ◌}
use Rattle.livelock.specs.Weights.{message_weight}
use Rattle.livelock.specs.Plants.{Row, has_progress}
use Rattle.tables.specs.Tables.{row_in, RoomFor}
use Rattle.edge_lists.specs.declared.Edge.{Edge}
use Rattle.edge_lists.specs.EdgeLists.{edge_in}

-- "weight sent less weight taken", of a row.
abbrev pub row_weight : List ℕ → Row → ℤ
row_weight ws r = pos (message_weight ws r.sent) -ℤ pos (message_weight ws r.taken)

-- No weight is above 1,000.
abbrev pub Light : List ℕ → Type 0
Light ws = (i : ℕ) → get_or ws i 0 ≤ 1000

-- An edge is the quiet row that it names, one of the rows from `low` up to, and not including, `high`.
pub record EdgeOf (t : List ℕ) (ws : List ℕ) (low high : ℕ) (e : Edge) : Type 0 where
  pub from_low : low ≤ e.row
  pub below_high : e.row < high
  pub quiet : has_progress (row_in t e.row) ≡ false
  pub left : e.from ≡ (row_in t e.row).left
  pub entered : e.to ≡ (row_in t e.row).entered
  pub weighs : e.weight ≡ row_weight ws (row_in t e.row)

-- Row j is one of the edges.
pub record Has (edges : List Edge) (j : ℕ) : Type 0 where
  pub place : ℕ
  pub within : place < length edges
  pub is : (edge_in edges place).row ≡ j

-- The edges are the quiet rows from `low` up to, and not including, `high`.
pub record Listed (t : List ℕ) (ws : List ℕ) (low high : ℕ) (edges : List Edge) : Type 0 where
  pub few : length edges + low ≤ high
  pub each : (i : ℕ) → i < length edges → EdgeOf t ws low high (edge_in edges i)
  pub every : (j : ℕ) → low ≤ j → j < high → has_progress (row_in t j) ≡ false → Has edges j

-- A machine's rows from `low` up to, and not including, `high`: at most 255, between so many states.
pub record RowsBetween (t : List ℕ) (low high states : ℕ) : Type 0 where
  pub in_table : high ≤ 1024
  pub room : RoomFor high t
  pub ordered : low ≤ high
  pub few : high ≤ low + 255
  pub left_in : (j : ℕ) → low ≤ j → j < high → (row_in t j).left < states
  pub entered_in : (j : ℕ) → low ≤ j → j < high → (row_in t j).entered < states
