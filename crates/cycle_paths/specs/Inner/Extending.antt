-- What `extend` asks and gives.
use Rattle.std.specs.Prelude.{List, ℕ, ◌+◌, ◌-◌, ◌≤◌, ◌<◌, ◌^◌, Option, length}
use Rattle.graphs.specs.declared.Graph.{Graph}
use Rattle.graphs.specs.Graphs.{entered_of, next_of, head_of, into_of, last_of}
use Rattle.state_marks.specs.Marks.{column, RowsBelow, Sources}
use Rattle.cycle_entries.specs.Entries.{Added}
use Rattle.cycle_paths.specs.Cycles.{unleft}
use Rattle.cycle_paths.specs.Rows.{Linked}
use Rattle.cycle_paths.specs.Extensions.{extensions}

-- What `extend` asks: the links of some rows, room for a path through all states not yet left, and no more used of the list than it has.
pub record Extendable (entered next head into : List ℕ) (last start : ℕ) (marks path : List ℕ) (low high room pos : ℕ) : Type 0 where
  pub left : List ℕ
  pub first : ℕ
  pub links : Linked left next head first last
  pub enter : RowsBelow entered first last
  pub from : Sources left entered into first last
  pub start_in : start < 24
  pub low_in : first ≤ low
  pub ordered : low ≤ high
  pub high_in : high ≤ last
  pub fits : length path + unleft marks ≤ 24
  pub pos_in : pos ≤ room
  pub room_in : room < 2 ^ 63

-- What `extend` gives, for all rows that have these links: the extensions of the path by the rows from `low` up to `high`.
abbrev pub Extended : List ℕ → List ℕ → List ℕ → List ℕ → ℕ → ℕ → List ℕ → List ℕ → ℕ → ℕ → List ℕ → ℕ → Option ℕ → List ℕ → Type 0
Extended entered next head into last start marks rows low high before pos used after =
    (left : List ℕ) (first : ℕ) → Linked left next head first last → Sources left entered into first last → first ≤ low
    → Added (length before) before pos (extensions left entered first last start marks rows (column left low) low (high - low)) used after

-- The same of a graph.
abbrev pub ExtendedIn : Graph → ℕ → List ℕ → List ℕ → ℕ → ℕ → List ℕ → ℕ → Option ℕ → List ℕ → Type 0
ExtendedIn graph start marks rows low high before pos used after =
    Extended (entered_of graph) (next_of graph) (head_of graph) (into_of graph) (last_of graph) start marks rows low high before pos used after
