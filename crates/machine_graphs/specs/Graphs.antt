-- The graph of a machine's rows: of which rows it is made, the one without rows, and the one with all of them.
use Rattle.std.specs.Prelude.{◌≡◌, List, [], ℕ, ◌+◌, ◌≤◌, ◌<◌, length, get_or}
use Rattle.tables.specs.Tables.{row_in, RoomFor}
use Rattle.graphs.specs.declared.Graph.{Graph}
use Rattle.graphs.specs.Graphs.{left_of, entered_of, head_of, into_of, between_of, pair, last_of}
use Rattle.state_marks.specs.Marks.{column}
use Rattle.cycle_paths.specs.Rows.{Searchable}
use Rattle.cycle_counts.specs.Pairs.{Between}

-- Rows of a table that are fit to be listed: from `first` up to, and not including, `last` it has them, and they leave and enter states below 24.
pub record Listable (table : List ℕ) (first last : ℕ) : Type 0 where
  pub ordered : first ≤ last
  pub few : last ≤ 1024
  pub few_rows : last ≤ first + 48
  pub room : RoomFor last table
  pub below_24 : (k : ℕ) → first ≤ k → k < last → ((row_in table k).left < 24) × ((row_in table k).entered < 24)

-- A table of pairs has room for those of 32 states with each of 24.
pub record PairRoom (table : List (List ℕ)) : Type 0 where
  pub rows : length table ≡ 24
  pub long : (s : ℕ) → s < 24 → length (get_or table s []) ≡ 32

-- A graph without rows between its 24 states, before `last`; what stands for a pair with a state behind these is left open.
pub record NoRowsOfStates (last : ℕ) (graph : Graph) : Type 0 where
  pub head_long : length (head_of graph) ≡ 24
  pub into_long : length (into_of graph) ≡ 32
  pub between_long : PairRoom (between_of graph)
  pub no_head : (s : ℕ) → s < 24 → get_or (head_of graph) s 0 ≡ last
  pub no_pair : (s t : ℕ) → s < 24 → t < 24 → pair (between_of graph) s t ≡ 0
  pub last_is : last_of graph ≡ last

-- A graph without rows, before `last`: no pair in the whole room has any.
pub record NoRows (last : ℕ) (graph : Graph) : Type 0 where
  pub head_long : length (head_of graph) ≡ 24
  pub into_long : length (into_of graph) ≡ 32
  pub between_long : PairRoom (between_of graph)
  pub no_head : (s : ℕ) → s < 24 → get_or (head_of graph) s 0 ≡ last
  pub no_pair : (s t : ℕ) → s < 24 → t < 32 → pair (between_of graph) s t ≡ 0
  pub last_is : last_of graph ≡ last

-- Two columns have the states that the rows of a table from `first` up to, and not including, `last` leave and enter.
pub record Copied (table : List ℕ) (first last : ℕ) (left entered : List ℕ) : Type 0 where
  pub left_is : (k : ℕ) → first ≤ k → k < last → column left k ≡ (row_in table k).left
  pub entered_is : (k : ℕ) → first ≤ k → k < last → column entered k ≡ (row_in table k).entered

-- A graph has the rows of a table from `first` up to, and not including, `last`.
pub record Graphed (table : List ℕ) (first last : ℕ) (graph : Graph) : Type 0 where
  pub copied : Copied table first last (left_of graph) (entered_of graph)
  pub search : Searchable graph first last
  pub pairs : Between (left_of graph) (entered_of graph) (between_of graph) first last
