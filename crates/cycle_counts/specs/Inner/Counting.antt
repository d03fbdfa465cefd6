-- What the functions that count the extensions of a path ask and give.
use Rattle.std.specs.Prelude.{◌≡◌, List, ℕ, ◌+◌, ◌-◌, ◌≤◌, ◌<◌, length}
use Rattle.graphs.specs.declared.Graph.{Graph}
use Rattle.graphs.specs.Graphs.{entered_of, next_of, head_of, into_of, between_of, last_of}
use Rattle.state_marks.specs.Marks.{column, RowsBelow, Sources}
use Rattle.cycle_paths.specs.Cycles.{unleft}
use Rattle.cycle_paths.specs.Rows.{Linked}
use Rattle.cycle_paths.specs.Extensions.{extensions}
use Rattle.cycle_counts.specs.Pairs.{Between}

-- The links of some rows, their sources, and their numbers from state to state.
pub record Tables (left entered next head into : List ℕ) (between : List (List ℕ)) (first last : ℕ) : Type 0 where
  pub links : Linked left next head first last
  pub from : Sources left entered into first last
  pub pairs : Between left entered between first last

-- What `count` asks: the tables of some rows, and a path of at most 24 rows, whatever states it goes on through.
pub record Countable (entered next head into : List ℕ) (between : List (List ℕ)) (last start : ℕ) (marks : List ℕ) (depth low high : ℕ) : Type 0 where
  pub left : List ℕ
  pub first : ℕ
  pub tables : Tables left entered next head into between first last
  pub enter : RowsBelow entered first last
  pub start_in : start < 24
  pub low_in : first ≤ low
  pub ordered : low ≤ high
  pub high_in : high ≤ last
  pub fits : depth + unleft marks ≤ 24

-- What `count` gives, for all rows that have these tables and all paths of `depth` rows: what is left of the room without the entries of
-- the extensions of the path by the rows from `low` up to `high`.
abbrev pub Counted : List ℕ → List ℕ → List ℕ → List ℕ → List (List ℕ) → ℕ → ℕ → List ℕ → ℕ → ℕ → ℕ → ℕ → ℕ → Type 0
Counted entered next head into between last start marks depth low high room rest =
    (rows : List ℕ) → length rows ≡ depth → (left : List ℕ) (first : ℕ) → Tables left entered next head into between first last → first ≤ low
    → rest ≡ room - length (extensions left entered first last start marks rows (column left low) low (high - low))

-- The same of a graph.
abbrev pub CountedIn : Graph → ℕ → List ℕ → ℕ → ℕ → ℕ → ℕ → ℕ → Type 0
CountedIn graph start marks depth low high room rest =
    Counted (entered_of graph) (next_of graph) (head_of graph) (into_of graph) (between_of graph) (last_of graph) start marks depth low high room rest
