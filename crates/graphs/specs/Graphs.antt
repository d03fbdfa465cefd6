-- The parts of a graph.
use Rattle.std.specs.Prelude.{List, [], map, ℕ, ◌%◌, get_or}
use Rattle.livelock.specs.Lists.{below}
use Rattle.graphs.specs.declared.Graph.{Graph}

-- What stands for each row number in 64 numbers of a graph.
abbrev pub rows_at : List ℕ → List ℕ
rows_at part = map (λ k. get_or part (k % 64) 0) (below 1024)

-- The states that the rows leave,
unfoldable pub left_of : Graph → List ℕ
left_of graph = rows_at graph.left

-- the states that they enter,
unfoldable pub entered_of : Graph → List ℕ
entered_of graph = rows_at graph.entered

-- and the next row after each that leaves the same state.
unfoldable pub next_of : Graph → List ℕ
next_of graph = rows_at graph.next

-- The first row that leaves each state,
unfoldable pub head_of : Graph → List ℕ
head_of graph = graph.head

-- for each state the states with a row to it, as bits,
unfoldable pub into_of : Graph → List ℕ
into_of graph = graph.into

-- and for each state the number of rows to each state:
unfoldable pub between_of : Graph → List (List ℕ)
between_of graph = graph.between

-- what such a table has for states s and t.
abbrev pub pair : List (List ℕ) → ℕ → ℕ → ℕ
pair table s t = get_or (get_or table s []) t 0

-- The number after the last row.
unfoldable pub last_of : Graph → ℕ
last_of graph = graph.last
