-- What it is to add a row to a graph.
use Rattle.std.specs.Prelude.{◌≡◌, List, [], ℕ, ◌+◌, ◌<◌, get_or, set}
use Rattle.graphs.specs.declared.Graph.{Graph}
use Rattle.graphs.specs.Graphs.{left_of, entered_of, next_of, head_of, into_of, between_of, pair, last_of}
use Rattle.state_marks.specs.Marks.{marks_of}

-- A table of pairs with one more for states s and t.
abbrev pub one_more : List (List ℕ) → ℕ → ℕ → List (List ℕ)
one_more table s t = set table s (set (get_or table s []) t (pair table s t + 1))

-- Row k is added before the rows of a graph; the 63 rows after it are kept.
pub record RowAdded (k left entered : ℕ) (before after : Graph) : Type 0 where
  pub left_at : get_or (left_of after) k 0 ≡ left
  pub entered_at : get_or (entered_of after) k 0 ≡ entered
  pub next_at : get_or (next_of after) k 0 ≡ get_or (head_of before) left 0
  pub left_else : (j : ℕ) → k < j → j < k + 64 → j < 1024 → get_or (left_of after) j 0 ≡ get_or (left_of before) j 0
  pub entered_else : (j : ℕ) → k < j → j < k + 64 → j < 1024 → get_or (entered_of after) j 0 ≡ get_or (entered_of before) j 0
  pub next_else : (j : ℕ) → k < j → j < k + 64 → j < 1024 → get_or (next_of after) j 0 ≡ get_or (next_of before) j 0
  pub head_is : head_of after ≡ set (head_of before) left k
  pub into : ℕ
  pub into_marks : marks_of 24 into ≡ set (marks_of 24 (get_or (into_of before) entered 0)) left 1
  pub into_is : into_of after ≡ set (into_of before) entered into
  pub between_is : between_of after ≡ one_more (between_of before) left entered
  pub last_same : last_of after ≡ last_of before
