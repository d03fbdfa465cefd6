-- Rows from one number on, and rows linked by the state that they leave.
use Rattle.std.specs.Prelude.{◌≡◌, List, [], ◌∷◌, ℕ, zero, suc, ◌≤◌, ◌<◌, length}
use Rattle.graphs.specs.declared.Graph.{Graph}
use Rattle.graphs.specs.Graphs.{left_of, entered_of, next_of, head_of, into_of, last_of}
use Rattle.state_marks.specs.Marks.{column, RowsBelow, Sources}

-- The n numbers k, k + 1, and so on.
unfoldable pub up_from : ℕ → ℕ → List ℕ
up_from k zero = []
up_from k (suc n) = k ∷ up_from (suc k) n

-- `head` has the first row that leaves each state, and `next` the row after a row that leaves the same state; `last` where there is none.
pub record Linked (left next head : List ℕ) (first last : ℕ) : Type 0 where
  pub next_room : last ≤ length next
  pub head_room : 24 ≤ length head
  pub next_later : (k : ℕ) → first ≤ k → k < last → k < column next k
  pub next_same : (k : ℕ) → first ≤ k → k < last → column next k < last → column left (column next k) ≡ column left k
  pub next_first : (k j : ℕ) → first ≤ k → k < j → j < column next k → j < last → column left j ≡ column left k → ⊥
  pub head_in : (s : ℕ) → s < 24 → (first ≤ column head s) × (column head s ≤ last)
  pub head_same : (s : ℕ) → s < 24 → column head s < last → column left (column head s) ≡ s
  pub head_first : (s j : ℕ) → s < 24 → first ≤ j → j < column head s → column left j ≡ s → ⊥

-- A graph has the rows from `first` up to, and not including, `last`, of states below 24, with their links and sources.
pub record Searchable (graph : Graph) (first last : ℕ) : Type 0 where
  pub left_in : RowsBelow (left_of graph) first last
  pub entered_in : RowsBelow (entered_of graph) first last
  pub links : Linked (left_of graph) (next_of graph) (head_of graph) first last
  pub from : Sources (left_of graph) (entered_of graph) (into_of graph) first last
  pub last_is : last_of graph ≡ last
