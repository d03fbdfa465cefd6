-- How many rows lead from one state to another, in a table of all pairs of states.
use Rattle.std.specs.Prelude.{◌≡◌, cond, List, ℕ, zero, suc, ◌+◌, ◌-◌, ◌<◌, eqb}
use Rattle.graphs.specs.Graphs.{pair}
use Rattle.state_marks.specs.Marks.{column}

-- How many of the n rows from k on lead from state s to state t.
unfoldable pub rows_between : List ℕ → List ℕ → ℕ → ℕ → ℕ → ℕ → ℕ
rows_between left entered s t k zero = 0
rows_between left entered s t k (suc n) = cond (eqb (column left k) s) (cond (eqb (column entered k) t) 1 0) 0 + rows_between left entered s t (suc k) n

-- `between` has for states s and t how many of the rows from `first` up to, and not including, `last` lead from s to t.
pub record Between (left entered : List ℕ) (between : List (List ℕ)) (first last : ℕ) : Type 0 where
  pub known : (s t : ℕ) → s < 24 → t < 24 → pair between s t ≡ rows_between left entered s t first (last - first)
