-- What a row does for a path, and the entries of the cycles that go on from it.
use Rattle.std.specs.Prelude.{cond, List, ◌++◌, map, ℕ, suc, ◌-◌, get_or, eqb, ltb}
use Rattle.state_marks.specs.Marks.{column}
use Rattle.cycle_paths.specs.declared.Step.{Step}
use Rattle.cycle_paths.specs.declared.Step.TheVariants as Steps
use Rattle.cycle_paths.specs.Cycles.{unleft, paths}
use Rattle.cycle_paths.specs.Listings.{flattened}
use Rattle.cycle_paths.specs.Rows.{up_from}

-- What row k does for a path from `start` that stands at the state which the row leaves: it closes the cycle, or it enters a state above
-- `start` that is not yet left.
abbrev pub step_of : List ℕ → ℕ → List ℕ → ℕ → Step
step_of entered start marks k =
    cond (eqb (column entered k) start) Steps.Close
    (cond (ltb (column entered k) start) Steps.Skip
    (cond (eqb (get_or marks (column entered k) 0) 0) (Steps.Enter (column entered k)) Steps.Skip))

-- The entries of the cycles that begin with rows and go on with each of some paths.
unfoldable pub entries_with : List ℕ → List (List ℕ) → List ℕ
entries_with rows onward = flattened (map (λ c. rows ++ c) onward)

-- The entries of the cycles from `start` that begin with the rows of a path and go on from state `at` by one of the n rows from `low` on.
unfoldable pub extensions : List ℕ → List ℕ → ℕ → ℕ → ℕ → List ℕ → List ℕ → ℕ → ℕ → ℕ → List ℕ
extensions left entered first last start marks rows at low n =
    entries_with rows (paths (suc (unleft marks)) (column left) (column entered) (up_from first (last - first)) start at marks (up_from low n))
