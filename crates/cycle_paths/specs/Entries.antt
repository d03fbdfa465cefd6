-- The entries of the cycles of some rows.
use Rattle.std.specs.Prelude.{List, ℕ, ◌-◌}
use Rattle.state_marks.specs.Marks.{column}
use Rattle.cycle_paths.specs.Cycles.{cycles_through}
use Rattle.cycle_paths.specs.Listings.{flattened}
use Rattle.cycle_paths.specs.Rows.{up_from}

-- The entries of all cycles of the rows from `first` up to `last`.
abbrev pub all_entries : List ℕ → List ℕ → ℕ → ℕ → List ℕ
all_entries left entered first last = flattened (cycles_through 24 (column left) (column entered) (up_from first (last - first)))
