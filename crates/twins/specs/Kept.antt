-- What is kept of the rows of a machine that were read, and what is told of the next one. No definition of an answer rests on these.
use Rattle.std.specs.Prelude.{◌≡◌, List, [], ◌∷◌, ◌++◌, map, ℕ, ◌+◌, length, Result, OnOk, OnErr}
use Rattle.livelock.specs.Lists.{All}
use Rattle.livelock.specs.Plants.{Row}
use Rattle.plant.specs.Found.{found}
use Rattle.plant.specs.Limits.{rows_in}
use Rattle.plant.specs.Twins.{unless_twin}
use Rattle.plant.specs.Checks.{check_found}
use Rattle.plant.specs.declared.Fault.{Fault}
use Rattle.plant_rows.specs.Rows.{fields_row}
use Rattle.plant_rows.specs.declared.RowFields.{RowFields}
use Rattle.twins.specs.Keys.{key_of, Small, state_bit}
use Rattle.twins.specs.declared.Keys.{Keys}

module _ {N : ℕ} where
  -- How many rows are kept.
  abbrev pub kept_count : Keys N → ℕ
  kept_count k = length k.keys.items

  -- The rows of machine m among these rows are kept: the keys are theirs, and the bit of each state that they leave stands.
  pub record RowsKept (m : ℕ) (rows : List Row) (k : Keys N) : Type 0 where
    pub keys_are : k.keys.items ≡ map key_of (rows_in m rows)
    pub leave : All (λ r. state_bit k.states r.left ≡ 1) (rows_in m rows)
    pub small : All Small (rows_in m rows)

  -- What is told of the next row of a machine, whatever the machine and the rows: 26 at this place if it is a twin, and then no more is kept; if it is no
  -- twin, it is kept as well.
  pub record RowKept (row : RowFields) (place : ℕ) (before after : Keys N) (r : Result (Unit {0}) Fault) : Type 0 where
    pub told : (m : ℕ) (rows : List Row) → RowsKept m rows before → (next : ℕ)
        → check_found r (fields_row m row) next ≡ unless_twin rows place (found (fields_row m row) next)
    pub kept : OnOk r ((m : ℕ) (rows : List Row) → RowsKept m rows before → RowsKept m (rows ++ (fields_row m row ∷ [])) after)
    pub count : OnOk r (kept_count after ≡ kept_count before + 1)
    pub same : OnErr r (after ≡ before)
