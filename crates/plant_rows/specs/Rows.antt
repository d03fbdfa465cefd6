-- What the answer of the function that reads a row means.
use Rattle.std.specs.Prelude.{ℕ, Result}
use Rattle.livelock.specs.Plants.{Row}
use Rattle.plant.specs.Found.{Found}
use Rattle.plant.specs.Steps.{read_found}
use Rattle.plant.specs.declared.Fault.{Fault}
use Rattle.plant.specs.declared.Field.{Field}
use Rattle.plant_rows.specs.declared.RowFields.{RowFields}

-- A row of machine m that was read.
abbrev pub fields_row : ℕ → RowFields → Row
fields_row m r =
    record { machine = m; left = r.left; entered = r.entered; sent = r.sent; taken = r.taken; progress = r.progress }

-- A row of machine m, and the offset after it, or the fault.
abbrev pub row_found : ℕ → Result (Field RowFields) Fault → Found Row
row_found m r = read_found (fields_row m) r
