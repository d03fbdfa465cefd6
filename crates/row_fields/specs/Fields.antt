-- What the answer of the function that reads a type means.
use Rattle.std.specs.Prelude.{ℕ, Option, Result}
use Rattle.plant.specs.Found.{Found}
use Rattle.plant.specs.Steps.{read_found}
use Rattle.plant.specs.declared.Fault.{Fault}
use Rattle.plant.specs.declared.Field.{Field}

-- A type that was read, or none.
abbrev pub type_found : Result (Field (Option ℕ)) Fault → Found (Option ℕ)
type_found r = read_found (λ t. t) r
