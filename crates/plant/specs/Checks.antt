-- What the answer of a function that only checks means.
use Rattle.std.specs.Prelude.{ℕ, Result, Ok, Err}
use Rattle.plant.specs.Found.{Found, found}
use Rattle.plant.specs.Steps.{fault_found}
use Rattle.plant.specs.declared.Fault.{Fault}

-- What was checked, and the offset after it, or the fault.
abbrev pub check_found : {A : Type 0} → Result (Unit {0}) Fault → A → ℕ → Found A
check_found (Ok u) a next = found a next
check_found (Err f) a next = fault_found f
