-- Laws of `read_plant`, for the functions that read the whole file.
use mathlib.Core.Path.{◌≡◌}
use mathlib.Core.List.{List}
use Prim.Native.Nat.{ℕ}
use Rattle.plant.specs.Found.{found, fault, and_then}
use Rattle.plant.specs.Reading.{byte_in, no_machines, read_machines, file_end, read_plant}

module _ (s : List ℕ) where
  -- A fault of the count of machines is the file's,
  pub no_machine_count : (number place : ℕ) → byte_in 1 17 2 s 0 ≡ fault number place → fault number place ≡ read_plant s
  unfolding read_plant
  no_machine_count number place e = rw e

  module _ (m a : ℕ) (e : byte_in 1 17 2 s 0 ≡ found m a) where
    -- so is a fault of the count of types,
    pub no_type_count : (number place : ℕ) → byte_in 0 65 2 s a ≡ fault number place → fault number place ≡ read_plant s
    unfolding read_plant
    no_type_count number place f = rw (e, f)

    -- and after both counts the machines decide, and then the end of the file.
    pub file_read : (types b : ℕ) → byte_in 0 65 2 s a ≡ found types b → and_then (read_machines m s b (no_machines types)) (file_end s) ≡ read_plant s
    unfolding read_plant
    file_read types b f = rw (e, f)
