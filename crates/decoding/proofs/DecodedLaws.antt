-- Laws for those that build a `Decoded`.
use mathlib.Core.Path.{◌≡◌, sym}
use mathlib.Core.List.{List}
use Prim.Native.Nat.{ℕ}
use lib.ListN.{length}
use Rattle.std.specs.Prelude.{Ok}
use Rattle.plant.specs.Reading.{read_plant}
use Rattle.plant.specs.Limits.{WithinLimits}
use Rattle.plant.proofs.FileBounds.{within_limits}
use Rattle.decoding.specs.Tables.{plant_of, decoded_found}
use Rattle.decoding.specs.declared.Shape.{Shape}

-- The plant of a shape and a table into which a file was decoded is within the limits of a file's.
pub decoded_limits : (file : List ℕ) (s : Shape) (table : List ℕ) → decoded_found (Ok s) (length file) table ≡ read_plant file → WithinLimits (plant_of s table)
decoded_limits file s table e = within_limits file (plant_of s table) (length file) (sym e)
