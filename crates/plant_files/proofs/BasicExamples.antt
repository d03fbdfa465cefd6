-- Shortest files that the checker writes by the definitions alone.
use mathlib.Core.Path.{◌≡◌, refl}
use mathlib.Core.Bool.{true, false}
use Rattle.std.specs.Prelude.{None, Some}
use mathlib.Core.List.{[], ◌∷◌}
use lib.ListN.{length}
use Rattle.livelock.specs.Plants.{Plant, row_with}
use Rattle.livelock.proofs.BasicExamples.{panel_and_probe, plant_a, plant_b}
use Rattle.plant.specs.Limits.{most_row_bytes, rows_in}
use Rattle.plant.proofs.BasicExamples.{panel_and_probe_file}
use Rattle.plant_files.specs.Files.{row_bytes, rows_bytes, machines_as, file_of}

-- Plants A and B: the files of document 01 are the shortest.
file_of_A : file_of plant_a ≡ panel_and_probe_file 0x1B
unfolding panel_and_probe_file panel_and_probe row_bytes rows_bytes rows_in machines_as
file_of_A = refl

file_of_B : file_of plant_b ≡ panel_and_probe_file 0x0B
unfolding panel_and_probe_file panel_and_probe row_bytes rows_bytes rows_in machines_as
file_of_B = refl

-- Two machines of three states: the implied state is the one that the previous row leaves, not the one that it enters, and 0 again at the first
-- row of the second machine.
implied : Plant
implied =
    record {
      types = 1;
      states = 3 ∷ 3 ∷ [];
      rows =
          row_with 0 1 2 None None false
          ∷ row_with 0 2 2 (Some 0) None true
          ∷ row_with 0 2 1 None (Some 0) false
          ∷ row_with 1 0 0 None None false
          ∷ row_with 1 2 2 None None false
          ∷ [];
    }

file_of_implied : file_of implied
    ≡ 0x02 ∷ 0x01
    ∷ 0x03 ∷ 0x03
    ∷ 0x03 ∷ 0x01 ∷ 0x02
    ∷ 0x15 ∷ 0x02 ∷ 0x00
    ∷ 0x0A ∷ 0x01 ∷ 0x00
    ∷ 0x03 ∷ 0x02
    ∷ 0x00
    ∷ 0x01 ∷ 0x02
    ∷ []
unfolding implied row_bytes rows_bytes rows_in machines_as
file_of_implied = refl

-- Rows that take and send: the type sent stands first; no row has more bytes than one with all fields.
both_types : (row_bytes 1 (row_with 0 1 1 (Some 7) (Some 3) false) ≡ 0x0C ∷ 0x07 ∷ 0x03 ∷ []) × (row_bytes 1 (row_with 0 1 1 (Some 3) (Some 3) true) ≡ 0x1C ∷ 0x03 ∷ 0x03 ∷ [])
    × (length (row_bytes 1 (row_with 0 0 1 (Some 7) (Some 3) false)) ≡ most_row_bytes)
unfolding row_bytes
both_types = (refl, refl, refl)
