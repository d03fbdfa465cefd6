-- What the writer owes for plant A's list, by the definitions alone.
use mathlib.Core.Path.{◌≡◌, refl}
use mathlib.Core.List.{[], ◌∷◌, ◌++◌}
use lib.ListN.{replicate}
use Rattle.livelock.proofs.BasicExamples.{panel_and_probe, plant_a}
use Rattle.plant.specs.Found.{found}
use Rattle.plant.specs.Limits.{rows_in}
use Rattle.plant.proofs.BasicExamples.{panel_and_probe_file}
use Rattle.plant_files.specs.Files.{row_bytes, rows_bytes, machines_as}
use Rattle.writing.specs.Answers.{wrote, refused}
use Rattle.writing.specs.Writing.{answer_for, buffer_for}

-- A buffer of 22 bytes keeps its last two.
writes_A : (answer_for (found plant_a 26) 22 ≡ wrote 20) × (buffer_for (found plant_a 26) (replicate 22 7) ≡ panel_and_probe_file 0x1B ++ (7 ∷ 7 ∷ []))
unfolding panel_and_probe panel_and_probe_file row_bytes rows_bytes rows_in machines_as
writes_A = (refl, refl)

-- One of 20 bytes is just long enough,
just_enough : (answer_for (found plant_a 26) 20 ≡ wrote 20) × (buffer_for (found plant_a 26) (replicate 20 7) ≡ panel_and_probe_file 0x1B)
unfolding panel_and_probe panel_and_probe_file row_bytes rows_bytes rows_in machines_as
just_enough = (refl, refl)

-- and one of 19 is refused with 25 at 0 and kept.
too_short : (answer_for (found plant_a 26) 19 ≡ refused 25 0) × (buffer_for (found plant_a 26) (replicate 19 7) ≡ replicate 19 7)
unfolding panel_and_probe row_bytes rows_bytes rows_in machines_as
too_short = (refl, refl)
