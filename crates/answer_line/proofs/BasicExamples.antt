-- Lines that the checker computes by the definitions alone, so that an edit of a definition is caught here first.
use mathlib.Core.Path.{◌≡◌, refl}
use mathlib.Core.List.{[], ◌∷◌}
use Rattle.plant.specs.Found.{fault}
use Rattle.plant.specs.Reading.{byte_at, byte_that, byte_in, rows_byte, read_rows, read_machine, read_machines, read_plant}
use Rattle.figure_lines.specs.FigureLines.{decimal_within, decimal, figure, figures}
use Rattle.weight_files.specs.WeightFiles.{weights_of}
use Rattle.weight_checks.specs.Checks.{checked_weights}
use Rattle.weighing.specs.Answers.{passed, cycle, refused}
use Rattle.answer_line.specs.Lines.{line_of}
use Rattle.answer_line.specs.Files.{checked_bytes, judged_files}

-- `passed 10 2 9 4`.
line_passed : line_of (passed (record { base = 10; most_states = 2; per_progress = 9; per_doubling = 4 })) ([])
    ≡ 112 ∷ 97 ∷ 115 ∷ 115 ∷ 101 ∷ 100 ∷ 32 ∷ 49 ∷ 48 ∷ 32 ∷ 50 ∷ 32 ∷ 57 ∷ 32 ∷ 52 ∷ 10 ∷ []
unfolding decimal_within decimal figure figures
line_passed = refl

-- `cycle 3`, and later entries of the list do not show.
line_cycle : line_of (cycle 1) (3 ∷ 0 ∷ []) ≡ 99 ∷ 121 ∷ 99 ∷ 108 ∷ 101 ∷ 32 ∷ 51 ∷ 10 ∷ []
unfolding decimal_within decimal figure figures
line_cycle = refl

-- `refused 9 0`.
line_refused : line_of (refused 9 0) ([]) ≡ 114 ∷ 101 ∷ 102 ∷ 117 ∷ 115 ∷ 101 ∷ 100 ∷ 32 ∷ 57 ∷ 32 ∷ 48 ∷ 10 ∷ []
unfolding decimal_within decimal figure figures
line_refused = refl

-- An odd length is 9 at place 0,
odd_length : judged_files (1 ∷ 0 ∷ 1 ∷ 0 ∷ []) (7 ∷ []) ≡ fault 9 0
unfolding byte_at byte_that byte_in rows_byte read_rows read_machine read_machines read_plant checked_bytes
odd_length = refl

-- and so is one weight for no type;
one_weight : judged_files (1 ∷ 0 ∷ 1 ∷ 0 ∷ []) (7 ∷ 0 ∷ []) ≡ fault 9 0
unfolding byte_at byte_that byte_in rows_byte read_rows read_machine read_machines read_plant weights_of checked_weights checked_bytes
one_weight = refl

-- but the plant's own faults come first.
plant_first : judged_files ([]) (7 ∷ []) ≡ fault 1 0
unfolding byte_at byte_that byte_in read_plant
plant_first = refl
