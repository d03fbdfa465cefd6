-- The plants that the files of the starred examples read as, and which weights pass in them.
use mathlib.Core.Path.{◌≡◌, refl}
use mathlib.Core.Bool.{Bool, true, false}
use Rattle.std.specs.Prelude.{None}
use mathlib.Core.List.{List, [], ◌∷◌}
use Prim.Native.Nat.{ℕ}
use lib.Dec.{lit<}
use lib.Signed.{le_z_yes}
use Rattle.livelock.specs.Lists.{below, sum, sumℤ, greatest, All, Distinct}
use Rattle.livelock.specs.Plants.{Plant, row_with, has_progress}
use Rattle.livelock.specs.Cycles.{Walk, SimpleCycle, Quiet}
use Rattle.livelock.specs.Weights.{cycle_weight, Passes, FailingCycle}
use Rattle.livelock.specs.Tests.{every}
use Rattle.livelock.proofs.Tests.{well_formed_iff}
use Rattle.livelock.specs.Graphs.{via}
use Rattle.livelock.proofs.Graphs.{longest}
use Rattle.livelock.proofs.Decision.{state_potential, passing_iff}
use Rattle.livelock.proofs.BasicExamples.{panel_and_probe, plant_a, plant_b, probe_cycle, probe_quiet}
use Rattle.livelock.proofs.PassingExamples.{formed_A}
use Rattle.plant.specs.Found.{found}
use Rattle.plant.specs.Reading.{byte_at, byte_that, byte_in, map_byte, state_field, type_field, read_row, read_rows, rows_byte, read_machine, read_machines, read_plant}
use Rattle.worked_examples.specs.Files.{panel_and_probe_bytes, file_a, file_b, one_state_file, one_row_file}

-- One machine of one state, no types, with no row.
unfoldable pub one_plant : Plant
one_plant = record { types = 0; states = 1 ∷ []; rows = [] }

-- That machine with one row, which has progress or not.
unfoldable pub row_plant : Bool → Plant
row_plant mark =
    record {
      types = 0;
      states = 1 ∷ [];
      rows = row_with 0 0 0 None None mark ∷ [];
    }

-- ---- reading

-- File A reads as plant A, to its end after 20 bytes,
pub reads_A : read_plant file_a ≡ found plant_a 20
unfolding panel_and_probe_bytes panel_and_probe byte_at byte_that byte_in map_byte state_field type_field read_row read_rows rows_byte read_machine read_machines read_plant
reads_A = refl

-- and file B as plant B.
pub reads_B : read_plant file_b ≡ found plant_b 20
unfolding panel_and_probe_bytes panel_and_probe byte_at byte_that byte_in map_byte state_field type_field read_row read_rows rows_byte read_machine read_machines read_plant
reads_B = refl

-- The file of one state reads as the machine with no row,
pub reads_one_state : read_plant one_state_file ≡ found one_plant 4
unfolding one_state_file one_plant byte_at byte_that byte_in rows_byte read_rows read_machine read_machines read_plant
reads_one_state = refl

-- with the row 00 as that machine with a row without progress,
pub reads_quiet_row : read_plant (one_row_file 0x00) ≡ found (row_plant false) 5
unfolding one_row_file row_plant byte_at byte_that byte_in map_byte state_field type_field read_row read_rows rows_byte read_machine read_machines read_plant
reads_quiet_row = refl

-- and with the row 10 as that machine with a row that has progress.
pub reads_progress_row : read_plant (one_row_file 0x10) ≡ found (row_plant true) 5
unfolding one_row_file row_plant byte_at byte_that byte_in map_byte state_field type_field read_row read_rows rows_byte read_machine read_machines read_plant
reads_progress_row = refl

-- ---- weights

-- The weights 1, 0 pass in plant A.
pub passes_1_0 : Passes plant_a (1 ∷ 0 ∷ [])
unfolding panel_and_probe below greatest every state_potential longest via has_progress
passes_1_0 = (passing_iff plant_a formed_A (1 ∷ 0 ∷ [])).0 refl

-- With weights 1, 2 the probe's cycle weighs 1 and may be shown.
pub shown_1_2 : FailingCycle plant_a (1 ∷ 2 ∷ []) (2 ∷ 3 ∷ [])
unfolding panel_and_probe below sum sumℤ cycle_weight
shown_1_2 = record { machine = 1; simple = probe_cycle true; quiet = probe_quiet; weighs = le_z_yes tt }

-- In the plant without a row, the empty list of weights passes.
pub one_state_passes : Passes one_plant []
unfolding one_plant below greatest every state_potential longest via has_progress
one_state_passes = (passing_iff one_plant ((well_formed_iff one_plant).0 refl) []).0 refl

-- The one row is a cycle, which is quiet without the mark,
row_cycle : (mark : Bool) → SimpleCycle (row_plant mark) 0 (0 ∷ [])
unfolding row_plant All Walk Distinct
row_cycle mark = record { non_empty = lit< tt; of_machine = ((lit< tt, refl), tt); closed = (refl, refl); once = (tt, tt) }

row_quiet : Quiet (row_plant false) (0 ∷ [])
unfolding row_plant All has_progress
row_quiet = (refl, tt)

-- and as it weighs zero, no weights pass.
pub quiet_row_fails : (ws : List ℕ) → Passes (row_plant false) ws → ⊥
unfolding row_plant below sumℤ cycle_weight
quiet_row_fails ws ok = (ok 0 (0 ∷ []) (row_cycle false) row_quiet).lt

-- With the mark there is no quiet cycle, and any weights pass.
pub progress_row_passes : (ws : List ℕ) → Passes (row_plant true) ws
unfolding row_plant below greatest every state_potential longest via has_progress
progress_row_passes ws = (passing_iff (row_plant true) ((well_formed_iff (row_plant true)).0 refl) ws).0 refl
