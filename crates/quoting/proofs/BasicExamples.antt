-- Ceilings and the checks that the checker computes by the definitions alone, so that an edit of a definition is caught here first.
use mathlib.Core.Path.{◌≡◌, refl}
use mathlib.Core.List.{List, [], ◌∷◌}
use Prim.Native.Nat.{ℕ}
use Rattle.livelock.specs.Lists.{below, sum, greatest}
use Rattle.livelock.specs.Plants.{Plant}
use Rattle.livelock.specs.Figures.{contents_weight}
use Rattle.livelock.proofs.BasicExamples.{panel_and_probe, plant_a}
use Rattle.plant.specs.Found.{Found, found, fault, and_then}
use Rattle.plant.specs.Reading.{byte_at, byte_that, byte_in, map_byte, state_field, type_field, read_row, read_rows, rows_byte, read_machine, read_machines, read_plant}
use Rattle.plant.proofs.BasicExamples.{panel_and_probe_file}
use Rattle.weight_checks.specs.Checks.{first_above, checked_sizes, checked_weights}
use Rattle.price_classes.specs.Classes.{edges, class_of}
use Rattle.contents.specs.Contents.{content, checked_amounts, checked_contents}
use Rattle.quoting.specs.Quoting.{judged, ceiling_for}

-- ---- plant A of document 01

-- Its 20 bytes, with weights 2, 1, contents 3, 4, g 1 and d 3: no fault,
judged_A : judged (panel_and_probe_file 0x1B) (2 ∷ 1 ∷ []) (3 ∷ 4 ∷ []) 1 3 ≡ found plant_a 20
unfolding panel_and_probe_file panel_and_probe byte_at byte_that byte_in map_byte state_field type_field read_row read_rows rows_byte read_machine read_machines read_plant first_above checked_sizes checked_weights checked_amounts checked_contents
judged_A = refl

-- W 10, and without a doubling the ceiling 39 of class 6; with three it is 51.
quoted_A : (contents_weight plant_a (2 ∷ 1 ∷ []) (content (3 ∷ 4 ∷ [])) ≡ 10) × (ceiling_for plant_a (2 ∷ 1 ∷ []) (3 ∷ 4 ∷ []) 1 0 ≡ 39) × (class_of 39 ≡ 6)
    × (ceiling_for plant_a (2 ∷ 1 ∷ []) (3 ∷ 4 ∷ []) 1 3 ≡ 51)
unfolding panel_and_probe below sum greatest edges class_of
quoted_A = (refl, refl, refl, refl)

-- ---- faults, in their order

-- The checks of plant A, whose file has 20 bytes.
abbrev checked_a : (ws contents : List ℕ) → ℕ → Found Plant
checked_a ws contents g = and_then (checked_weights ws plant_a 20) (checked_contents contents (g ∷ 0 ∷ []))

-- Numbers 9 and 10 come before number 20.
weight_missing : checked_a (2 ∷ []) (3 ∷ []) 1 ≡ fault 9 0
unfolding panel_and_probe first_above checked_sizes checked_weights checked_amounts checked_contents
weight_missing = refl

weight_1001 : checked_a (2 ∷ 1001 ∷ []) (3 ∷ []) 1 ≡ fault 10 1
unfolding panel_and_probe first_above checked_sizes checked_weights checked_amounts checked_contents
weight_1001 = refl
