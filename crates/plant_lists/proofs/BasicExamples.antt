-- Lists that the checker reads by the definitions alone, so that an edit of a definition is caught here first.
use mathlib.Core.Path.{◌≡◌, refl}
use mathlib.Core.Bool.{true, false}
use Rattle.std.specs.Prelude.{None, Some}
use mathlib.Core.List.{List, [], ◌∷◌}
use Prim.Native.Nat.{ℕ, ◌+◌, ◌*◌}
use lib.ListN.{length, replicate}
use Rattle.livelock.specs.Plants.{Plant, row_with}
use Rattle.livelock.proofs.BasicExamples.{panel_and_probe, plant_a}
use Rattle.plant.specs.Found.{found, fault}
use Rattle.plant.specs.Limits.{rows_in}
use Rattle.plant_files.specs.Files.{machines_as}
use Rattle.plant_lists.specs.Lists.{number_that, listed_row, listed_rows, rows_number, listed_machine, listed_machines, listed_plant, row_numbers, rows_numbers, list_of, longest_list}

-- ---- plant A

-- The list of plant A: 30 numbers.
unfoldable pub list_a : List ℕ
list_a =
    2 ∷ 2
    ∷ 2 ∷ 2
    ∷ 0 ∷ 1 ∷ 1 ∷ 0 ∷ 0 ∷ 0
    ∷ 1 ∷ 0 ∷ 2 ∷ 1 ∷ 1 ∷ 0
    ∷ 2 ∷ 2
    ∷ 0 ∷ 1 ∷ 2 ∷ 0 ∷ 0 ∷ 0
    ∷ 1 ∷ 0 ∷ 1 ∷ 1 ∷ 0 ∷ 0
    ∷ []

says_A : listed_plant list_a ≡ found plant_a 30
unfolding list_a panel_and_probe number_that listed_row listed_rows listed_machine listed_machines listed_plant
says_A = refl

list_of_A : list_of plant_a ≡ list_a
unfolding list_a panel_and_probe rows_in machines_as row_numbers rows_numbers
list_of_A = refl

-- ---- faults, one by one

-- Number 23: no number, none after a count that is good, and none within a row.
missing : (listed_plant ([]) ≡ fault 23 0) × (listed_plant (1 ∷ []) ≡ fault 23 1) × (listed_plant (1 ∷ 0 ∷ 1 ∷ []) ≡ fault 23 3) × (listed_plant (1 ∷ 0 ∷ 1 ∷ 1 ∷ 0 ∷ 0 ∷ []) ≡ fault 23 6)
unfolding number_that listed_row listed_rows listed_machine listed_machines listed_plant
missing = (refl, refl, refl, refl)

-- One number too many, whatever it is.
extra : (listed_plant (1 ∷ 0 ∷ 1 ∷ 0 ∷ 0 ∷ []) ≡ fault 23 4) × (listed_plant (1 ∷ 0 ∷ 1 ∷ 0 ∷ 65535 ∷ 7 ∷ []) ≡ fault 23 4)
unfolding number_that listed_row listed_rows listed_machine listed_machines listed_plant
extra = (refl, refl)

-- Number 24, before the next number is missed: counts of machines, types and states.
counts : (listed_plant (0 ∷ []) ≡ fault 24 0) × (listed_plant (17 ∷ []) ≡ fault 24 0) × (listed_plant (1 ∷ 65 ∷ []) ≡ fault 24 1)
    × (listed_plant (1 ∷ 0 ∷ 0 ∷ []) ≡ fault 24 2) × (listed_plant (1 ∷ 0 ∷ 65 ∷ []) ≡ fault 24 2)
unfolding number_that listed_row listed_rows listed_machine listed_machines listed_plant
counts = (refl, refl, refl, refl, refl)

-- A count of rows: 255 and not 256; after 1,020 rows 4 and not 5, before its rows.
row_counts : (rows_number 0 (255 ∷ []) 0 ≡ found 255 1) × (rows_number 0 (256 ∷ []) 0 ≡ fault 24 0) × (rows_number 1020 (4 ∷ []) 0 ≡ found 4 1) × (rows_number 1020 (5 ∷ []) 0 ≡ fault 24 0)
unfolding number_that
row_counts = (refl, refl, refl, refl)

rows_1020 : Plant
rows_1020 = record { types = 0; states = 1 ∷ []; rows = replicate 1020 (row_with 0 0 0 None None false) }

total_of_rows : listed_machines 1 (1 ∷ 5 ∷ []) 0 rows_1020 ≡ fault 24 1
unfolding rows_1020 number_that listed_row listed_rows listed_machine listed_machines
total_of_rows = refl

-- States: 1 of 1, left and entered.
states : (listed_plant (1 ∷ 0 ∷ 1 ∷ 1 ∷ 1 ∷ []) ≡ fault 24 4) × (listed_plant (1 ∷ 0 ∷ 1 ∷ 1 ∷ 0 ∷ 1 ∷ []) ≡ fault 24 5)
unfolding number_that listed_row listed_rows listed_machine listed_machines listed_plant
states = (refl, refl)

-- Kind 4; type 1 for kind 0; a type for kinds 1 and 2 without types, at the type; type 1 of 1; progress 2.
kinds : (listed_plant (1 ∷ 1 ∷ 1 ∷ 1 ∷ 0 ∷ 0 ∷ 4 ∷ []) ≡ fault 24 6) × (listed_plant (1 ∷ 2 ∷ 1 ∷ 1 ∷ 0 ∷ 0 ∷ 0 ∷ 1 ∷ []) ≡ fault 24 7)
    × (listed_plant (1 ∷ 0 ∷ 1 ∷ 1 ∷ 0 ∷ 0 ∷ 1 ∷ 0 ∷ []) ≡ fault 24 7) × (listed_plant (1 ∷ 0 ∷ 1 ∷ 1 ∷ 0 ∷ 0 ∷ 2 ∷ []) ≡ fault 23 7)
    × (listed_plant (1 ∷ 1 ∷ 1 ∷ 1 ∷ 0 ∷ 0 ∷ 2 ∷ 1 ∷ []) ≡ fault 24 7) × (listed_plant (1 ∷ 1 ∷ 1 ∷ 1 ∷ 0 ∷ 0 ∷ 2 ∷ 0 ∷ 2 ∷ []) ≡ fault 24 8)
unfolding number_that listed_row listed_rows listed_machine listed_machines listed_plant
kinds = (refl, refl, refl, refl, refl, refl)

-- 64 types and 64 states are accepted.
most : listed_plant (1 ∷ 64 ∷ 64 ∷ 0 ∷ []) ≡ found (record { types = 64; states = 64 ∷ []; rows = [] }) 4
unfolding number_that listed_row listed_rows listed_machine listed_machines listed_plant
most = refl

-- ---- twin rows (document 02, L4)

-- Number 26, at the first number of the second row: the row before it, and one further back; before the next number is missed or one is extra.
twin_rows : (listed_plant (1 ∷ 0 ∷ 1 ∷ 2 ∷ 0 ∷ 0 ∷ 0 ∷ 0 ∷ 1 ∷ 0 ∷ 0 ∷ 0 ∷ 0 ∷ 0 ∷ 1 ∷ 0 ∷ []) ≡ fault 26 10)
    × (listed_plant (1 ∷ 0 ∷ 1 ∷ 3 ∷ 0 ∷ 0 ∷ 0 ∷ 0 ∷ 1 ∷ 0 ∷ 0 ∷ 0 ∷ 0 ∷ 0 ∷ 0 ∷ 0 ∷ 0 ∷ 0 ∷ 0 ∷ 0 ∷ 1 ∷ 0 ∷ []) ≡ fault 26 16)
    × (listed_plant (1 ∷ 0 ∷ 1 ∷ 3 ∷ 0 ∷ 0 ∷ 0 ∷ 0 ∷ 1 ∷ 0 ∷ 0 ∷ 0 ∷ 0 ∷ 0 ∷ 1 ∷ 0 ∷ []) ≡ fault 26 10)
    × (listed_plant (1 ∷ 0 ∷ 1 ∷ 2 ∷ 0 ∷ 0 ∷ 0 ∷ 0 ∷ 1 ∷ 0 ∷ 0 ∷ 0 ∷ 0 ∷ 0 ∷ 1 ∷ 0 ∷ 9 ∷ []) ≡ fault 26 10)
unfolding number_that listed_row listed_rows listed_machine listed_machines listed_plant
twin_rows = (refl, refl, refl, refl)

-- Its last number is judged first, and missed first.
numbers_first : (listed_plant (1 ∷ 0 ∷ 1 ∷ 2 ∷ 0 ∷ 0 ∷ 0 ∷ 0 ∷ 1 ∷ 0 ∷ 0 ∷ 0 ∷ 0 ∷ 0 ∷ 1 ∷ 1 ∷ []) ≡ fault 24 15) × (listed_plant (1 ∷ 0 ∷ 1 ∷ 2 ∷ 0 ∷ 0 ∷ 0 ∷ 0 ∷ 1 ∷ 0 ∷ 0 ∷ 0 ∷ 0 ∷ 0 ∷ 1 ∷ []) ≡ fault 23 15)
unfolding number_that listed_row listed_rows listed_machine listed_machines listed_plant
numbers_first = (refl, refl)

-- The same row in another machine is no twin.
same_in_both : listed_plant (2 ∷ 0 ∷ 1 ∷ 1 ∷ 0 ∷ 0 ∷ 0 ∷ 0 ∷ 1 ∷ 0 ∷ 1 ∷ 1 ∷ 0 ∷ 0 ∷ 0 ∷ 0 ∷ 1 ∷ 0 ∷ [])
    ≡ found (record { types = 0; states = 1 ∷ 1 ∷ []; rows = row_with 0 0 0 None None true ∷ row_with 1 0 0 None None true ∷ [] }) 18
unfolding number_that listed_row listed_rows listed_machine listed_machines listed_plant
same_in_both = refl

-- ---- rows that take and send (document 02, L5)

-- Kind 3: the fourth number is the type taken, the sixth the type sent. The row's numbers are these again.
takes_and_sends : (listed_plant (1 ∷ 3 ∷ 1 ∷ 1 ∷ 0 ∷ 0 ∷ 3 ∷ 1 ∷ 0 ∷ 2 ∷ []) ≡ found (record { types = 3; states = 1 ∷ []; rows = row_with 0 0 0 (Some 2) (Some 1) false ∷ [] }) 10)
    × (row_numbers (row_with 0 0 0 (Some 2) (Some 1) false) ≡ (0 ∷ 0 ∷ 3 ∷ 1 ∷ 0 ∷ 2 ∷ []))
unfolding number_that listed_row listed_rows listed_machine listed_machines listed_plant row_numbers
takes_and_sends = (refl, refl)

-- Its fourth number: type 2 of 2; any without types; missing.
fourth : (listed_plant (1 ∷ 2 ∷ 1 ∷ 1 ∷ 0 ∷ 0 ∷ 3 ∷ 2 ∷ 0 ∷ 0 ∷ []) ≡ fault 24 7) × (listed_plant (1 ∷ 0 ∷ 1 ∷ 1 ∷ 0 ∷ 0 ∷ 3 ∷ 0 ∷ 0 ∷ 0 ∷ []) ≡ fault 24 7) × (listed_plant (1 ∷ 2 ∷ 1 ∷ 1 ∷ 0 ∷ 0 ∷ 3 ∷ []) ≡ fault 23 7)
unfolding number_that listed_row listed_rows listed_machine listed_machines listed_plant
fourth = (refl, refl, refl)

-- Its sixth: type 2 of 2, missing, and judged behind the fifth.
sixth : (listed_plant (1 ∷ 2 ∷ 1 ∷ 1 ∷ 0 ∷ 0 ∷ 3 ∷ 0 ∷ 0 ∷ 2 ∷ []) ≡ fault 24 9) × (listed_plant (1 ∷ 2 ∷ 1 ∷ 1 ∷ 0 ∷ 0 ∷ 3 ∷ 0 ∷ 0 ∷ []) ≡ fault 23 9) × (listed_plant (1 ∷ 2 ∷ 1 ∷ 1 ∷ 0 ∷ 0 ∷ 3 ∷ 0 ∷ 2 ∷ 2 ∷ []) ≡ fault 24 8)
unfolding number_that listed_row listed_rows listed_machine listed_machines listed_plant
sixth = (refl, refl, refl)

-- "0 for other kinds": 1 is refused for kinds 0, 1 and 2.
sixth_of_others : (listed_plant (1 ∷ 2 ∷ 1 ∷ 1 ∷ 0 ∷ 0 ∷ 0 ∷ 0 ∷ 0 ∷ 1 ∷ []) ≡ fault 24 9) × (listed_plant (1 ∷ 2 ∷ 1 ∷ 1 ∷ 0 ∷ 0 ∷ 1 ∷ 0 ∷ 0 ∷ 1 ∷ []) ≡ fault 24 9) × (listed_plant (1 ∷ 2 ∷ 1 ∷ 1 ∷ 0 ∷ 0 ∷ 2 ∷ 0 ∷ 0 ∷ 1 ∷ []) ≡ fault 24 9)
unfolding number_that listed_row listed_rows listed_machine listed_machines listed_plant
sixth_of_others = (refl, refl, refl)

-- Both types count for a twin: the types the other way round are another row, and the same two are a twin.
both_types : (listed_plant (1 ∷ 2 ∷ 1 ∷ 2 ∷ 0 ∷ 0 ∷ 3 ∷ 0 ∷ 0 ∷ 1 ∷ 0 ∷ 0 ∷ 3 ∷ 1 ∷ 0 ∷ 0 ∷ [])
    ≡ found (record { types = 2; states = 1 ∷ []; rows = row_with 0 0 0 (Some 1) (Some 0) false ∷ row_with 0 0 0 (Some 0) (Some 1) false ∷ [] }) 16)
    × (listed_plant (1 ∷ 2 ∷ 1 ∷ 2 ∷ 0 ∷ 0 ∷ 3 ∷ 0 ∷ 0 ∷ 1 ∷ 0 ∷ 0 ∷ 3 ∷ 0 ∷ 0 ∷ 1 ∷ []) ≡ fault 26 10)
unfolding number_that listed_row listed_rows listed_machine listed_machines listed_plant
both_types = (refl, refl)

-- The longest list has as many numbers for each of its 1,024 rows as a row has.
longest : longest_list ≡ 2 + 2 * 16 + length (row_numbers (row_with 0 0 0 None None false)) * 1024
unfolding row_numbers
longest = refl
