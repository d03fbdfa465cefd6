-- Listings that the checker computes by the definitions alone, from the bytes of files.
use mathlib.Core.Path.{◌≡◌, refl}
use mathlib.Core.List.{List, [], ◌∷◌}
use Prim.Native.Nat.{ℕ, zero, suc}
use Rattle.livelock.specs.Lists.{below, sum}
use Rattle.plant.specs.Found.{found, fault}
use Rattle.plant.specs.Reading.{byte_at, byte_that, byte_in, map_byte, state_field, type_field, read_row, read_rows, rows_byte, read_machine, read_machines, read_plant}
use Rattle.plant.proofs.BasicExamples.{panel_and_probe_file}
use Rattle.cycle_paths.specs.Listings.{flattened}
use Rattle.cycle_paths.specs.Cycles.{joined, selected, unleft, paths, cycles_through}
use Rattle.listing.specs.Listing.{checked_room, checked_size, checked, judged, filled}

-- ---- plant A of document 01

-- Listing A's machine 1: 2, 2, 3.
probe : judged (panel_and_probe_file 0x1B) 1 3 ≡ found (2 ∷ 2 ∷ 3 ∷ []) 20
unfolding panel_and_probe_file byte_at byte_that byte_in map_byte state_field type_field read_row read_rows rows_byte read_machine read_machines read_plant checked checked_size checked_room below sum selected unleft joined paths cycles_through flattened
probe = refl

-- They are put in front, and the rest is kept.
probe_filled : filled (judged (panel_and_probe_file 0x1B) 1 5) (9 ∷ 8 ∷ 7 ∷ 6 ∷ 5 ∷ []) ≡ 2 ∷ 2 ∷ 3 ∷ 6 ∷ 5 ∷ []
unfolding panel_and_probe_file byte_at byte_that byte_in map_byte state_field type_field read_row read_rows rows_byte read_machine read_machines read_plant checked checked_size checked_room below sum selected unleft joined paths cycles_through flattened
probe_filled = refl

-- A cycle with a progress row is listed too.
panel : judged (panel_and_probe_file 0x1B) 0 3 ≡ found (2 ∷ 0 ∷ 1 ∷ []) 20
unfolding panel_and_probe_file byte_at byte_that byte_in map_byte state_field type_field read_row read_rows rows_byte read_machine read_machines read_plant checked checked_size checked_room below sum selected unleft joined paths cycles_through flattened
panel = refl

-- Number 14: a list of 2 entries is too short,
short_list : judged (panel_and_probe_file 0x1B) 1 2 ≡ fault 14 0
unfolding panel_and_probe_file byte_at byte_that byte_in map_byte state_field type_field read_row read_rows rows_byte read_machine read_machines read_plant checked checked_size checked_room below sum selected unleft joined paths cycles_through flattened
short_list = refl

-- and keeps its contents.
short_kept : filled (judged (panel_and_probe_file 0x1B) 1 2) (9 ∷ 8 ∷ []) ≡ 9 ∷ 8 ∷ []
unfolding panel_and_probe_file byte_at byte_that byte_in map_byte state_field type_field read_row read_rows rows_byte read_machine read_machines read_plant checked checked_size checked_room below sum selected unleft joined paths cycles_through flattened
short_kept = refl

-- Number 12: there is no machine 2.
no_machine : judged (panel_and_probe_file 0x1B) 2 3 ≡ fault 12 0
unfolding panel_and_probe_file byte_at byte_that byte_in map_byte state_field type_field read_row read_rows rows_byte read_machine read_machines read_plant checked checked_size checked_room below sum selected unleft joined paths cycles_through flattened
no_machine = refl

-- A fault of the file comes first.
file_first : judged [] 2 0 ≡ fault 1 0
unfolding byte_at byte_that byte_in map_byte state_field type_field read_row read_rows rows_byte read_machine read_machines read_plant checked checked_size checked_room below sum selected unleft joined paths cycles_through flattened
file_first = refl

-- ---- order

-- Rows from a state to itself are cycles, in the order of their numbers: row 0 at state 1, row 1 at state 0.
loops : judged (0x01 ∷ 0x00 ∷ 0x02 ∷ 0x02 ∷ 0x03 ∷ 0x01 ∷ 0x01 ∷ 0x03 ∷ 0x00 ∷ 0x00 ∷ []) 0 4 ≡ found (1 ∷ 0 ∷ 1 ∷ 1 ∷ []) 10
unfolding byte_at byte_that byte_in map_byte state_field type_field read_row read_rows rows_byte read_machine read_machines read_plant checked checked_size checked_room below sum selected unleft joined paths cycles_through flattened
loops = refl

-- Rows 0 and 1 from state 0 to 1, of which one has progress, and row 2 back make two cycles.
parallel_rows : judged (0x01 ∷ 0x00 ∷ 0x02 ∷ 0x03 ∷ 0x02 ∷ 0x01 ∷ 0x12 ∷ 0x01 ∷ 0x03 ∷ 0x01 ∷ 0x00 ∷ []) 0 6 ≡ found (2 ∷ 0 ∷ 2 ∷ 2 ∷ 1 ∷ 2 ∷ []) 11
unfolding byte_at byte_that byte_in map_byte state_field type_field read_row read_rows rows_byte read_machine read_machines read_plant checked checked_size checked_room below sum selected unleft joined paths cycles_through flattened
parallel_rows = refl

-- Row 0 leaves state 1 and row 1 state 0: the cycle begins with row 1.
lowest_first : judged (0x01 ∷ 0x00 ∷ 0x02 ∷ 0x02 ∷ 0x03 ∷ 0x01 ∷ 0x00 ∷ 0x03 ∷ 0x00 ∷ 0x01 ∷ []) 0 3 ≡ found (2 ∷ 1 ∷ 0 ∷ []) 10
unfolding byte_at byte_that byte_in map_byte state_field type_field read_row read_rows rows_byte read_machine read_machines read_plant checked checked_size checked_room below sum selected unleft joined paths cycles_through flattened
lowest_first = refl

-- A machine without rows has no cycle, and no entry is needed.
no_rows : judged (0x01 ∷ 0x00 ∷ 0x01 ∷ 0x00 ∷ []) 0 0 ≡ found [] 4
unfolding byte_at byte_that byte_in map_byte state_field type_field read_row read_rows rows_byte read_machine read_machines read_plant checked checked_size checked_room below sum selected unleft joined paths cycles_through flattened
no_rows = refl

-- ---- number 13

-- n rows from state 0 to state 1, each of which sends another type.
rows_bytes : ℕ → List ℕ
rows_bytes zero = []
rows_bytes (suc n) = 0x06 ∷ 0x01 ∷ n ∷ rows_bytes n

-- 25 states are too many, whatever the room; that there is no such machine comes first.
states_25 : judged (0x01 ∷ 0x00 ∷ 0x19 ∷ 0x00 ∷ []) 0 0 ≡ fault 13 0
unfolding byte_at byte_that byte_in map_byte state_field type_field read_row read_rows rows_byte read_machine read_machines read_plant checked checked_size checked_room below sum selected unleft joined paths cycles_through flattened
states_25 = refl

-- Machine 1 of that file.
states_25_machine_1 : judged (0x01 ∷ 0x00 ∷ 0x19 ∷ 0x00 ∷ []) 1 0 ≡ fault 12 0
unfolding byte_at byte_that byte_in map_byte state_field type_field read_row read_rows rows_byte read_machine read_machines read_plant checked checked_size checked_room below sum selected unleft joined paths cycles_through flattened
states_25_machine_1 = refl

-- 49 rows are too many.
rows_49 : judged (0x01 ∷ 0x31 ∷ 0x02 ∷ 0x31 ∷ rows_bytes 49) 0 0 ≡ fault 13 0
unfolding rows_bytes byte_at byte_that byte_in map_byte state_field type_field read_row read_rows rows_byte read_machine read_machines read_plant checked checked_size checked_room below sum selected unleft joined paths cycles_through flattened
rows_49 = refl

-- 24 states and 48 rows are not. These lead from state 0 to state 1 only, so there is no cycle.
states_24_rows_48 : judged (0x01 ∷ 0x31 ∷ 0x18 ∷ 0x30 ∷ rows_bytes 48) 0 0 ≡ found [] 148
unfolding rows_bytes byte_at byte_that byte_in map_byte state_field type_field read_row read_rows rows_byte read_machine read_machines read_plant checked checked_size checked_room below sum selected unleft joined paths cycles_through flattened
states_24_rows_48 = refl
