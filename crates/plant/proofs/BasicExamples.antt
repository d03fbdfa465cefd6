-- Files that the checker reads by the definitions alone, so that an edit of a definition is caught here first.
use mathlib.Core.Path.{◌≡◌, refl}
use mathlib.Core.Bool.{true, false}
use Rattle.std.specs.Prelude.{None, Some}
use mathlib.Core.List.{List, [], ◌∷◌}
use Prim.Native.Nat.{ℕ, ◌+◌}
use lib.ListN.{length, replicate}
use Rattle.livelock.specs.Plants.{Plant, row_with}
use Rattle.livelock.proofs.BasicExamples.{panel_and_probe, plant_a, plant_b}
use Rattle.plant.specs.Found.{found, fault}
use Rattle.plant.specs.Limits.{most_row_bytes}
use Rattle.plant.specs.Reading.{byte_at, byte_that, byte_in, map_byte, state_field, type_field, read_row, read_rows, rows_byte, read_machine, read_machines, read_plant}

-- ---- plants A and B of document 01

-- The 20 bytes of plant A; plant B has 0B for 1B.
unfoldable pub panel_and_probe_file : ℕ → List ℕ
panel_and_probe_file map =
    0x02 ∷ 0x02
    ∷ 0x02 ∷ 0x02
    ∷ 0x06 ∷ 0x01 ∷ 0x00
    ∷ map ∷ 0x01 ∷ 0x00 ∷ 0x01
    ∷ 0x02 ∷ 0x02
    ∷ 0x0A ∷ 0x01 ∷ 0x00
    ∷ 0x07 ∷ 0x01 ∷ 0x00 ∷ 0x01
    ∷ []

reads_A : read_plant (panel_and_probe_file 0x1B) ≡ found plant_a 20
unfolding panel_and_probe_file panel_and_probe byte_at byte_that byte_in map_byte state_field type_field read_row read_rows rows_byte read_machine read_machines read_plant
reads_A = refl

reads_B : read_plant (panel_and_probe_file 0x0B) ≡ found plant_b 20
unfolding panel_and_probe_file panel_and_probe byte_at byte_that byte_in map_byte state_field type_field read_row read_rows rows_byte read_machine read_machines read_plant
reads_B = refl

-- ---- faults, one by one

-- Number 1: the file ends before byte 0, before byte 1, before a machine, before a map byte and before a field.
empty_file : read_plant ([]) ≡ fault 1 0
unfolding byte_at byte_that byte_in map_byte state_field type_field read_row read_rows rows_byte read_machine read_machines read_plant
empty_file = refl

-- At the length of the file.
one_byte : read_plant (0x01 ∷ []) ≡ fault 1 1
unfolding byte_at byte_that byte_in map_byte state_field type_field read_row read_rows rows_byte read_machine read_machines read_plant
one_byte = refl

-- The file has 2 of the bytes that it needs.
no_machine_bytes : read_plant (0x10 ∷ 0x00 ∷ []) ≡ fault 1 2
unfolding byte_at byte_that byte_in map_byte state_field type_field read_row read_rows rows_byte read_machine read_machines read_plant
no_machine_bytes = refl

-- It ends where a row begins,
no_map_byte : read_plant (0x01 ∷ 0x00 ∷ 0x01 ∷ 0x01 ∷ []) ≡ fault 1 4
unfolding byte_at byte_that byte_in map_byte state_field type_field read_row read_rows rows_byte read_machine read_machines read_plant
no_map_byte = refl

-- and where a field begins.
no_field_byte : read_plant (0x01 ∷ 0x01 ∷ 0x01 ∷ 0x01 ∷ 0x04 ∷ []) ≡ fault 1 5
unfolding byte_at byte_that byte_in map_byte state_field type_field read_row read_rows rows_byte read_machine read_machines read_plant
no_field_byte = refl

-- Number 2: no machines; 17 of them; 65 types. The value of byte 0 is judged before byte 1 is missed.
no_machines_lem : read_plant (0x00 ∷ []) ≡ fault 2 0
unfolding byte_at byte_that byte_in map_byte state_field type_field read_row read_rows rows_byte read_machine read_machines read_plant
no_machines_lem = refl

-- 17 machines.
many_machines : read_plant (0x11 ∷ 0x00 ∷ []) ≡ fault 2 0
unfolding byte_at byte_that byte_in map_byte state_field type_field read_row read_rows rows_byte read_machine read_machines read_plant
many_machines = refl

-- 65 types.
many_types : read_plant (0x01 ∷ 0x41 ∷ []) ≡ fault 2 1
unfolding byte_at byte_that byte_in map_byte state_field type_field read_row read_rows rows_byte read_machine read_machines read_plant
many_types = refl

-- Number 3: no states, and 65 of them.
no_states : read_plant (0x01 ∷ 0x00 ∷ 0x00 ∷ 0x00 ∷ []) ≡ fault 3 2
unfolding byte_at byte_that byte_in map_byte state_field type_field read_row read_rows rows_byte read_machine read_machines read_plant
no_states = refl

-- 65 states.
many_states : read_plant (0x01 ∷ 0x00 ∷ 0x41 ∷ 0x00 ∷ []) ≡ fault 3 2
unfolding byte_at byte_that byte_in map_byte state_field type_field read_row read_rows rows_byte read_machine read_machines read_plant
many_states = refl

-- Number 4: bit 5, before the fields, which are faulty too.
high_bit : read_plant (0x01 ∷ 0x00 ∷ 0x01 ∷ 0x01 ∷ 0x21 ∷ 0x09 ∷ []) ≡ fault 4 4
unfolding byte_at byte_that byte_in map_byte state_field type_field read_row read_rows rows_byte read_machine read_machines read_plant
high_bit = refl

-- Number 5: state 2 of 2, before the missing byte behind it.
bad_state : read_plant (0x01 ∷ 0x01 ∷ 0x02 ∷ 0x01 ∷ 0x07 ∷ 0x02 ∷ []) ≡ fault 5 5
unfolding byte_at byte_that byte_in map_byte state_field type_field read_row read_rows rows_byte read_machine read_machines read_plant
bad_state = refl

-- The state entered is judged so as well.
bad_entered : read_plant (0x01 ∷ 0x01 ∷ 0x02 ∷ 0x01 ∷ 0x03 ∷ 0x01 ∷ 0x02 ∷ []) ≡ fault 5 6
unfolding byte_at byte_that byte_in map_byte state_field type_field read_row read_rows rows_byte read_machine read_machines read_plant
bad_entered = refl

-- Number 6: with no types every type field is faulty,
bad_type : read_plant (0x01 ∷ 0x00 ∷ 0x01 ∷ 0x01 ∷ 0x04 ∷ 0x00 ∷ []) ≡ fault 6 5
unfolding byte_at byte_that byte_in map_byte state_field type_field read_row read_rows rows_byte read_machine read_machines read_plant
bad_type = refl

-- and type 1 of 1.
bad_taken : read_plant (0x01 ∷ 0x01 ∷ 0x01 ∷ 0x01 ∷ 0x08 ∷ 0x01 ∷ []) ≡ fault 6 5
unfolding byte_at byte_that byte_in map_byte state_field type_field read_row read_rows rows_byte read_machine read_machines read_plant
bad_taken = refl

-- Number 8: a byte behind the last row.
bytes_remain : read_plant (0x01 ∷ 0x00 ∷ 0x01 ∷ 0x00 ∷ 0x00 ∷ []) ≡ fault 8 4
unfolding byte_at byte_that byte_in map_byte state_field type_field read_row read_rows rows_byte read_machine read_machines read_plant
bytes_remain = refl

-- Number 7, after 1,020 rows of machine 0: machine 1 has 2, and machine 2 announces 3.
rows_1020 : Plant
rows_1020 = record { types = 0; states = 1 ∷ []; rows = replicate 1020 (row_with 0 0 0 None None false) }

total_of_rows : read_machines 2 (0x01 ∷ 0x02 ∷ 0x00 ∷ 0x10 ∷ 0x01 ∷ 0x03 ∷ []) 0 rows_1020 ≡ fault 7 5
unfolding rows_1020 byte_at byte_that byte_in map_byte state_field type_field read_row read_rows rows_byte read_machine read_machines
total_of_rows = refl

-- After 1,020 rows a machine may have 4 and not 5,
rows_left : (rows_byte 1020 (0x04 ∷ []) 0 ≡ found 4 1) × (rows_byte 1020 (0x05 ∷ []) 0 ≡ fault 7 0)
unfolding byte_at byte_that rows_byte
rows_left = (refl, refl)

-- and 255 while there is room for them.
most_rows : (rows_byte 769 (0xFF ∷ []) 0 ≡ found 255 1) × (rows_byte 770 (0xFF ∷ []) 0 ≡ fault 7 0)
unfolding byte_at byte_that rows_byte
most_rows = (refl, refl)

-- ---- twin rows (document 02, L4)

-- Number 26, at the map byte of the second row: the row before it, and one further back.
twin_rows : (read_plant (0x01 ∷ 0x00 ∷ 0x01 ∷ 0x02 ∷ 0x10 ∷ 0x10 ∷ []) ≡ fault 26 5) × (read_plant (0x01 ∷ 0x00 ∷ 0x01 ∷ 0x03 ∷ 0x10 ∷ 0x00 ∷ 0x10 ∷ []) ≡ fault 26 6)
unfolding byte_at byte_that byte_in map_byte state_field type_field read_row read_rows rows_byte read_machine read_machines read_plant
twin_rows = (refl, refl)

-- However its fields were left out: state 0 written, and state 1 implied.
twins_left_out : (read_plant (0x01 ∷ 0x00 ∷ 0x01 ∷ 0x02 ∷ 0x10 ∷ 0x13 ∷ 0x00 ∷ 0x00 ∷ []) ≡ fault 26 5)
    × (read_plant (0x01 ∷ 0x00 ∷ 0x02 ∷ 0x02 ∷ 0x03 ∷ 0x01 ∷ 0x00 ∷ 0x02 ∷ 0x00 ∷ []) ≡ fault 26 7)
unfolding byte_at byte_that byte_in map_byte state_field type_field read_row read_rows rows_byte read_machine read_machines read_plant
twins_left_out = (refl, refl)

-- The row's own fields come first: a missing type, and type 1 of 1.
fields_first : (read_plant (0x01 ∷ 0x01 ∷ 0x01 ∷ 0x02 ∷ 0x04 ∷ 0x00 ∷ 0x04 ∷ []) ≡ fault 1 7) × (read_plant (0x01 ∷ 0x01 ∷ 0x01 ∷ 0x02 ∷ 0x04 ∷ 0x00 ∷ 0x04 ∷ 0x01 ∷ []) ≡ fault 6 7)
unfolding byte_at byte_that byte_in map_byte state_field type_field read_row read_rows rows_byte read_machine read_machines read_plant
fields_first = (refl, refl)

-- Whatever follows comes later: a missing byte, a wrong map byte, and a byte that remains.
twin_before_next : (read_plant (0x01 ∷ 0x00 ∷ 0x01 ∷ 0x03 ∷ 0x10 ∷ 0x10 ∷ []) ≡ fault 26 5)
    × (read_plant (0x01 ∷ 0x00 ∷ 0x01 ∷ 0x03 ∷ 0x10 ∷ 0x10 ∷ 0xFF ∷ []) ≡ fault 26 5)
    × (read_plant (0x01 ∷ 0x00 ∷ 0x01 ∷ 0x02 ∷ 0x10 ∷ 0x10 ∷ 0x00 ∷ []) ≡ fault 26 5)
unfolding byte_at byte_that byte_in map_byte state_field type_field read_row read_rows rows_byte read_machine read_machines read_plant
twin_before_next = (refl, refl, refl)

-- The same row in another machine is no twin.
same_in_both : read_plant (0x02 ∷ 0x00 ∷ 0x01 ∷ 0x01 ∷ 0x10 ∷ 0x01 ∷ 0x01 ∷ 0x10 ∷ [])
    ≡ found (record { types = 0; states = 1 ∷ 1 ∷ []; rows = row_with 0 0 0 None None true ∷ row_with 1 0 0 None None true ∷ [] }) 8
unfolding byte_at byte_that byte_in map_byte state_field type_field read_row read_rows rows_byte read_machine read_machines read_plant
same_in_both = refl

-- Nor is a row that differs in one field: the first leaves state 0, enters state 1 and sends type 0, and each of the others differs from it in
-- the state left, the state entered, the type sent, that it takes the type, that it has none, and progress.
one_field_differs : read_plant (0x01 ∷ 0x02 ∷ 0x02 ∷ 0x07 ∷ 0x06 ∷ 0x01 ∷ 0x00 ∷ 0x05 ∷ 0x01 ∷ 0x00 ∷ 0x05 ∷ 0x00 ∷ 0x00 ∷ 0x06 ∷ 0x01 ∷ 0x01 ∷ 0x0A ∷ 0x01 ∷ 0x00 ∷ 0x02 ∷ 0x01 ∷ 0x16 ∷ 0x01 ∷ 0x00 ∷ [])
    ≡ found
    (record {
      types = 2;
      states = 2 ∷ [];
      rows =
          row_with 0 0 1 (Some 0) None false
          ∷ row_with 0 1 1 (Some 0) None false
          ∷ row_with 0 0 0 (Some 0) None false
          ∷ row_with 0 0 1 (Some 1) None false
          ∷ row_with 0 0 1 None (Some 0) false
          ∷ row_with 0 0 1 None None false
          ∷ row_with 0 0 1 (Some 0) None true
          ∷ [];
    })
    24
unfolding byte_at byte_that byte_in map_byte state_field type_field read_row read_rows rows_byte read_machine read_machines read_plant
one_field_differs = refl

-- ---- rows that take and send (document 02, L5)

-- Bits 2 and 3 together: the type sent stands first. All fields: five bytes.
takes_and_sends : (read_plant (0x01 ∷ 0x02 ∷ 0x01 ∷ 0x01 ∷ 0x0C ∷ 0x01 ∷ 0x00 ∷ []) ≡ found (record { types = 2; states = 1 ∷ []; rows = row_with 0 0 0 (Some 1) (Some 0) false ∷ [] }) 7)
    × (read_plant (0x01 ∷ 0x03 ∷ 0x02 ∷ 0x01 ∷ 0x1F ∷ 0x01 ∷ 0x00 ∷ 0x02 ∷ 0x01 ∷ []) ≡ found (record { types = 3; states = 2 ∷ []; rows = row_with 0 1 0 (Some 2) (Some 1) true ∷ [] }) 9)
unfolding byte_at byte_that byte_in map_byte state_field type_field read_row read_rows rows_byte read_machine read_machines read_plant
takes_and_sends = (refl, refl)

-- No row has more bytes: these are two counts, two bytes of the machine and the row.
row_of_most_bytes : length {A = ℕ} (0x01 ∷ 0x03 ∷ 0x02 ∷ 0x01 ∷ 0x1F ∷ 0x01 ∷ 0x00 ∷ 0x02 ∷ 0x01 ∷ []) ≡ 2 + 2 + most_row_bytes
row_of_most_bytes = refl

-- The type sent is judged first, before the type taken is missed; then the type taken is missed, and judged.
sent_first : (read_plant (0x01 ∷ 0x01 ∷ 0x01 ∷ 0x01 ∷ 0x0C ∷ 0x01 ∷ 0x01 ∷ []) ≡ fault 6 5) × (read_plant (0x01 ∷ 0x01 ∷ 0x01 ∷ 0x01 ∷ 0x0C ∷ 0x01 ∷ []) ≡ fault 6 5)
    × (read_plant (0x01 ∷ 0x01 ∷ 0x01 ∷ 0x01 ∷ 0x0C ∷ 0x00 ∷ []) ≡ fault 1 6) × (read_plant (0x01 ∷ 0x01 ∷ 0x01 ∷ 0x01 ∷ 0x0C ∷ 0x00 ∷ 0x01 ∷ []) ≡ fault 6 6)
unfolding byte_at byte_that byte_in map_byte state_field type_field read_row read_rows rows_byte read_machine read_machines read_plant
sent_first = (refl, refl, refl, refl)

-- Both types count for a twin: the types the other way round, one of them alone, and one type twice or none are other rows.
both_types_differ : read_plant (0x01 ∷ 0x02 ∷ 0x01 ∷ 0x06 ∷ 0x0C ∷ 0x00 ∷ 0x01 ∷ 0x0C ∷ 0x01 ∷ 0x00 ∷ 0x04 ∷ 0x00 ∷ 0x08 ∷ 0x01 ∷ 0x0C ∷ 0x00 ∷ 0x00 ∷ 0x00 ∷ [])
    ≡ found
    (record {
      types = 2;
      states = 1 ∷ [];
      rows =
          row_with 0 0 0 (Some 0) (Some 1) false
          ∷ row_with 0 0 0 (Some 1) (Some 0) false
          ∷ row_with 0 0 0 (Some 0) None false
          ∷ row_with 0 0 0 None (Some 1) false
          ∷ row_with 0 0 0 (Some 0) (Some 0) false
          ∷ row_with 0 0 0 None None false
          ∷ [];
    })
    18
unfolding byte_at byte_that byte_in map_byte state_field type_field read_row read_rows rows_byte read_machine read_machines read_plant
both_types_differ = refl

-- The same two types are a twin.
both_types_same : read_plant (0x01 ∷ 0x02 ∷ 0x01 ∷ 0x02 ∷ 0x0C ∷ 0x00 ∷ 0x01 ∷ 0x0C ∷ 0x00 ∷ 0x01 ∷ []) ≡ fault 26 7
unfolding byte_at byte_that byte_in map_byte state_field type_field read_row read_rows rows_byte read_machine read_machines read_plant
both_types_same = refl

-- ---- limits and implied states

-- 64 types and 64 states are accepted.
most_types_and_states : read_plant (0x01 ∷ 0x40 ∷ 0x40 ∷ 0x00 ∷ []) ≡ found (record { types = 64; states = 64 ∷ []; rows = [] }) 4
unfolding byte_at byte_that byte_in map_byte state_field type_field read_row read_rows rows_byte read_machine read_machines read_plant
most_types_and_states = refl

-- So are 16 machines.
most_machines : read_plant (0x10 ∷ 0x00 ∷ 0x01 ∷ 0x00 ∷ 0x01 ∷ 0x00 ∷ 0x01 ∷ 0x00 ∷ 0x01 ∷ 0x00 ∷ 0x01 ∷ 0x00 ∷ 0x01 ∷ 0x00 ∷ 0x01 ∷ 0x00 ∷ 0x01 ∷ 0x00 ∷ 0x01 ∷ 0x00 ∷ 0x01 ∷ 0x00 ∷ 0x01 ∷ 0x00 ∷ 0x01 ∷ 0x00 ∷ 0x01 ∷ 0x00 ∷ 0x01 ∷ 0x00 ∷ 0x01 ∷ 0x00 ∷ 0x01 ∷ 0x00 ∷ []) ≡ found (record { types = 0; states = 1 ∷ 1 ∷ 1 ∷ 1 ∷ 1 ∷ 1 ∷ 1 ∷ 1 ∷ 1 ∷ 1 ∷ 1 ∷ 1 ∷ 1 ∷ 1 ∷ 1 ∷ 1 ∷ []; rows = [] }) 34
unfolding byte_at byte_that byte_in map_byte state_field type_field read_row read_rows rows_byte read_machine read_machines read_plant
most_machines = refl

-- One state and the row 00: it leaves and enters state 0.
one_row_lem : read_plant (0x01 ∷ 0x00 ∷ 0x01 ∷ 0x01 ∷ 0x00 ∷ []) ≡ found (record { types = 0; states = 1 ∷ []; rows = row_with 0 0 0 None None false ∷ [] }) 5
unfolding byte_at byte_that byte_in map_byte state_field type_field read_row read_rows rows_byte read_machine read_machines read_plant
one_row_lem = refl

-- Without bit 0 a row leaves the state that the previous row of its machine leaves, and 0 at the first row;
-- without bit 1 it enters the state that it leaves.
implied_states : read_plant (0x02 ∷ 0x00 ∷ 0x03 ∷ 0x03 ∷ 0x03 ∷ 0x01 ∷ 0x02 ∷ 0x02 ∷ 0x00 ∷ 0x11 ∷ 0x02 ∷ 0x03 ∷ 0x01 ∷ 0x02 ∷ 0x02 ∷ [])
    ≡ found
    (record {
      types = 0;
      states = 3 ∷ 3 ∷ [];
      rows =
          row_with 0 1 2 None None false
          ∷ row_with 0 1 0 None None false
          ∷ row_with 0 2 2 None None true
          ∷ row_with 1 0 2 None None false
          ∷ [];
    })
    15
unfolding byte_at byte_that byte_in map_byte state_field type_field read_row read_rows rows_byte read_machine read_machines read_plant
implied_states = refl
