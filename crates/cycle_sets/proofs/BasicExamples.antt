-- Answers that the checker computes by the definitions alone, on plant B of document 01 and, for a progress row, on plant A.
use mathlib.Core.Path.{◌≡◌, refl}
use mathlib.Core.List.{List, [], ◌∷◌, ◌++◌}
use Prim.Native.Nat.{ℕ, zero, suc}
use lib.IntN.{negsuc}
use Rattle.livelock.specs.Lists.{below, sum, sumℤ}
use Rattle.livelock.specs.Plants.{Plant, has_progress}
use Rattle.livelock.specs.CycleSets.{set_effect}
use Rattle.livelock.specs.Tests.{every, is_distinct, is_walk}
use Rattle.livelock.proofs.BasicExamples.{panel_and_probe, plant_a, plant_b}
use Rattle.plant.specs.Reading.{byte_at, byte_that, byte_in, map_byte, state_field, type_field, read_row, read_rows, rows_byte, read_machine, read_machines, read_plant}
use Rattle.plant.proofs.BasicExamples.{panel_and_probe_file}
use Rattle.cycle_sets.specs.Answers.{Answer, confirmed, negative, refused}
use Rattle.set_numbers.specs.Numbers.{number_in, rows_at, entry_begins}
use Rattle.set_entries.specs.Sets.{entry_ends, entry_at, entries_at, read_set}
use Rattle.cycle_sets.specs.Confirming.{lowest_negative, set_answer, owed}

-- The answer that is owed for a plant and a list.
abbrev answer : Plant → List ℕ → Answer
answer P set = set_answer P (read_set P set)

-- ---- from the bytes of plant B

-- ★ Both cycles once are confirmed.
both_once : owed (read_plant (panel_and_probe_file 0x0B)) (0 ∷ 1 ∷ 2 ∷ 0 ∷ 1 ∷ 1 ∷ 1 ∷ 2 ∷ 2 ∷ 3 ∷ []) ≡ confirmed
unfolding panel_and_probe below sum sumℤ every is_distinct is_walk has_progress number_in rows_at entry_ends entry_at entry_begins entries_at set_effect lowest_negative panel_and_probe_file byte_at byte_that byte_in map_byte state_field type_field read_row read_rows rows_byte read_machine read_machines read_plant
both_once = refl

-- ★ The panel's cycle alone: type 1, sum −1.
panel_alone : owed (read_plant (panel_and_probe_file 0x0B)) (0 ∷ 1 ∷ 2 ∷ 0 ∷ 1 ∷ []) ≡ negative 1 (negsuc 0)
unfolding panel_and_probe below sum sumℤ every is_distinct is_walk has_progress number_in rows_at entry_ends entry_at entry_begins entries_at set_effect lowest_negative panel_and_probe_file byte_at byte_that byte_in map_byte state_field type_field read_row read_rows rows_byte read_machine read_machines read_plant
panel_alone = refl

-- ---- confirmed or not

-- "Rows may begin anywhere on the cycle."
begun_elsewhere : answer plant_b (0 ∷ 1 ∷ 2 ∷ 1 ∷ 0 ∷ 1 ∷ 1 ∷ 2 ∷ 3 ∷ 2 ∷ []) ≡ confirmed
unfolding panel_and_probe below sum sumℤ every is_distinct is_walk has_progress number_in rows_at entry_ends entry_at entry_begins entries_at set_effect lowest_negative
begun_elsewhere = refl

-- "The same cycle may come in several entries."
in_two_entries : answer plant_b (0 ∷ 2 ∷ 2 ∷ 0 ∷ 1 ∷ 1 ∷ 1 ∷ 2 ∷ 2 ∷ 3 ∷ 1 ∷ 1 ∷ 2 ∷ 2 ∷ 3 ∷ []) ≡ confirmed
unfolding panel_and_probe below sum sumℤ every is_distinct is_walk has_progress number_in rows_at entry_ends entry_at entry_begins entries_at set_effect lowest_negative
in_two_entries = refl

-- 1,000,000 repeats are good, and repeats count.
million_repeats : answer plant_b (0 ∷ 1000000 ∷ 2 ∷ 0 ∷ 1 ∷ 1 ∷ 1000000 ∷ 2 ∷ 2 ∷ 3 ∷ []) ≡ confirmed
unfolding panel_and_probe below sum sumℤ every is_distinct is_walk has_progress number_in rows_at entry_ends entry_at entry_begins entries_at set_effect lowest_negative
million_repeats = refl

probe_too_seldom : answer plant_b (0 ∷ 1000000 ∷ 2 ∷ 0 ∷ 1 ∷ 1 ∷ 999998 ∷ 2 ∷ 2 ∷ 3 ∷ []) ≡ negative 1 (negsuc 1)
unfolding panel_and_probe below sum sumℤ every is_distinct is_walk has_progress number_in rows_at entry_ends entry_at entry_begins entries_at set_effect lowest_negative
probe_too_seldom = refl

-- The probe's cycle alone takes type 0.
probe_alone : answer plant_b (1 ∷ 3 ∷ 2 ∷ 2 ∷ 3 ∷ []) ≡ negative 0 (negsuc 2)
unfolding panel_and_probe below sum sumℤ every is_distinct is_walk has_progress number_in rows_at entry_ends entry_at entry_begins entries_at set_effect lowest_negative
probe_alone = refl

-- ---- faults

-- Number 18: the list is empty.
empty_list : answer plant_b ([]) ≡ refused 18 0
unfolding panel_and_probe below sum sumℤ every is_distinct is_walk has_progress number_in rows_at entry_ends entry_at entry_begins entries_at set_effect lowest_negative
empty_list = refl

-- Number 15: the list ends within an entry, before each of its numbers.
no_repeats : answer plant_b (0 ∷ []) ≡ refused 15 1
unfolding panel_and_probe below sum sumℤ every is_distinct is_walk has_progress number_in rows_at entry_ends entry_at entry_begins entries_at set_effect lowest_negative
no_repeats = refl

no_count : answer plant_b (0 ∷ 1 ∷ []) ≡ refused 15 2
unfolding panel_and_probe below sum sumℤ every is_distinct is_walk has_progress number_in rows_at entry_ends entry_at entry_begins entries_at set_effect lowest_negative
no_count = refl

no_rows : answer plant_b (0 ∷ 1 ∷ 2 ∷ []) ≡ refused 15 3
unfolding panel_and_probe below sum sumℤ every is_distinct is_walk has_progress number_in rows_at entry_ends entry_at entry_begins entries_at set_effect lowest_negative
no_rows = refl

row_missing : answer plant_b (0 ∷ 1 ∷ 2 ∷ 0 ∷ []) ≡ refused 15 4
unfolding panel_and_probe below sum sumℤ every is_distinct is_walk has_progress number_in rows_at entry_ends entry_at entry_begins entries_at set_effect lowest_negative
row_missing = refl

second_entry_ends : answer plant_b (0 ∷ 1 ∷ 2 ∷ 0 ∷ 1 ∷ 1 ∷ []) ≡ refused 15 6
unfolding panel_and_probe below sum sumℤ every is_distinct is_walk has_progress number_in rows_at entry_ends entry_at entry_begins entries_at set_effect lowest_negative
second_entry_ends = refl

-- Number 16: the plant has no machine 2.
machine_2 : answer plant_b (2 ∷ 1 ∷ 2 ∷ 0 ∷ 1 ∷ []) ≡ refused 16 0
unfolding panel_and_probe below sum sumℤ every is_distinct is_walk has_progress number_in rows_at entry_ends entry_at entry_begins entries_at set_effect lowest_negative
machine_2 = refl

-- Repeats are 1 to 1,000,000; each number is judged as it is read, so the list may end behind it.
repeats_0 : answer plant_b (0 ∷ 0 ∷ []) ≡ refused 16 1
unfolding panel_and_probe below sum sumℤ every is_distinct is_walk has_progress number_in rows_at entry_ends entry_at entry_begins entries_at set_effect lowest_negative
repeats_0 = refl

repeats_1000001 : answer plant_b (0 ∷ 1000001 ∷ 2 ∷ 0 ∷ 1 ∷ []) ≡ refused 16 1
unfolding panel_and_probe below sum sumℤ every is_distinct is_walk has_progress number_in rows_at entry_ends entry_at entry_begins entries_at set_effect lowest_negative
repeats_1000001 = refl

-- Row counts are 1 to 64.
count_0 : answer plant_b (0 ∷ 1 ∷ 0 ∷ []) ≡ refused 16 2
unfolding panel_and_probe below sum sumℤ every is_distinct is_walk has_progress number_in rows_at entry_ends entry_at entry_begins entries_at set_effect lowest_negative
count_0 = refl

count_64 : answer plant_b (0 ∷ 1 ∷ 64 ∷ []) ≡ refused 15 3
unfolding panel_and_probe below sum sumℤ every is_distinct is_walk has_progress number_in rows_at entry_ends entry_at entry_begins entries_at set_effect lowest_negative
count_64 = refl

count_65 : answer plant_b (0 ∷ 1 ∷ 65 ∷ 0 ∷ 1 ∷ []) ≡ refused 16 2
unfolding panel_and_probe below sum sumℤ every is_distinct is_walk has_progress number_in rows_at entry_ends entry_at entry_begins entries_at set_effect lowest_negative
count_65 = refl

-- The plant has rows 0 to 3.
row_4 : answer plant_b (0 ∷ 1 ∷ 2 ∷ 4 ∷ 1 ∷ []) ≡ refused 16 3
unfolding panel_and_probe below sum sumℤ every is_distinct is_walk has_progress number_in rows_at entry_ends entry_at entry_begins entries_at set_effect lowest_negative
row_4 = refl

second_row_4 : answer plant_b (0 ∷ 1 ∷ 2 ∷ 0 ∷ 4 ∷ []) ≡ refused 16 4
unfolding panel_and_probe below sum sumℤ every is_distinct is_walk has_progress number_in rows_at entry_ends entry_at entry_begins entries_at set_effect lowest_negative
second_row_4 = refl

-- A row number that the plant lacks is 16 even where the rows before it are of another machine.
row_4_behind_another : answer plant_b (0 ∷ 1 ∷ 2 ∷ 2 ∷ 4 ∷ []) ≡ refused 16 4
unfolding panel_and_probe below sum sumℤ every is_distinct is_walk has_progress number_in rows_at entry_ends entry_at entry_begins entries_at set_effect lowest_negative
row_4_behind_another = refl

-- Number 17, at the first index of the entry: a row of another machine,
another_machine : answer plant_b (0 ∷ 1 ∷ 2 ∷ 0 ∷ 2 ∷ []) ≡ refused 17 0
unfolding panel_and_probe below sum sumℤ every is_distinct is_walk has_progress number_in rows_at entry_ends entry_at entry_begins entries_at set_effect lowest_negative
another_machine = refl

-- in the second entry,
in_second_entry : answer plant_b (0 ∷ 1 ∷ 2 ∷ 0 ∷ 1 ∷ 1 ∷ 1 ∷ 2 ∷ 2 ∷ 1 ∷ []) ≡ refused 17 5
unfolding panel_and_probe below sum sumℤ every is_distinct is_walk has_progress number_in rows_at entry_ends entry_at entry_begins entries_at set_effect lowest_negative
in_second_entry = refl

-- a row with progress, such as the panel's row 1 in plant A,
progress_row : answer plant_a (0 ∷ 1 ∷ 2 ∷ 0 ∷ 1 ∷ []) ≡ refused 17 0
unfolding panel_and_probe below sum sumℤ every is_distinct is_walk has_progress number_in rows_at entry_ends entry_at entry_begins entries_at set_effect lowest_negative
progress_row = refl

-- rows that do not come back,
not_closed : answer plant_b (0 ∷ 1 ∷ 1 ∷ 0 ∷ []) ≡ refused 17 0
unfolding panel_and_probe below sum sumℤ every is_distinct is_walk has_progress number_in rows_at entry_ends entry_at entry_begins entries_at set_effect lowest_negative
not_closed = refl

-- a row that does not leave the state that the row before it enters,
broken_chain : answer plant_b (0 ∷ 1 ∷ 2 ∷ 0 ∷ 0 ∷ []) ≡ refused 17 0
unfolding panel_and_probe below sum sumℤ every is_distinct is_walk has_progress number_in rows_at entry_ends entry_at entry_begins entries_at set_effect lowest_negative
broken_chain = refl

-- and a state left twice.
state_left_twice : answer plant_b (0 ∷ 1 ∷ 4 ∷ 0 ∷ 1 ∷ 0 ∷ 1 ∷ []) ≡ refused 17 0
unfolding panel_and_probe below sum sumℤ every is_distinct is_walk has_progress number_in rows_at entry_ends entry_at entry_begins entries_at set_effect lowest_negative
state_left_twice = refl

-- The probe's cycle is quiet in plant A too, but alone it takes type 0.
probe_in_A : answer plant_a (1 ∷ 1 ∷ 2 ∷ 2 ∷ 3 ∷ []) ≡ negative 0 (negsuc 0)
unfolding panel_and_probe below sum sumℤ every is_distinct is_walk has_progress number_in rows_at entry_ends entry_at entry_begins entries_at set_effect lowest_negative
probe_in_A = refl

-- ---- as many entries as may come

-- The panel's cycle, so many times.
unfoldable panels : ℕ → List ℕ
panels zero = []
panels (suc n) = 0 ∷ 1 ∷ 2 ∷ 0 ∷ 1 ∷ panels n

-- The answer where n entries may come: `read_set` lets 256 come.
abbrev answer_to : ℕ → List ℕ → Answer
answer_to n set = set_answer plant_b (entries_at n plant_b set 0 [])

-- As many entries as may come are a set,
entries_4 : answer_to 4 (panels 4) ≡ negative 1 (negsuc 3)
unfolding panel_and_probe below sum sumℤ every is_distinct is_walk has_progress number_in rows_at entry_ends entry_at entry_begins entries_at set_effect lowest_negative panels
entries_4 = refl

-- and one more is number 18 where it begins, whatever stands there.
entry_5 : answer_to 4 (panels 4 ++ (9 ∷ [])) ≡ refused 18 20
unfolding panel_and_probe below sum sumℤ every is_distinct is_walk has_progress number_in rows_at entry_ends entry_at entry_begins entries_at set_effect lowest_negative panels
entry_5 = refl
