-- The published test's running example, and its answers.
use mathlib.Core.Path.{◌≡◌, refl, sym}
use mathlib.Core.Bool.{true, false}
use Rattle.std.specs.Prelude.{None, Some}
use mathlib.Core.List.{List, [], ◌∷◌, ◌++◌}
use Prim.Native.Nat.{ℕ}
use native.Mathlib.Nat.{le_refl}
use Rattle.livelock.specs.Lists.{below, sum, sumℤ, greatest}
use Rattle.livelock.specs.Plants.{Row, Plant, row_with, has_progress}
use Rattle.livelock.specs.Weights.{Passes}
use Rattle.livelock.specs.CycleSets.{set_effect}
use Rattle.livelock.specs.Tests.{every, is_walk, is_distinct}
use Rattle.livelock.proofs.Tests.{well_formed_iff}
use Rattle.livelock.specs.Graphs.{via}
use Rattle.livelock.proofs.Graphs.{longest}
use Rattle.livelock.proofs.Decision.{state_potential, passing_iff}
use Rattle.livelock.proofs.Exclusion.{exclusion}
use Rattle.plant.specs.Found.{found}
use Rattle.plant.specs.Reading.{byte_at, byte_that, byte_in, map_byte, state_field, type_field, read_row, read_rows, rows_byte, read_machine, read_machines, read_plant}
use Rattle.weight_checks.specs.Checks.{first_above}
use Rattle.cycle_sets.specs.Answers.{confirmed}
use Rattle.set_numbers.specs.Numbers.{number_in, rows_at, entry_begins}
use Rattle.set_entries.specs.Sets.{entry_ends, entry_at, entries_at}
use Rattle.cycle_sets.specs.Confirming.{lowest_negative}
use Rattle.cycle_sets.proofs.ConfirmingLaws.{confirmed_iff}
use Rattle.worked_examples.specs.Files.{clients, two_clients_file, two_clients_in_turn_file}
use Rattle.worked_examples.specs.Table.{SetGives, NoWeightsPass, PublishedExample}
use Rattle.worked_examples.proofs.AnswerLaws.{figures_owed}

-- The rows of the clients, machines 0 and 1. Types 0 to 2 are client 0's request, acknowledgement and release, types 3 to 5 are client 1's.
unfoldable client_rows : List Row
client_rows =
    row_with 0 0 1 (Some 0) None false
    ∷ row_with 0 1 2 None (Some 1) false
    ∷ row_with 0 2 3 None None true
    ∷ row_with 0 3 0 (Some 2) None false
    ∷ row_with 1 0 1 (Some 3) None false
    ∷ row_with 1 1 2 None (Some 4) false
    ∷ row_with 1 2 3 None None false
    ∷ row_with 1 3 0 (Some 5) None false
    ∷ []

-- The plant with a server of so many states and these rows, machine 2.
abbrev served : ℕ → List Row → Plant
served states server = record { types = 6; states = 4 ∷ 4 ∷ states ∷ []; rows = client_rows ++ server }

-- The server that chooses whom to serve.
unfoldable choosing : Plant
choosing =
    served 5
    (row_with 2 0 1 None (Some 0) false
    ∷ row_with 2 1 2 (Some 1) None false
    ∷ row_with 2 2 0 None (Some 2) false
    ∷ row_with 2 0 3 None (Some 3) false
    ∷ row_with 2 3 4 (Some 4) None false
    ∷ row_with 2 4 0 None (Some 5) false
    ∷ [])

-- The server that serves the clients in turn.
unfoldable in_turn : Plant
in_turn =
    served 6
    (row_with 2 0 1 None (Some 0) false
    ∷ row_with 2 1 2 (Some 1) None false
    ∷ row_with 2 2 3 None (Some 2) false
    ∷ row_with 2 3 4 None (Some 3) false
    ∷ row_with 2 4 5 (Some 4) None false
    ∷ row_with 2 5 0 None (Some 5) false
    ∷ [])

reads_choosing : read_plant two_clients_file ≡ found choosing 59
unfolding clients two_clients_file client_rows choosing byte_at byte_that byte_in map_byte state_field type_field read_row read_rows rows_byte read_machine read_machines read_plant
reads_choosing = refl

reads_in_turn : read_plant two_clients_in_turn_file ≡ found in_turn 59
unfolding clients two_clients_in_turn_file client_rows in_turn byte_at byte_that byte_in map_byte state_field type_field read_row read_rows rows_byte read_machine read_machines read_plant
reads_in_turn = refl

in_turn_passes : Passes in_turn (2 ∷ 0 ∷ 0 ∷ 0 ∷ 1 ∷ 0 ∷ [])
unfolding client_rows in_turn below greatest every state_potential longest via has_progress
in_turn_passes = (passing_iff in_turn ((well_formed_iff in_turn).0 refl) (2 ∷ 0 ∷ 0 ∷ 0 ∷ 1 ∷ 0 ∷ [])).0 refl

-- The second client and the server's second choice, once each, are confirmed,
second_client_confirmed : SetGives two_clients_file (1 ∷ 1 ∷ 4 ∷ 4 ∷ 5 ∷ 6 ∷ 7 ∷ 2 ∷ 1 ∷ 3 ∷ 11 ∷ 12 ∷ 13 ∷ []) confirmed
unfolding client_rows choosing below sum sumℤ set_effect every is_walk is_distinct has_progress number_in rows_at entry_ends entry_at entry_begins entries_at lowest_negative
second_client_confirmed = rw reads_choosing

-- so they are a balanced set of the plant that the file reads as, and no weights pass in it.
none_passes : NoWeightsPass two_clients_file
none_passes =
    let set : List ℕ = 1 ∷ 1 ∷ 4 ∷ 4 ∷ 5 ∷ 6 ∷ 7 ∷ 2 ∷ 1 ∷ 3 ∷ 11 ∷ 12 ∷ 13 ∷ [] in
    let b = (confirmed_iff two_clients_file set confirmed (sym second_client_confirmed)).0 refl in
    record { plant = b.plant; end = b.file_end; reads = b.file_reads; none = λ ws long p. exclusion b.plant ws p b.entries b.balanced }

-- The answers of the published test hold of the definitions.
pub published : PublishedExample
unfolding client_rows in_turn below sum greatest first_above
published =
    record {
      second_client = second_client_confirmed;
      none_pass = none_passes;
      corrected =
          λ before after a room owed.
          figures_owed two_clients_in_turn_file (2 ∷ 0 ∷ 0 ∷ 0 ∷ 1 ∷ 0 ∷ []) before after a in_turn 59 reads_in_turn refl (le_refl 6) in_turn_passes room owed;
    }
