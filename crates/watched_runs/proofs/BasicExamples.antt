-- Watched runs that the checker computes from the definitions alone: plant A with weights 2, 1 and contents 3, 4.
use mathlib.Core.Path.{◌≡◌, refl}
use mathlib.Core.List.{List, [], ◌∷◌}
use Rattle.livelock.specs.Lists.{below, sum, greatest}
use Rattle.livelock.specs.Plants.{has_progress}
use Rattle.livelock.specs.Runs.{Event, row, loss, doubling, can_happen, changed, after, after_all, run, is_quiet_row, is_progress_row, is_doubling}
use Rattle.plant.specs.Reading.{byte_at, byte_that, byte_in, map_byte, state_field, type_field, read_row, read_rows, rows_byte, read_machine, read_machines, read_plant}
use Rattle.plant.proofs.BasicExamples.{panel_and_probe_file}
use Rattle.watched_runs.specs.Answers.{Answer, remaining, refused}
use Rattle.watched_runs.specs.WatchedRuns.{WatchedRun, opened_on, unopened, is_spent, judged_in, stepped, answered}

-- The answers to a list of events, one after the other.
unfoldable pub answers : WatchedRun → List Event → List Answer
answers w [] = []
answers w (e ∷ es) = answered w e ∷ answers (stepped w e) es

unfoldable pub start : WatchedRun
start = opened_on (panel_and_probe_file 0x1B) (2 ∷ 1 ∷ []) (3 ∷ 4 ∷ [])

-- Opened at F + n × W = 10 + 2 × 10. A quiet row takes one away, a loss nothing, a doubling adds n × w = 4 and a progress row G = 9; a row whose machine is in
-- another state gets 27, and so does one that the plant lacks; a type that it lacks gets 28.
rows_and_doublings : answers start (row 0 ∷ row 0 ∷ loss 1 ∷ doubling 0 ∷ row 1 ∷ row 4 ∷ loss 2 ∷ doubling 2 ∷ row 2 ∷ [])
    ≡ remaining 29 ∷ refused 27 0 ∷ remaining 29 ∷ remaining 33 ∷ remaining 42 ∷ refused 27 0 ∷ refused 28 0 ∷ refused 28 0 ∷ remaining 41 ∷ []
unfolding answers start panel_and_probe_file below sum greatest has_progress can_happen changed after after_all run is_quiet_row is_progress_row is_doubling byte_at byte_that byte_in map_byte state_field type_field read_row read_rows rows_byte read_machine read_machines read_plant is_spent judged_in
rows_and_doublings = refl

-- With one message of type 0: once it is lost, it can be lost and doubled no more, and the row that takes it cannot happen.
last_message : answers (opened_on (panel_and_probe_file 0x1B) (2 ∷ 1 ∷ []) (1 ∷ 0 ∷ [])) (loss 0 ∷ loss 0 ∷ doubling 0 ∷ row 2 ∷ loss 1 ∷ [])
    ≡ remaining 14 ∷ refused 28 0 ∷ refused 28 0 ∷ refused 27 0 ∷ refused 28 0 ∷ []
unfolding answers panel_and_probe_file below sum greatest has_progress can_happen changed after after_all run is_quiet_row is_progress_row is_doubling byte_at byte_that byte_in map_byte state_field type_field read_row read_rows rows_byte read_machine read_machines read_plant is_spent judged_in
last_message = refl

-- "After a refused opening that copy is empty: rows get 27, losses and doublings 28."
after_refusal : answers unopened (row 0 ∷ loss 0 ∷ doubling 0 ∷ []) ≡ refused 27 0 ∷ refused 28 0 ∷ refused 28 0 ∷ []
unfolding answers byte_at byte_that byte_in read_plant judged_in
after_refusal = refl
