-- Watching a run (document 02, L7): what a watcher stands for, and what one event makes of it. Nothing is counted here: the counts, the states and
-- contents, and the ceiling are the theory's own words of the events that were accepted.
use Rattle.std.specs.Prelude.{Bool, ◌&&◌, ◌||◌, cond, List, [], ◌∷◌, ◌++◌, ℕ, ◌-◌, leb}
use Rattle.livelock.specs.Plants.{Plant}
use Rattle.livelock.specs.Runs.{Configuration, Event, row, loss, doubling, can_happen, after_all, is_progress_row, is_doubling, quiet_rows, progress_rows, doublings}
use Rattle.livelock.specs.Figures.{figures_of, contents_weight, ceiling_of}
use Rattle.plant.specs.Found.{Found, found, fault}
use Rattle.plant.specs.Reading.{read_plant}
use Rattle.contents.specs.Contents.{content}
use Rattle.watched_runs.specs.Answers.{Answer, remaining, refused}

-- "It keeps a copy of the file": a watcher stands for this file, the weights, the states and contents with which it opened, and the events that were
-- accepted since.
pub record WatchedRun : Type 0 where
  pub file : List ℕ
  pub weights : List ℕ
  pub opening : Configuration
  pub accepted : List Event

-- "all machines in state 0", with the contents given.
abbrev pub stopped : List ℕ → Configuration
stopped contents = record { state = λ m. 0; content = content contents }

-- "A watcher opens on a plant file, weights and contents".
abbrev pub opened_on : (file weights contents : List ℕ) → WatchedRun
opened_on file weights contents = record { file = file; weights = weights; opening = stopped contents; accepted = [] }

-- "After a refused opening that copy is empty".
abbrev pub unopened : WatchedRun
unopened = opened_on [] [] []

-- The states and contents that the accepted events left.
abbrev pub reached : Plant → WatchedRun → Configuration
reached P w = after_all P w.opening w.accepted

-- "the quiet rows so far"
abbrev pub quiet_so_far : Plant → WatchedRun → ℕ
quiet_so_far P w = quiet_rows P w.opening w.accepted

-- "the progress rows … so far"
abbrev pub progress_so_far : Plant → WatchedRun → ℕ
progress_so_far P w = progress_rows P w.opening w.accepted

-- "[the] doublings so far"
abbrev pub doublings_so_far : Plant → WatchedRun → ℕ
doublings_so_far P w = doublings P w.opening w.accepted

-- "the ceiling" for so many progress rows and doublings, with the contents of the opening.
abbrev pub ceiling_from : Plant → List ℕ → Configuration → ℕ → ℕ → ℕ
ceiling_from P ws c g d = ceiling_of (figures_of P ws) (contents_weight P ws c.content) g d

-- "the ceiling for the progress rows and doublings so far"
abbrev pub ceiling_so_far : Plant → WatchedRun → ℕ
ceiling_so_far P w = ceiling_from P w.weights w.opening (progress_so_far P w) (doublings_so_far P w)

-- The run with one accepted event more.
abbrev pub with_event : WatchedRun → Event → WatchedRun
with_event w e = record { file = w.file; weights = w.weights; opening = w.opening; accepted = w.accepted ++ (e ∷ []) }

-- "27 a row that does not exist or cannot happen", "28 a loss or doubling of a type that is unknown or not present".
abbrev pub impossible : Event → ℕ
impossible (row k) = 27
impossible (loss t) = 28
impossible (doubling t) = 28

-- "a … progress row or doubling after 1,000,000 of its own sort"
unfoldable pub is_spent : Plant → WatchedRun → Event → Bool
is_spent P w e = (is_progress_row P e && leb 1000000 (progress_so_far P w)) || (is_doubling e && leb 1000000 (doublings_so_far P w))

-- "It refuses with 27 …, with 28 …, and with 29 a possible progress row or doubling": the plant in which the event is accepted, or the fault, at 0. The
-- empty copy reads as no plant, so that nothing can happen in it: "rows get 27, losses and doublings 28".
unfoldable pub judged_in : WatchedRun → Event → Found Plant → Found Plant
judged_in w e (fault number place) = fault (impossible e) 0
judged_in w e (found P end) = cond (can_happen P (reached P w) e) (cond (is_spent P w e) (fault 29 0) (found P end)) (fault (impossible e) 0)

-- How an event is judged in the plant of the copy.
abbrev pub judged : WatchedRun → Event → Found Plant
judged w e = judged_in w e (read_plant w.file)

-- "a refused event changes nothing"
abbrev pub stepped_to : WatchedRun → Event → Found Plant → WatchedRun
stepped_to w e (fault number place) = w
stepped_to w e (found P end) = with_event w e

-- What one event makes of the run.
abbrev pub stepped : WatchedRun → Event → WatchedRun
stepped w e = stepped_to w e (judged w e)

-- "each accepted event hand[s] back the ceiling for the progress rows and doublings so far, less the quiet rows so far". The difference is exact, for
-- the quiet rows are within the ceiling (`whole_list`).
abbrev pub answered_for : WatchedRun → Event → Found Plant → Answer
answered_for w e (fault number place) = refused number place
answered_for w e (found P end) = remaining (ceiling_so_far P (with_event w e) - quiet_so_far P (with_event w e))

-- The answer to one event.
abbrev pub answered : WatchedRun → Event → Answer
answered w e = answered_for w e (judged w e)
