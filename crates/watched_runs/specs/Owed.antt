-- What the calls on a watcher owe: the contracts of opening and of one event. They are those of the functions of crate `watching` and of the C interface.
use Rattle.std.specs.Prelude.{◌≡◌, List, ℕ, replicate}
use Rattle.livelock.specs.Runs.{Event}
use Rattle.quoting.specs.Answers as Quoted
use Rattle.quoting.specs.Quoting as Quoting
use Rattle.watched_runs.specs.Answers.{Answer, remaining, refused}
use Rattle.watched_runs.specs.WatchedRuns.{WatchedRun, opened_on, unopened, stepped, answered}
use Rattle.watched_runs.specs.Keeping.{Kept, Holds}

-- Lists without a watcher: zeros alone.
abbrev pub blank : Kept
blank =
    record { copy = replicate 8192 0; table = replicate 8192 0; sizes = replicate 5 0; states = replicate 16 0; contents = replicate 64 0; counts = replicate 3 0 }

-- "Opening … hand[s] back the ceiling", or the refusal of quoting's checks,
abbrev pub opening_answer : Quoted.Answer → Answer
opening_answer (Quoted.quoted ceiling class) = remaining ceiling
opening_answer (Quoted.refused number place) = refused number place

-- with a watcher on the file, or one whose copy is empty.
abbrev pub opening_run : (file weights contents : List ℕ) → Quoted.Answer → WatchedRun
opening_run file weights contents (Quoted.quoted ceiling class) = opened_on file weights contents
opening_run file weights contents (Quoted.refused number place) = unopened

-- The contract of opening, "with quoting's checks": the answer that quoting owes with g and d zero, and the lists of the watcher that goes with it; with
-- a refusal they are zeros alone.
pub record Opens (file weights contents : List ℕ) (a : Answer) (s : Kept) : Type 0 where
  pub quote : Quoted.Answer
  pub owed : Quoting.Owed weights contents 0 0 quote (Quoting.judged file weights contents 0 0)
  pub answer : a ≡ opening_answer quote
  pub held : Holds s (opening_run file weights contents quote)
  pub cleared : (number place : ℕ) → a ≡ refused number place → s ≡ blank

-- What one event does to a watcher of the run w.
pub record Stepped (w : WatchedRun) (e : Event) (a : Answer) (after : Kept) : Type 0 where
  pub answer : a ≡ answered w e
  pub held : Holds after (stepped w e)

-- The contract of one event. "a refused event changes nothing", not a number of any list, whatever they hold; and for "state [that] is always one that opening or
-- a call handed back", which holds some run, the answer and the lists afterwards are those of that run.
pub record Steps (before : Kept) (e : Event) (a : Answer) (after : Kept) : Type 0 where
  pub kept : (number place : ℕ) → a ≡ refused number place → after ≡ before
  pub followed : (w : WatchedRun) → Holds before w → Stepped w e a after

-- The same of lists that are lent: a row gets no copy, so whatever the copy is;
abbrev pub LentSteps : (table sizes states contents counts : List ℕ) → Event → Answer → (states' contents' counts' : List ℕ) → Type 0
LentSteps table sizes states contents counts e a states' contents' counts' =
    (copy : List ℕ)
    → Steps (record { copy = copy; table = table; sizes = sizes; states = states; contents = contents; counts = counts }) e a
    (record { copy = copy; table = table; sizes = sizes; states = states'; contents = contents'; counts = counts' })

-- and a loss or a doubling gets no table and no states either.
abbrev pub LentMessageSteps : (sizes contents counts : List ℕ) → Event → Answer → (contents' counts' : List ℕ) → Type 0
LentMessageSteps sizes contents counts e a contents' counts' =
    (table states : List ℕ) → LentSteps table sizes states contents counts e a states contents' counts'
