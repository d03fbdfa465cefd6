-- What the private functions that count events give.
use Rattle.std.specs.Prelude.{◌≡◌, Bool, true, false, List, Result, Ok, Err, ℕ, ◌+◌, ◌-◌, ◌≤◌, ◌<◌, get_or}
use Rattle.plant.specs.declared.Fault.{Fault}
use Rattle.plant.specs.declared.Refusal.TheVariants as Refusals
use Rattle.watched_runs.specs.Keeping.{per_progress_in, per_doubling_in, left_in, progress_in, doublings_in}
use Rattle.watch_events.specs.declared.Counted.{Counted}
use Rattle.watch_events.specs.declared.Counted.TheVariants as Sorts
use Rattle.watched_runs.specs.Inner.Counts.{capped, CountsAre}

-- The place of the count of a sort of events,
abbrev pub place_of : Counted → ℕ
place_of Sorts.ProgressRow = 1
place_of Sorts.Doubling = 2

-- and how much an event of it adds to what is left: G, or n × w.
abbrev pub added_by : Counted → List ℕ → ℕ
added_by Sorts.ProgressRow sizes = per_progress_in sizes
added_by Sorts.Doubling sizes = per_doubling_in sizes

-- One event more of the sort that is counted at `at`, and so much more that is left; the other count stays.
pub record EventCounted (at more : ℕ) (before after : List ℕ) : Type 0 where
  pub left_is : left_in after ≡ capped (left_in before + more)
  pub own : get_or after at 0 ≡ get_or before at 0 + 1
  pub others : (j : ℕ) → (j ≡ 0 → ⊥) → (j ≡ at → ⊥) → get_or after j 0 ≡ get_or before j 0

-- "29 a possible progress row … after 1,000,000 of its own sort", or doubling.
abbrev pub event_limit : Fault
event_limit = record { refusal = Refusals.EventLimit; place = 0 }

-- "after 1,000,000 of its own sort" nothing is counted.
pub data CountedUpTo (at most more : ℕ) (before after : List ℕ) (counted : Result (Unit {0}) Fault) : Type 0 where
  at_most : most ≤ get_or before at 0 → after ≡ before → counted ≡ Err event_limit → CountedUpTo at most more before after counted
  one_more : get_or before at 0 < most → EventCounted at more before after → counted ≡ Ok tt → CountedUpTo at most more before after counted

-- A row is counted by its mark.
pub data RowCounted (progress : Bool) (more : ℕ) (before after : List ℕ) (counted : Result (Unit {0}) Fault) : Type 0 where
  quiet_row : progress ≡ false → CountsAre (left_in before - 1) (progress_in before) (doublings_in before) after → counted ≡ Ok tt → RowCounted progress more before after counted
  progress_row : progress ≡ true → CountedUpTo 1 1000000 more before after counted → RowCounted progress more before after counted
