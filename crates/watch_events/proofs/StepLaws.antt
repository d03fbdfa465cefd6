-- Laws of events that were counted or not: what was counted meets the contract of one event.
use mathlib.Core.Path.{◌≡◌, refl, sym, ap, subst}
use mathlib.Core.Bool.{true, ◌&&◌, false≢true}
use mathlib.Core.List.{List}
use Prim.Native.Nat.{ℕ, ◌<◌}
use Rattle.std.specs.Prelude.{Some, Result, Ok, Err}
use Rattle.plant.specs.declared.Fault.{Fault}
use Rattle.livelock.specs.Runs.{row, doubling}
use Rattle.livelock.proofs.Tests.{and_iff}
use lib.ListN.{get_or}
use lib.Dec.{ltb}
use borrow.Author.Tests.{ltb-true}
use Rattle.tables.specs.Tables.{row_in, row_of}
use Rattle.tables.specs.declared.TableRow.{TableRow}
use Rattle.configurations.specs.Configurations.{AddsWithRoom, RowCan, RowMoves}
use Rattle.watched_runs.specs.Answers.{answer_of, remaining, refused}
use Rattle.watched_runs.specs.Keeping.{Kept, rows_in, types_in, left_in, per_progress_in, per_doubling_in}
use Rattle.watched_runs.specs.Owed.{Steps}
use Rattle.watched_runs.specs.Inner.Counts.{row_held, message_held}
use Rattle.watched_runs.proofs.StepLaws.{moved}
use Rattle.watched_runs.proofs.EventSteps.{steps_late, steps_progress, steps_quiet, steps_late_doubling, steps_doubled}
use Rattle.watch_events.specs.Counting.{event_limit, CountedUpTo, at_most, one_more, RowCounted, quiet_row, progress_row}
use Rattle.watch_events.proofs.CountLaws.{progress_counts, doubling_counts}

-- A row that is held is one of the rows, and a table has room for it.
pub held_row : (sizes : List ℕ) (k : ℕ) → row_held sizes k ≡ true → (k < rows_in sizes) × (k < 1024)
held_row sizes k h = let a = (and_iff (ltb k (rows_in sizes)) (ltb k 1024)).0 h in (ltb-true k (rows_in sizes) a.0, ltb-true k 1024 a.1)

-- The type of a message that is held has room for its content.
pub held_type : (sizes contents : List ℕ) (t : ℕ) → message_held sizes contents t ≡ true → t < 64
held_type sizes contents t h =
    let a = (and_iff (ltb t (types_in sizes)) (ltb t 64 && ltb 0 (get_or contents t 0))).0 h in
    ltb-true t 64 ((and_iff (ltb t 64) (ltb 0 (get_or contents t 0))).0 a.1).0

-- Nothing was stored.
kept : (s : Kept) (counts : List ℕ) → counts ≡ s.counts → s ≡ moved s s.states s.contents counts
kept s counts e =
    λ i. record { copy = s.copy; table = s.table; sizes = s.sizes; states = s.states; contents = s.contents; counts = sym e i }

-- The refusal of an event that was not counted.
limit_met : (f : Fault) (counted : Result (Unit {0}) Fault) → counted ≡ Err f → counted ≡ Err event_limit → event_limit ≡ f
limit_met f counted e h = cc

module _ (s : Kept) (k : ℕ) (held : row_held s.sizes k ≡ true) (x : TableRow) (same : row_of x ≡ row_in s.table k) (can : RowCan x s.states s.contents true) where
  -- The row was not counted: it is one too many.
  pub row_late : (f : Fault) (counts : List ℕ) → RowCounted x.fields.progress (per_progress_in s.sizes) s.counts counts (Err f)
      → Steps s (row k) (answer_of (Err f)) (moved s s.states s.contents counts)
  row_late f counts (quiet_row p c h) = absurd (false≢true cc)
  row_late f counts (progress_row p (one_more l c h)) = absurd (false≢true cc)
  row_late f counts (progress_row p (at_most l c h)) =
      subst (λ (b : Result ℕ Fault). Steps s (row k) (answer_of b) (moved s s.states s.contents counts)) (ap Err (limit_met f _ refl h))
      (subst (Steps s (row k) (refused 29 0)) (kept s counts c) (steps_late s k (held_row s.sizes k held).0 x same true can refl p l))

  -- It was counted, and moved.
  pub row_taken : (states contents counts : List ℕ) → RowCounted x.fields.progress (per_progress_in s.sizes) s.counts counts (Ok tt)
      → RowMoves x s.states s.contents states contents → Steps s (row k) (remaining (left_in counts)) (moved s states contents counts)
  row_taken states contents counts (quiet_row p c h) moves = steps_quiet s k (held_row s.sizes k held).0 x same true can refl states contents counts moves p c
  row_taken states contents counts (progress_row p (at_most l c h)) moves = absurd (false≢true cc)
  row_taken states contents counts (progress_row p (one_more l c h)) moves =
      steps_progress s k (held_row s.sizes k held).0 x same true can refl states contents counts moves p l
      (progress_counts (per_progress_in s.sizes) s.counts counts c)

module _ (s : Kept) (t : ℕ) (held : message_held s.sizes s.contents t ≡ true) where
  -- The doubling was not counted: it is one too many.
  pub doubling_late : (f : Fault) (counts : List ℕ) → CountedUpTo 2 1000000 (per_doubling_in s.sizes) s.counts counts (Err f)
      → Steps s (doubling t) (answer_of (Err f)) (moved s s.states s.contents counts)
  doubling_late f counts (one_more l c h) = absurd (false≢true cc)
  doubling_late f counts (at_most l c h) =
      subst (λ (b : Result ℕ Fault). Steps s (doubling t) (answer_of b) (moved s s.states s.contents counts)) (ap Err (limit_met f _ refl h))
      (subst (Steps s (doubling t) (refused 29 0)) (kept s counts c) (steps_late_doubling s t held l))

  -- It was counted, and the message added.
  pub doubling_taken : (contents counts : List ℕ) → CountedUpTo 2 1000000 (per_doubling_in s.sizes) s.counts counts (Ok tt) → AddsWithRoom (Some t) s.contents contents
      → Steps s (doubling t) (remaining (left_in counts)) (moved s s.states contents counts)
  doubling_taken contents counts (at_most l c h) adds = absurd (false≢true cc)
  doubling_taken contents counts (one_more l c h) adds =
      steps_doubled s t held contents counts adds l (doubling_counts (per_doubling_in s.sizes) s.counts counts c)
