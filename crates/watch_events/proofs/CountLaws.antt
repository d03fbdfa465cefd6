-- Laws of the counts: what is stored, and what it says of each count.
use mathlib.Core.List.{List}
use Prim.Native.Nat.{ℕ, ◌+◌}
use native.Mathlib.Omega.{arith}
use Rattle.watched_runs.specs.Keeping.{left_in, progress_in, doublings_in}
use Rattle.watched_runs.specs.Inner.Counts.{capped, CountsAre}
use Rattle.watch_events.specs.Counting.{EventCounted}

module _ (more : ℕ) (before after : List ℕ) where
  -- A progress row was counted,
  pub progress_counts : EventCounted 1 more before after → CountsAre (capped (left_in before + more)) (progress_in before + 1) (doublings_in before) after
  progress_counts c = record { left_is = c.left_is; progress_is = c.own; doublings_is = c.others 2 (λ q. omega arith) (λ q. omega arith) }

  -- or a doubling.
  pub doubling_counts : EventCounted 2 more before after → CountsAre (capped (left_in before + more)) (progress_in before) (doublings_in before + 1) after
  doubling_counts c = record { left_is = c.left_is; progress_is = c.others 1 (λ q. omega arith) (λ q. omega arith); doublings_is = c.own }
