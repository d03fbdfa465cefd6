-- One machine after the other is searched.
use Rattle.std.specs.Prelude.{List, ℕ, ◌≤◌, ◌<◌, length, take}
use Rattle.livelock.specs.Plants.{Plant}
use Rattle.livelock.specs.Weights.{FailingCycle}

-- Of the machines before machine m: no quiet simple cycle weighing zero or more has fewer than k rows, and the first k of the list are the rows of one.
pub record ShortestOf (P : Plant) (ws : List ℕ) (m k : ℕ) (list : List ℕ) : Type 0 where
  pub some_row : 1 ≤ k
  pub few : k ≤ 64
  pub fewest : (c : List ℕ) (f : FailingCycle P ws c) → f.machine < m → k ≤ length c
  pub shown : FailingCycle P ws (take k list)
