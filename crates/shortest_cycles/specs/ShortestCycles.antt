-- The cycle that is shown (document 01, "Cycles and weighing"; request L1 of document 02).
use Rattle.std.specs.Prelude.{◌≡◌, List, ◌++◌, ℕ, ◌≤◌, length, drop}
use Rattle.livelock.specs.Plants.{Plant}
use Rattle.livelock.specs.Weights.{FailingCycle, FewestRows}

-- The k "rows of one quiet simple cycle weighing zero or more fill the front" of the list, and it "has the fewest rows"; "later entries keep their contents".
pub record ShownShortest (P : Plant) (ws : List ℕ) (k : ℕ) (before after : List ℕ) : Type 0 where
  pub rows : List ℕ
  pub fails : FailingCycle P ws rows
  pub fewest : FewestRows P ws rows
  pub long : length rows ≡ k
  pub few : k ≤ 64
  pub shown : after ≡ rows ++ drop k before
