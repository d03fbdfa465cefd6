-- What the theory says of every file that reads.
use mathlib.Core.Path.{◌≡◌}
use mathlib.Core.Logic.{◌⊎◌}
use mathlib.Core.List.{List}
use Prim.Native.Nat.{ℕ}
use Rattle.livelock.specs.Plants.{Plant}
use Rattle.livelock.specs.Weights.{Passes, FailingCycle}
use Rattle.livelock.specs.Figures.{Bounded}
use Rattle.livelock.specs.CycleSets.{Entry, Balanced}
use Rattle.livelock.proofs.Decision.{decision}
use Rattle.livelock.proofs.Ceiling.{ceiling}
use Rattle.livelock.proofs.Exclusion.{exclusion}
use Rattle.plant.specs.Found.{found}
use Rattle.plant.specs.Reading.{read_plant}
use Rattle.plant.proofs.FileBounds.{within_limits}

module _ (file : List ℕ) (p : Plant) (end : ℕ) (reads : read_plant file ≡ found p end) (weights : List ℕ) where
  -- Demand 3 for the plant of a file.
  pub file_ceiling : Passes p weights → Bounded p weights
  file_ceiling = ceiling p (within_limits file p end reads).formed weights

  -- Demand 2 for the plant of a file.
  pub file_decision : Passes p weights ⊎ ((c : List ℕ) × FailingCycle p weights c)
  file_decision = decision p (within_limits file p end reads).formed weights

  -- Demand 2, "No plant has both", for the plant of a file.
  pub file_exclusion : Passes p weights → (set : List Entry) → Balanced p set → ⊥
  file_exclusion = exclusion p weights
