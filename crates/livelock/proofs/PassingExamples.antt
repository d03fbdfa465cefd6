-- Weights that pass, by the test, and weights that do not, and what the theorems then say.
use mathlib.Core.Path.{refl}
use mathlib.Core.Bool.{true}
use mathlib.Core.List.{List, [], ◌∷◌}
use Prim.Native.Nat.{ℕ, ◌+◌, ◌*◌, ◌≤◌}
use lib.Signed.{le_z_yes}
use Rattle.livelock.specs.Lists.{below, sum, sumℤ, greatest}
use Rattle.livelock.specs.Plants.{has_progress, WellFormed}
use Rattle.livelock.specs.Runs.{Configuration, Event, quiet_rows, progress_rows, doublings}
use Rattle.livelock.specs.Weights.{cycle_weight, Passes, FailingCycle, FewestRows}
use Rattle.livelock.specs.Figures.{contents_weight}
use Rattle.livelock.specs.Tests.{every}
use Rattle.livelock.proofs.Tests.{well_formed_iff}
use Rattle.livelock.specs.Graphs.{via}
use Rattle.livelock.proofs.Graphs.{longest}
use Rattle.livelock.proofs.Decision.{state_potential, passing_iff, two_rows_fewest}
use Rattle.livelock.proofs.Ceiling.{ceiling}
use Rattle.livelock.proofs.Exclusion.{exclusion}
use Rattle.livelock.proofs.BasicExamples.{panel_and_probe, plant_a, probe_cycle, probe_quiet, panel, probe, plant_b, both_balanced, tight}

-- Plant A is well-formed, by the test.
pub formed_A : WellFormed plant_a
unfolding panel_and_probe every
formed_A = (well_formed_iff plant_a).0 refl

-- Weights 2, 1 pass in plant A, so every run of it stays within its ceiling.
pub passes_2_1 : Passes plant_a (2 ∷ 1 ∷ [])
unfolding panel_and_probe below greatest every state_potential longest via has_progress
passes_2_1 = (passing_iff plant_a formed_A (2 ∷ 1 ∷ [])).0 refl

runs_of_A : (c : Configuration) (events : List Event)
    → quiet_rows plant_a c events ≤ 10 + 2 * contents_weight plant_a (2 ∷ 1 ∷ []) c.content + 9 * progress_rows plant_a c events + 4 * doublings plant_a c events
unfolding panel_and_probe below sum greatest
runs_of_A = ceiling plant_a formed_A (2 ∷ 1 ∷ []) passes_2_1

-- With weights 1, 1 the probe's cycle weighs 0 and may be shown.
pub shown_1_1 : FailingCycle plant_a (1 ∷ 1 ∷ []) (2 ∷ 3 ∷ [])
unfolding panel_and_probe below sum sumℤ cycle_weight
shown_1_1 = record { machine = 1; simple = probe_cycle true; quiet = probe_quiet; weighs = le_z_yes tt }

-- No row of plant A leads back to the state that it leaves, so two rows are the fewest that a cycle of it can have.
pub fewest_in_A : (ws : List ℕ) → FewestRows plant_a ws (2 ∷ 3 ∷ [])
unfolding panel_and_probe below every
fewest_in_A ws = two_rows_fewest plant_a ws (2 ∷ 3 ∷ []) refl refl

-- The plant that meets its ceiling passes with weight 1.
tight_passes : Passes tight (1 ∷ [])
unfolding tight below greatest every state_potential longest via has_progress
tight_passes = (passing_iff tight ((well_formed_iff tight).0 refl) (1 ∷ [])).0 refl

-- Plant B has a balanced set, so no weights pass.
pub none_pass_in_B : (weights : List ℕ) → Passes plant_b weights → ⊥
none_pass_in_B ws ok = exclusion plant_b ws ok (panel ∷ probe ∷ []) both_balanced
