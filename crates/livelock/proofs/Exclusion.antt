-- No plant has both passing weights and a balanced set of cycles; the statement stands at the end.
use mathlib.Core.List.{List}
use Prim.Native.Nat.{ℕ, ◌+◌, ◌*◌, ◌≤◌, ◌<◌}
use native.Mathlib.Nat.{mul-le-mul_left}
use native.Mathlib.Omega.{arith}
use Rattle.livelock.specs.Lists.{below, All}
use Rattle.livelock.specs.Plants.{Plant}
use Rattle.livelock.specs.Cycles.{SimpleCycle, Quiet, messages_sent, messages_taken}
use Rattle.livelock.specs.Weights.{weight, cycle_weight, Passes}
use Rattle.livelock.specs.CycleSets.{Entry, Balanced}
use Rattle.livelock.proofs.ListLaws.{all_weaken, all_both, all_below}
use Rattle.livelock.proofs.SumLaws.{sum_mono, sum-add, sum_swap_factors}
use Rattle.livelock.proofs.Differences.{negative_iff}
use Rattle.livelock.proofs.CycleWeights.{sent_by_types, taken_by_types, weight_by_types}
use Rattle.livelock.proofs.CycleSetLaws.{set_sent, set_taken, none_consumed_iff}

module _ (P : Plant) (ws : List ℕ) (ok : Passes P ws) (es : List Entry) (b : Balanced P es) where
  -- Each cycle of the set sends less, weighed, than it takes; repeated, by at least the number of repeats.
  lighter : All (λ e. e.repeats * sent_by_types P ws e.cycle + e.repeats ≤ e.repeats * taken_by_types P ws e.cycle) es
  lighter =
      all_weaken
      (λ e. SimpleCycle P e.machine e.cycle × Quiet P e.cycle)
      _
      (λ e s. omega (arith, mul-le-mul_left e.repeats (below_zero e s.0 s.1)))
      es
      (all_both _ _ es b.simple b.no_progress)
    where
      below_zero : (e : Entry) → SimpleCycle P e.machine e.cycle → Quiet P e.cycle → sent_by_types P ws e.cycle < taken_by_types P ws e.cycle
      below_zero e s q = (negative_iff (cycle_weight P ws e.cycle) _ _ (weight_by_types P ws e.cycle)).0 (ok e.machine e.cycle s q)

  -- Of each type the set sends at least what it takes, so also times the type's weight.
  heavier : All (λ t. weight ws t * set_taken P es t ≤ weight ws t * set_sent P es t) (below P.types)
  heavier = all_below _ P.types (λ t l. mul-le-mul_left (weight ws t) ((none_consumed_iff P es t).0 (b.none_consumed t l)))

  -- What the set sends and takes, weighed, is the same added up by entries and by types. By entries the set sends less than it takes,
  -- since some cycle is repeated; by types it sends at least what it takes.
  contradiction : ⊥
  contradiction =
      omega (
        arith,
        b.some_repeated,
        sum_mono (λ e. e.repeats * sent_by_types P ws e.cycle + e.repeats) (λ e. e.repeats * taken_by_types P ws e.cycle) es lighter,
        sum-add (λ e. e.repeats * sent_by_types P ws e.cycle) (λ e. e.repeats) es,
        sum_swap_factors (λ e. e.repeats) (weight ws) (λ e. messages_sent P e.cycle) es (below P.types),
        sum_swap_factors (λ e. e.repeats) (weight ws) (λ e. messages_taken P e.cycle) es (below P.types),
        sum_mono (λ t. weight ws t * set_taken P es t) (λ t. weight ws t * set_sent P es t) (below P.types) heavier,
      )

-- Demand 2: "No plant has both." This holds of every plant, well-formed or not.
pub exclusion : (P : Plant) (weights : List ℕ) → Passes P weights → (set : List Entry) → Balanced P set → ⊥
exclusion P ws ok es b = contradiction P ws ok es b
