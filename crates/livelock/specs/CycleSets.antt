-- Cycle sets (document 01, "Cycle sets"), and inequalities (1) to (4) of the published livelock test.
use Rattle.std.specs.Prelude.{List, ℕ, ◌<◌, ℤ, pos, ◌*ℤ◌, ◌≤ℤ◌}
use Rattle.livelock.specs.Lists.{sum, sumℤ, All}
use Rattle.livelock.specs.Plants.{Plant}
use Rattle.livelock.specs.Cycles.{SimpleCycle, Quiet, effect}

-- An entry of a set: "machine, repeats …, row count …, rows".
pub record Entry : Type 0 where
  pub machine : ℕ
  pub repeats : ℕ
  pub cycle : List ℕ

-- "Effects times repeats are added for each type."
unfoldable pub set_effect : Plant → List Entry → ℕ → ℤ
set_effect P es t = sumℤ (λ e. pos e.repeats *ℤ effect P e.cycle t) es

-- "a balanced set (one that meets inequalities (1) to (4))" of simple cycles, each of its entry's machine.
pub record Balanced (P : Plant) (es : List Entry) : Type 0 where
  pub simple : All (λ e. SimpleCycle P e.machine e.cycle) es
  -- (1) The cycles together consume no message: "no sum is below zero".
  pub none_consumed : (t : ℕ) → t < P.types → pos 0 ≤ℤ set_effect P es t
  -- (2) Some cycle is repeated: "it is not empty".
  pub some_repeated : 0 < sum (λ e. e.repeats) es
  -- (3) No progress cycle is repeated: each entry's cycle is quiet.
  pub no_progress : All (λ e. Quiet P e.cycle) es
  -- (4) No repeats are negative; those of an entry are at least 1, and a cycle without an entry has none.
  pub repeated : All (λ e. 0 < e.repeats) es
