use Prim.Native.Nat.{ℕ, ◌≤◌, ◌<◌}
use Rattle.decoding.specs.Tables.{plant_of}
use Rattle.machines.specs.Machines.{MachinePasses}
use Rattle.machines.proofs.first_failing.Given as goal

-- `first_failing` meets its contract: the machines so far pass; the first for which deciding says no ends the loop.
abbrev pub invariant-loop-m : goal.invariant-loop-m
invariant-loop-m l =
    (l.m ≤ l.plant.decoded.shape.machines) × ((j : ℕ) → j < l.m → l.from ≤ j → MachinePasses (plant_of l.plant.decoded.shape l.plant.decoded.table.now) l.plant.weights.now j) × (l.from ≤ l.m)
