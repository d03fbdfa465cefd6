use Prim.Native.Nat.{◌-◌, ◌≤◌}
use Rattle.decoding.specs.Tables.{plant_of}
use Rattle.shortest_cycles.specs.Inner.Turns.{ShortestOf}
use Rattle.shortest_cycles.proofs.shortest.Given as goal

-- `shortest` meets its contract: before each turn, the shortest cycle of the machines before machine `from` was written.
abbrev pub invariant-loop-next : goal.invariant-loop-next
invariant-loop-next l =
    ShortestOf (plant_of l.plant.decoded.shape l.plant.decoded.table.now) l.plant.weights.now l.from l.least l.rows × (l.from ≤ l.plant.decoded.shape.machines)

abbrev pub decreases-loop-next : goal.decreases-loop-next
decreases-loop-next l = l.plant.decoded.shape.machines - l.from
