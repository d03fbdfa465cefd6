-- `show` meets its contract: the rows of the shortest cycle are copied.
use native.Mathlib.Omega.{arith}
use Rattle.machines.proofs.TurnLaws.{weighable}
use Rattle.shortest_cycles.proofs.ShortestLaws.{shortest_shown}
use Rattle.shortest_cycles.proofs.show.Goals as goal

pub returns : goal.returns
returns c =
    shortest_shown _ _ _ (weighable c.args.plant.now) c.shortest-least.ensures (omega arith) (rw c.copy_from_slice.ensures.after)
