use Prim.Native.Nat.{◌<◌, ◌^◌}
use Rattle.graphs.specs.Graphs.{into_of}
use Rattle.state_marks.proofs.BitLaws.{Growing}
use Rattle.state_marks.proofs.without_dead_ends.Given as goal

-- `without_dead_ends` meets its contract: each turn takes one state from those to do, and puts the free states with a row to it in.
abbrev pub invariant-loop : goal.invariant-loop
invariant-loop l = (l.todo < 2 ^ 32) × Growing (into_of l.graph) l.start l.free l.live l.todo
