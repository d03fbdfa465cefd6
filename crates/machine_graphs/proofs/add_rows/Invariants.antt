use Prim.Native.Nat.{◌≤◌}
use Rattle.machine_graphs.proofs.GraphLaws.{Begun}
use Rattle.machine_graphs.proofs.add_rows.Given as goal

-- `add_rows` meets its contract: after each turn the graph has the rows from k on.
abbrev pub invariant-loop-k : goal.invariant-loop-k
invariant-loop-k l = (l.first ≤ l.k) × Begun l.table l.k l.last l.graph
