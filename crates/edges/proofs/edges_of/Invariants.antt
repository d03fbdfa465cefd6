use Prim.Native.Nat.{◌≤◌, ◌+◌}
use lib.ListN.{take}
use Rattle.edges.specs.Edges.{Listed}
use Rattle.edges.proofs.edges_of.Given as goal

-- `edges_of` meets its contract: before the turn of row k the edges are the quiet rows from the first up to, and not including, k.
abbrev pub invariant-loop-k : goal.invariant-loop-k
invariant-loop-k l = (l.fn.rows.start ≤ l.k) × (l.count + l.fn.rows.start ≤ l.k) × Listed l.table l.weights l.fn.rows.start l.k (take l.count l.edges)
