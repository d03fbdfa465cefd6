use mathlib.Core.Path.{◌≡◌}
use Prim.Native.Nat.{ℕ}
use lib.ListN.{length}
use Rattle.std.specs.Prelude.{Option}
use Rattle.std.specs.Option.{unwrap_or}
use Rattle.livelock.specs.Graphs.{lengthened}
use Rattle.deciding.specs.Rounds.{edge_graph, Pass}
use Rattle.deciding.proofs.relax.Given as goal

-- `relax` meets its contract: after i turns the first i edges are relaxed.
abbrev pub invariant-loop-i : goal.invariant-loop-i
invariant-loop-i l = (last : Option ℕ) × Pass (lengthened l.n (edge_graph l.edges.list.now)) l.i l.initial.heights l.heights last × (l.last ≡ unwrap_or last (length l.edges.list.now))
