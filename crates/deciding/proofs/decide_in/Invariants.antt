use mathlib.Core.Path.{◌≡◌}
use lib.ListN.{length}
use Rattle.livelock.specs.Graphs.{lengthened}
use Rattle.deciding.specs.Rounds.{edge_graph}
use Rattle.deciding.proofs.DecisionLaws.{Heights}
use Rattle.deciding.proofs.decide_in.Given as goal

-- `decide_in` meets its contract: after k passes the heights are lengths of walks, and at least the greatest lengths with at most k edges.
abbrev pub invariant-loop : goal.invariant-loop
invariant-loop g l = (length l.heights ≡ g.row.S) × Heights (lengthened l.n (edge_graph l.edges.list.now)) l.counter l.heights
