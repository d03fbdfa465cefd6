use Rattle.deciding.specs.Rounds.{edge_graph}
use Rattle.closed_walks.specs.Inner.Rounds.{Round}
use Rattle.closed_walks.proofs.round.Given as goal

-- `round` meets its contract: after i turns the first i edges were gone along.
abbrev pub invariant-loop-i : goal.invariant-loop-i
invariant-loop-i g l = Round (edge_graph l.edges.list.now) g.row.S l.i l.k l.shorter l.longer l.initial.noted l.noted
