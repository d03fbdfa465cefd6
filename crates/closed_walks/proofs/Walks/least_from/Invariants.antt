use Rattle.deciding.specs.Rounds.{edge_graph}
use Rattle.closed_walks.proofs.StartLaws.{Searched, NoneUpTo}
use Rattle.closed_walks.proofs.Walks.least_from.Given as goal

-- `least_from` meets its contract: after k turns no number of edges up to k closes.
abbrev pub invariant-loop-k : goal.invariant-loop-k
invariant-loop-k g l =
    Searched (edge_graph l.edges.list.now) g.row.S l.edges.states l.start l.k l.shorter l.longer l.noted × NoneUpTo (edge_graph l.edges.list.now) l.start l.k
