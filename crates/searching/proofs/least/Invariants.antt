use Rattle.deciding.specs.Rounds.{edge_graph}
use Rattle.searching.proofs.SearchLaws.{Sought}
use Rattle.searching.proofs.least.Given as goal

-- `least` meets its contract: after so many turns the number is the least from so many states.
abbrev pub invariant-loop-start : goal.invariant-loop-start
invariant-loop-start g l = Sought (edge_graph l.edges.list.now) l.edges.states l.limit l.found l.most l.start
