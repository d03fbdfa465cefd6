use Rattle.edge_lists.specs.EdgeLists.{edge_in}
use Rattle.deciding.specs.Rounds.{edge_graph}
use Rattle.searching.proofs.SearchLaws.{Walking}
use Rattle.searching.proofs.show_in.Given as goal

-- `show_in` meets its contract: without a cycle of so few edges nothing is written; else, after i turns, the rows of a walk of i edges from the start
-- are written, and a heaviest walk leads on from its end.
abbrev pub invariant-loop-i : goal.invariant-loop-i
invariant-loop-i g l = Walking (edge_graph l.edges.list.now) (λ e. (edge_in l.edges.list.now e).row) l.initial.s l.k l.initial.cycle l.s l.i l.cycle
