-- The search for a closed walk with the fewest edges that weighs zero or more.
use Rattle.std.specs.Prelude.{◌≡◌, List, ◌++◌, map, ℕ, ◌+◌, ◌≤◌, ◌<◌, length, drop, Option, IfSome, IfNone, MatchOption}
use Rattle.livelock.specs.Lists.{sum}
use Rattle.livelock.specs.Graphs.{Graph, Cycle}
use Rattle.edge_lists.specs.declared.Edge.{Edge}
use Rattle.edge_lists.specs.EdgeLists.{edge_in}
use Rattle.deciding.specs.Rounds.{edge_graph, NoneBelow}
use Rattle.closed_walks.specs.ClosedWalks.{Closes}
use Rattle.searching.specs.declared.Start.{Start}

-- `found` has the least number of edges, up to a limit, of a closed walk that weighs zero or more, from whatever state, and the state from which one goes;
-- `None` stands for none.
pub record LeastWithin (g : Graph) (states limit : ℕ) (found : Option Start) : Type 0 where
  pub some_edge : IfSome found (λ f. 1 ≤ f.length)
  pub few : IfSome found (λ f. f.length ≤ limit)
  pub closes : IfSome found (λ f. (f.start < states) × Closes g f.start f.length)
  pub least : (s j : ℕ) → s < states → 1 ≤ j → MatchOption found (j ≤ limit) (λ f. j < f.length) → Closes g s j → ⊥

-- The front of the list has the rows of a simple cycle of k edges that weighs zero or more; the rest is kept.
pub record Written (g : Graph) (row : ℕ → ℕ) (k : ℕ) (before after : List ℕ) : Type 0 where
  pub cycle : List ℕ
  pub long : length cycle ≡ k
  pub simple : Cycle g cycle
  pub weighs : sum g.minus cycle ≤ sum g.plus cycle
  pub shown : after ≡ map row cycle ++ drop k before

-- A shortest cycle of at most `limit` edges that weighs zero or more was written, and has `shown`; or there is none, `shown` is `None` and the list is kept.
pub record ShownWithin (edges : List Edge) (limit : ℕ) (shown : Option ℕ) (before after : List ℕ) : Type 0 where
  pub some_row : IfSome shown (λ k. 1 ≤ k)
  pub few : IfSome shown (λ k. k ≤ limit)
  pub fewest : MatchOption shown (NoneBelow (edge_graph edges) (limit + 1)) (NoneBelow (edge_graph edges))
  pub written : IfSome shown (λ k. Written (edge_graph edges) (λ e. (edge_in edges e).row) k before after)
  pub kept : IfNone shown (after ≡ before)
