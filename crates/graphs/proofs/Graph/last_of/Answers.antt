use Rattle.std.proofs.Common.{rules}
use Rattle.graphs.specs.Graphs.{last_of}
use Rattle.graphs.proofs.Graph.last_of.Goals as goal

pub returns : goal.returns
unfolding last_of
returns c = search rules
