use Rattle.std.proofs.Common.{rules}
use Rattle.graphs.specs.Graphs.{between_of}
use Rattle.graphs.proofs.Graph.between_of.Goals as goal

pub returns : goal.returns
unfolding between_of
returns c = search rules
