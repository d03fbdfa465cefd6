use Rattle.std.proofs.Common.{rules}
use Rattle.graphs.specs.Graphs.{head_of}
use Rattle.graphs.proofs.Graph.head_of.Goals as goal

pub returns : goal.returns
unfolding head_of
returns c = search rules
