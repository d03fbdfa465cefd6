use mathlib.Core.Path.{refl}
use Rattle.graphs.specs.Graphs.{into_of}
use Rattle.graphs.proofs.Graph.into_of.Goals as goal

pub returns : goal.returns
unfolding into_of
returns c = refl
