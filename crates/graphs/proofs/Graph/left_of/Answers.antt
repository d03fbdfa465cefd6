use mathlib.Core.Path.{sym}
use Rattle.graphs.specs.Graphs.{left_of}
use Rattle.graphs.proofs.PartLaws.{row_at}
use Rattle.graphs.proofs.Graph.left_of.Goals as goal

pub returns : goal.returns
unfolding left_of
returns c = let a = c.args in sym (row_at a.self.now.left a.k c.requires)
