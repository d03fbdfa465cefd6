use mathlib.Core.Path.{sym}
use Rattle.graphs.specs.Graphs.{entered_of}
use Rattle.graphs.proofs.PartLaws.{row_at}
use Rattle.graphs.proofs.Graph.entered_of.Goals as goal

pub returns : goal.returns
unfolding entered_of
returns c = let a = c.args in sym (row_at a.self.now.entered a.k c.requires)
