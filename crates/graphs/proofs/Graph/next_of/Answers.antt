use mathlib.Core.Path.{sym, ◌∙◌}
use Rattle.graphs.specs.Graphs.{next_of}
use Rattle.graphs.proofs.PartLaws.{row_at}
use Rattle.graphs.proofs.Graph.next_of.Goals as goal

pub returns : goal.returns
unfolding next_of
returns c = let a = c.args in c.from.ensures ∙ sym (row_at a.self.now.next a.k c.requires)
