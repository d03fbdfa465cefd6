use Rattle.cycle_paths.proofs.ExtensionLaws.{closed_first}
use Rattle.cycle_paths.proofs.Search.first_marks.Goals as goal

pub returns : goal.returns
returns c = closed_first _ _ c.below-low.result c.with_left-marked.result _ c.requires c.below-low.ensures c.with_left-marked.ensures c.without_dead_ends.ensures
