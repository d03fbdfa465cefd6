use Rattle.twins.proofs.KeptLaws.{none_kept}
use Rattle.twins.proofs.Keys.clear.Goals as goal

pub returns-clause-kept : goal.returns-clause-kept
returns-clause-kept g c = none_kept _ c.clear.ensures
