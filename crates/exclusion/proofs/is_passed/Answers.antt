-- `is_passed` meets its contract: an answer hands back figures exactly where it is `Passed`.
use Rattle.exclusion.proofs.Theorem.{figures_told}
use Rattle.exclusion.proofs.is_passed.Goals as goal

pub returns-in-Ok-Passed : goal.returns-in-Ok-Passed
returns-in-Ok-Passed c = figures_told _ c.in-Ok-Passed.is (rw c.in-Ok-Passed.is at c.in-Ok-Passed.field-0-is)
