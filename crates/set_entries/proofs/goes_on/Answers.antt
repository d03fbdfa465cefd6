-- `goes_on` meets its contract: by its tests, of which the first that fails decides.
use Rattle.std.proofs.Common.{arith}
use Rattle.std.proofs.lemmas.Bool.Decides.{nat_tests}
use Rattle.tables.proofs.RowLaws.{row_progress}
use Rattle.set_entries.proofs.goes_on.Goals as goal

pub returns-then-row-at : goal.returns-then-row-at
returns-then-row-at c = let p = row_progress c.args.row in grind (arith, nat_tests)

pub returns-else-row-at : goal.returns-else-row-at
returns-else-row-at c = let p = row_progress c.args.row in grind (arith, nat_tests)
