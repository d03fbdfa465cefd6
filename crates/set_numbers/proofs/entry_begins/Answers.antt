-- `entry_begins` meets its contract: by its two tests.
use Rattle.std.proofs.Common.{arith}
use Rattle.std.proofs.lemmas.Bool.Decides.{nat_tests}
use Rattle.set_numbers.specs.Numbers.{entry_begins}
use Rattle.set_numbers.proofs.entry_begins.Goals as goal

pub returns-then-before-lt256 : goal.returns-then-before-lt256
unfolding entry_begins
returns-then-before-lt256 c = grind (arith, nat_tests)

pub returns : goal.returns
unfolding entry_begins
returns c = grind (arith, nat_tests)
