-- `number_in` meets its contract: by its tests.
use Rattle.std.proofs.Common.{arith}
use Rattle.std.proofs.lemmas.Bool.Decides.{nat_tests}
use Rattle.set_numbers.specs.Numbers.{number_in}
use Rattle.set_numbers.proofs.number_in.Goals as goal

pub returns-then-at-set : goal.returns-then-at-set
unfolding number_in
returns-then-at-set c = grind (arith, nat_tests)

pub returns-then-number-end : goal.returns-then-number-end
unfolding number_in
returns-then-number-end c = grind (arith, nat_tests)

pub returns : goal.returns
unfolding number_in
returns c = grind (arith, nat_tests)
