-- `rows_number` meets its contract: a count of rows is a number of a range.
use mathlib.Core.Path.{◌∙◌}
use native.Mathlib.Omega.{arith}
use Rattle.list_numbers.proofs.CountLaws.{rows_in_range}
use Rattle.list_numbers.proofs.rows_number.Goals as goal

pub number_in-requires : goal.number_in-requires
number_in-requires c = omega (arith, c.rows_end.ensures)

pub returns : goal.returns
returns c = let a = c.args in (rw c.rows_end.ensures at c.number_in.ensures) ∙ rows_in_range a.used a.numbers.now a.at c.requires
