-- `number_in` meets its contract: the number is missing, or outside its range, or found.
use native.Mathlib.Omega.{arith}
use borrow.Author.Tests.{le-leb, lt-leb, lt-ltb, le-ltb}
use Rattle.plant.specs.Reading.{in_range}
use Rattle.plant_lists.proofs.NumberLaws.{number_missing, number_fails, number_passes}
use Rattle.list_numbers.proofs.number_in.Goals as goal
use Rattle.list_numbers.proofs.number_in.Goals.{else-low-number-via-then-low-number+else-number-end, else-low-number-via-else-low-number}

pub returns-then-numbers-at : goal.returns-then-numbers-at
returns-then-numbers-at c = let a = c.args in number_missing (in_range a.low a.end) a.numbers.now a.at (omega arith)

pub returns-then-number-end : goal.returns-then-number-end
returns-then-number-end c =
    let a = c.args in
    number_passes (in_range a.low a.end) a.numbers.now a.at (omega (arith, c.if-numbers-at.false)) (rw (le-leb _ _ c.if-low-number.true, lt-ltb _ _ c.if-number-end.true))

pub returns : goal.returns
returns c =
    let a = c.args in
    number_fails (in_range a.low a.end) a.numbers.now a.at (omega (arith, c.if-numbers-at.false))
    (elim c.else-low-number.branch [
      | else-low-number-via-then-low-number+else-number-end w ↦ rw (le-leb _ _ w.if-low-number.true, le-ltb _ _ w.if-number-end.false)
      | else-low-number-via-else-low-number w ↦ rw (lt-leb _ _ w.if-low-number.false)
    ])
