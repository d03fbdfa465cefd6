use Rattle.std.proofs.Common.{◌≤◌, max}
use Rattle.set_numbers.proofs.NumberLaws.{RowsSoFar}
use Rattle.set_numbers.proofs.rows_in.Given as goal

-- `rows_in` meets its contract: what is still to be read gives, behind what was read, what the whole gives.
abbrev pub invariant-loop-i : goal.invariant-loop-i
invariant-loop-i l = (l.i ≤ max l.at l.stop) × RowsSoFar l.rows l.set l.at l.end l.i
