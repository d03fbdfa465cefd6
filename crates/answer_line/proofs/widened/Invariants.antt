-- `widened` meets its contract: after i turns the vector holds the first i rows, whose figures have at most six bytes each.
use mathlib.Core.Path.{◌≡◌}
use lib.ListN.{take}
use Rattle.answer_line.proofs.widened.Given as goal

abbrev pub invariant-loop-row : goal.invariant-loop-row
invariant-loop-row l = l.numbers.items ≡ take l.row-index l.rows
