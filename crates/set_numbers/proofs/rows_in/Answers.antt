-- `rows_in` meets its contract: each return is one case of the definition, behind the row numbers read so far.
use Rattle.std.proofs.Common.{sym, arith}
use Rattle.set_numbers.proofs.NumberLaws.{number_missing, rows_begin, row_stops, row_goes_on, rows_end}
use Rattle.set_numbers.proofs.rows_in.Goals as goal
use Rattle.set_numbers.proofs.rows_in.Goals.{else-at-end-via-then-at-end+else-stop-end, else-at-end-via-else-at-end}

pub loop-i-init : goal.loop-i-init
loop-i-init c = let a = c.args in (omega arith, rows_begin a.rows a.set.now a.at a.end)

pub returns-in-Err : goal.returns-in-Err
returns-in-Err c =
    let a = c.args in
    row_stops a.rows a.set.now a.at a.end c.loop-i.i (omega arith) c.loop-i.invariant.1 (omega arith) _ _ (sym c.in-Err.ensures)

pub loop-i-preserved : goal.loop-i-preserved
loop-i-preserved c =
    let a = c.args in
    (omega arith, row_goes_on a.rows a.set.now a.at a.end c.loop-i.i (omega arith) c.loop-i.invariant.1 (omega arith) _ _ (sym c.in_default.ensures))

pub returns-then-stop-end : goal.returns-then-stop-end
returns-then-stop-end c =
    let a = c.args in
    let i = c.loop-i.i in
    row_stops a.rows a.set.now a.at a.end i (omega arith) c.loop-i.invariant.1 (omega arith) _ _ (sym (number_missing 0 a.rows a.set.now i (omega arith)))

pub returns-else-at-end : goal.returns-else-at-end
returns-else-at-end c =
    let a = c.args in
    rows_end a.rows a.set.now a.at a.end c.loop-i.i (omega arith) c.loop-i.invariant.1
    (elim c.else-at-end.branch [
      | else-at-end-via-then-at-end+else-stop-end w ↦ omega arith
      | else-at-end-via-else-at-end w ↦ omega arith
    ])
