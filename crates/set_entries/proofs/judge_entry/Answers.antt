-- `judge_entry` meets its contract: each return is one case of the definition.
use Rattle.std.proofs.Common.{Ok, Err, sym, arith}
use Rattle.plant.proofs.Exits.{handed_on}
use Rattle.set_entries.proofs.EntryLaws.{three_read, count_read, numbers_stop, rows_stop, numbers_read, rows_counted, rows_there, entry_judged}
use Rattle.set_entries.proofs.judge_entry.Goals as goal

pub returns-in_err-head-clause-entry : goal.returns-in_err-head-clause-entry
returns-in_err-head-clause-entry c =
    let a = c.args in
    rw (handed_on _ c.from_residual.ensures.1) (numbers_stop a.table.now a.rows a.machines a.set.now a.first _ _ (sym c.in_err-head.ensures.rows))

pub overflow_add-end : goal.overflow_add-end
overflow_add-end c =
    let n = three_read _ _ _ _ _ (sym c.in_ok-head.ensures.rows) in
    omega (arith, n.1, c.in_ok-head.ensures.head.rows_are, (count_read _ _ _ n.0).below_end, c.requires.0)

pub returns-in_err-rows_in-clause-entry : goal.returns-in_err-rows_in-clause-entry
returns-in_err-rows_in-clause-entry c =
    let a = c.args in
    let h = c.in_ok-head.ensures in
    let n = three_read _ _ _ _ _ (sym h.rows) in
    rw (handed_on _ c.from_residual-in_err-rows_in.ensures.1) (rows_stop a.table.now a.rows a.machines a.set.now a.first n.0 _ _ (rw (n.1, h.head.rows_are) at (sym c.in_err-rows_in.ensures)))

pub slice_bounds-entry-end : goal.slice_bounds-entry-end
slice_bounds-entry-end c = let h = c.in_ok-head.ensures in (numbers_read c.args.rows _ _ _ _ _ (sym h.rows) h.head (sym c.in_ok-rows_in.ensures)).below.there

pub offset_bounds-set-head : goal.offset_bounds-set-head
offset_bounds-set-head c =
    let n = three_read _ _ _ _ _ (sym c.in_ok-head.ensures.rows) in
    omega (arith, n.1, c.requires.0)

pub invariant_of-entry : goal.invariant_of-entry
invariant_of-entry c =
    let h = c.in_ok-head.ensures in
    let r = numbers_read c.args.rows _ _ _ _ _ (sym h.rows) h.head (sym c.in_ok-rows_in.ensures) in
    record {
      there = rows_there _ _ _ _ _ _ r c.args.table.now c.requires.1;
      few_rows = omega (arith, rows_counted _ _ _ _ _ _ r, r.few_rows);
      few_repeats = omega (arith, r.few_repeats, r.few_rows);
    }

pub entry_ends-requires : goal.entry_ends-requires
entry_ends-requires c =
    let h = c.in_ok-head.ensures in
    let r = numbers_read c.args.rows _ _ _ _ _ (sym h.rows) h.head (sym c.in_ok-rows_in.ensures) in
    omega (arith, rows_counted _ _ _ _ _ _ r, r.some_row)

pub returns-in_err-entry_ends-clause-entry : goal.returns-in_err-entry_ends-clause-entry
returns-in_err-entry_ends-clause-entry c =
    let h = c.in_ok-head.ensures in
    let r = numbers_read c.args.rows _ _ _ _ _ (sym h.rows) h.head (sym c.in_ok-rows_in.ensures) in
    rw (handed_on _ c.from_residual-in_err-entry_ends.ensures.1) (entry_judged _ _ _ _ _ _ r c.args.table.now (Err _) c.in_err-entry_ends.ensures)

pub returns-clause-entry : goal.returns-clause-entry
returns-clause-entry c =
    let h = c.in_ok-head.ensures in
    let r = numbers_read c.args.rows _ _ _ _ _ (sym h.rows) h.head (sym c.in_ok-rows_in.ensures) in
    entry_judged _ _ _ _ _ _ r c.args.table.now (Ok tt) c.in_ok-entry_ends.ensures
