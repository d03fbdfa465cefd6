-- `add_entry` meets its contract: after each row, the rows so far are added.
use Rattle.std.proofs.Common.{◌^◌, arith, rules, ap, length-take, get_or, nat_abs}
use Rattle.std.proofs.lemmas.List.{take_more}
use Rattle.livelock.specs.Plants.{Row}
use Rattle.set_sums.proofs.SizeLaws.{size_neg, times_is, less_is}
use Rattle.set_sums.proofs.AddingLaws.{none_added, sent_small, row_stored}
use Rattle.set_sums.proofs.add_entry.Goals as goal

pub loop-k-init : goal.loop-k-init
loop-k-init c = none_added c.args.entry.table.now c.args.entry.repeats c.args.sums.now (omega arith)

pub add_to-requires : goal.add_to-requires
add_to-requires c =
    let e = c.args.entry in
    let l = c.loop-k in (
      search rules,
      λ i. omega (arith, l.invariant.within (2 ^ 61) c.requires i, length-take l.k-index e.rows.now, c.loop-k-test.true, e.few_rows),
      omega (arith, ap nat_abs (times_is _ e.repeats c.from-times.ensures e.few_repeats), e.few_repeats),
    )

pub add_to-requires-in-loop-k : goal.add_to-requires-in-loop-k
add_to-requires-in-loop-k c =
    let e = c.args.entry in
    let l = c.loop-k in (
      search rules,
      sent_small e.table.now e.repeats e.few_repeats _ c.args.sums.now l.sums l.invariant c.requires (omega (arith, length-take l.k-index e.rows.now, c.loop-k-test.true, e.few_rows)) _ _ (search rules) (times_is _ e.repeats c.from-times.ensures e.few_repeats) _ c.add_to.ensures,
      omega (arith, ap nat_abs (less_is _ e.repeats c.from-times.ensures e.few_repeats), size_neg e.repeats, e.few_repeats),
    )

pub loop-k-preserved : goal.loop-k-preserved
loop-k-preserved c =
    let e = c.args.entry in
    let l = c.loop-k in
    let r = c.row_in.result.fields in
    let sends = ap (λ (r : Row). r.sent) c.row_in.ensures in
    let takes = ap (λ (r : Row). r.taken) c.row_in.ensures in
    rw (take_more e.rows.now l.k-index 0 c.loop-k-test.true)
    (row_stored e.table.now e.repeats e.few_repeats _ c.args.sums.now l.sums l.invariant (get_or e.rows.now l.k-index 0) _ _ sends takes r.types.0 r.types.1 _ _
    (times_is _ e.repeats c.from-times.ensures e.few_repeats) (less_is _ e.repeats c.from-times.ensures e.few_repeats) _ _ c.add_to.ensures c.add_to-in-loop-k.ensures)
