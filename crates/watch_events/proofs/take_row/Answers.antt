-- `take_row` meets its contract: each way out is one way to answer the event.
use Rattle.std.proofs.Common.{sym, ◌∙◌}
use Rattle.plant.proofs.Exits.{handed_on}
use Rattle.watched_runs.proofs.EventSteps.{steps_no_row, steps_cannot}
use Rattle.watch_events.proofs.StepLaws.{held_row, row_late, row_taken}
use Rattle.watch_events.proofs.take_row.Goals as goal

pub returns-then-not-has_row : goal.returns-then-not-has_row
returns-then-not-has_row c = λ copy. steps_no_row _ c.args.k (sym c.has_row.ensures ∙ c.if-not-has_row.true)

pub returns-then-not-row_can : goal.returns-then-not-row_can
returns-then-not-row_can c =
    let a = c.args in
    let l = held_row a.sizes.now a.k (sym c.has_row.ensures ∙ c.if-not-has_row.false) in
    λ copy. steps_cannot _ a.k l.0 _ c.row_in-row.ensures _ c.row_can.ensures c.if-not-row_can.true

pub returns-in_err-count_row : goal.returns-in_err-count_row
returns-in_err-count_row c =
    let held = sym c.has_row.ensures ∙ c.if-not-has_row.false in
    let can = rw c.if-not-row_can.false at c.row_can.ensures in
    λ copy. rw (handed_on _ c.from_residual.ensures.1) (row_late _ c.args.k held _ c.row_in-row.ensures can _ _ c.in_err-count_row.ensures)

pub returns : goal.returns
returns c =
    let held = sym c.has_row.ensures ∙ c.if-not-has_row.false in
    let can = rw c.if-not-row_can.false at c.row_can.ensures in
    λ copy. row_taken _ c.args.k held _ c.row_in-row.ensures can _ _ _ c.in_ok-count_row.ensures c.move_row.ensures
