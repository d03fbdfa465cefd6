-- `take_doubling` meets its contract: each way out is one way to answer the event.
use Rattle.std.proofs.Common.{sym, ◌∙◌}
use Rattle.plant.proofs.Exits.{handed_on}
use Rattle.configurations.proofs.RowLaws.{with_room}
use Rattle.watched_runs.proofs.EventSteps.{steps_none_doubled}
use Rattle.watch_events.proofs.StepLaws.{doubling_late, doubling_taken}
use Rattle.watch_events.proofs.take_doubling.Goals as goal

pub returns-then-not-has_message : goal.returns-then-not-has_message
returns-then-not-has_message c = λ table states copy. steps_none_doubled _ c.args.t (sym c.has_message.ensures ∙ c.if-not-has_message.true)

pub returns-in_err-count_event : goal.returns-in_err-count_event
returns-in_err-count_event c =
    let held = sym c.has_message.ensures ∙ c.if-not-has_message.false in
    λ table states copy. rw (handed_on _ c.from_residual.ensures.1) (doubling_late _ c.args.t held _ _ c.in_err-count_event.ensures)

pub returns : goal.returns
returns c =
    let held = sym c.has_message.ensures ∙ c.if-not-has_message.false in
    λ table states copy. doubling_taken _ c.args.t held _ _ c.in_ok-count_event.ensures (with_room _ _ _ c.add.ensures)
