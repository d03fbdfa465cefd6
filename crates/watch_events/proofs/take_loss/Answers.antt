-- `take_loss` meets its contract: each way out is one way to answer the event.
use Rattle.std.proofs.Common.{sym, ◌∙◌}
use Rattle.watched_runs.proofs.EventSteps.{steps_none_lost, steps_lost}
use Rattle.watch_events.proofs.take_loss.Goals as goal

pub returns-then-not-has_message : goal.returns-then-not-has_message
returns-then-not-has_message c = λ table states copy. steps_none_lost _ c.args.t (sym c.has_message.ensures ∙ c.if-not-has_message.true)

pub returns : goal.returns
returns c = λ table states copy. steps_lost _ c.args.t (sym c.has_message.ensures ∙ c.if-not-has_message.false) _ c.remove.ensures
