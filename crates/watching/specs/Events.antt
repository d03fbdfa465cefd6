-- The events that a watcher takes, as those of the theory.
use Rattle.livelock.specs.Runs as Runs
use Rattle.watching.specs.declared.Event.{Event}
use Rattle.watching.specs.declared.Event.TheVariants as Variants

-- "An event is a row, given by its number, or a loss, given by its type"; or a doubling, by its type too.
abbrev pub event_of : Event → Runs.Event
event_of (Variants.Row k) = Runs.row k
event_of (Variants.Loss t) = Runs.loss t
event_of (Variants.Doubling t) = Runs.doubling t
