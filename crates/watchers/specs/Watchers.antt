-- The lists of a watcher.
use Rattle.watched_runs.specs.Keeping.{Kept}
use Rattle.watchers.specs.declared.Watcher.{Watcher}

-- "It keeps a copy of the file", and what follows a run: the lists of the struct.
abbrev pub kept_in : Watcher → Kept
kept_in s = record { copy = s.copy; table = s.table; sizes = s.sizes; states = s.states; contents = s.contents; counts = s.counts }
