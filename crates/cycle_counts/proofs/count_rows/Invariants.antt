use Rattle.graphs.specs.Graphs.{left_of, entered_of, last_of}
use Rattle.cycle_paths.proofs.ExtensionLaws.{entries_from}
use Rattle.cycle_counts.proofs.CountingLaws.{Taking}
use Rattle.cycle_counts.proofs.count_rows.Given as goal

-- `count_rows` meets its contract: the entries of the cycles that begin with one of the rows from `row` on are left to be taken from the room.
abbrev pub invariant-loop-row : goal.invariant-loop-row
invariant-loop-row l =
    Taking l.room (entries_from (left_of l.graph) (entered_of l.graph) l.first (last_of l.graph) l.first) l.rest (entries_from (left_of l.graph) (entered_of l.graph) l.first (last_of l.graph) l.row)
