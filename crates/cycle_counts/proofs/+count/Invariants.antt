use Prim.Native.Nat.{◌-◌, ◌≤◌}
use Rattle.graphs.specs.Graphs.{entered_of, next_of, head_of, into_of, between_of, last_of}
use Rattle.cycle_paths.specs.Cycles.{unleft}
use Rattle.state_marks.specs.Marks.{marks_of}
use Rattle.cycle_counts.proofs.CountingLaws.{Counting}
use Rattle.cycle_counts.proofs.+count.Given as goal

-- `count` meets its contract: the entries from row k on are left to be taken from the room, and each turn takes those of one row. The
-- measure of the calls is the number of states not yet left.
abbrev pub invariant-loop-k : goal.invariant-loop-k
invariant-loop-k l =
    (l.rows.start ≤ l.k) × Counting (entered_of l.search.graph.now) (next_of l.search.graph.now) (head_of l.search.graph.now) (into_of l.search.graph.now) (between_of l.search.graph.now) (last_of l.search.graph.now) l.search.start (marks_of 24 l.marks) l.depth l.rows.start l.rows.end l.room l.k l.rest

abbrev pub decreases-loop-k : goal.decreases-loop-k
decreases-loop-k l = l.rows.end - l.k

-- Each call leaves one state more.
abbrev pub decreases-count : goal.decreases-count
decreases-count l = unleft (marks_of 24 l.marks)
