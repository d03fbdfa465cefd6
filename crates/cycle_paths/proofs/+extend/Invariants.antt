use mathlib.Core.Path.{◌≡◌}
use Prim.Native.Nat.{◌-◌, ◌≤◌}
use lib.ListN.{length}
use Rattle.graphs.specs.Graphs.{entered_of, next_of, head_of, into_of, last_of}
use Rattle.cycle_paths.specs.Cycles.{unleft}
use Rattle.state_marks.specs.Marks.{marks_of}
use Rattle.cycle_paths.proofs.ExtensionLaws.{Extending}
use Rattle.cycle_paths.proofs.+extend.Given as goal

-- `extend` meets its contract: the entries from row k on are left to be added, and each turn adds those of one row. The measure of the
-- calls is the number of states not yet left.
abbrev pub invariant-loop-k : goal.invariant-loop-k
invariant-loop-k l =
    record {
      low_in : l.rows.start ≤ l.k;
      path_kept : l.path.items ≡ l.initial.path.items;
      same_list : l.listing.list.ghost_name ≡ l.initial.listing.list.ghost_name;
      same_length : length l.listing.list.now ≡ length l.initial.listing.list.now;
      extending : Extending (entered_of l.search.graph.now) (next_of l.search.graph.now) (head_of l.search.graph.now) (into_of l.search.graph.now) (last_of l.search.graph.now) l.search.start (marks_of 24 l.marks) l.initial.path.items l.rows.start l.rows.end l.initial.listing.list.now l.initial.listing.used l.k l.listing.used l.listing.list.now;
    }

abbrev pub decreases-loop-k : goal.decreases-loop-k
decreases-loop-k l =
    l.rows.end - l.k

-- Each call leaves one state more.
abbrev pub decreases-extend : goal.decreases-extend
decreases-extend l = unleft (marks_of 24 l.marks)
