use mathlib.Core.Path.{◌≡◌}
use mathlib.Core.List.{[]}
use Rattle.graphs.specs.Graphs.{left_of, entered_of, last_of}
use Rattle.cycle_paths.proofs.FillingLaws.{Adding}
use Rattle.cycle_paths.proofs.ExtensionLaws.{entries_from}
use Rattle.cycle_paths.proofs.list_rows.Given as goal

-- `list_rows` meets its contract: the cycles that begin with one of the rows from `row` on are left to be added.
abbrev pub invariant-loop-row : goal.invariant-loop-row
invariant-loop-row l =
    record {
      no_path : l.path.items ≡ [];
      same_list : l.listing.list.ghost_name ≡ l.initial.listing.list.ghost_name;
      adding : Adding l.initial.listing.list.now 0 (entries_from (left_of l.graph) (entered_of l.graph) l.first (last_of l.graph) l.first) l.listing.used l.listing.list.now (entries_from (left_of l.graph) (entered_of l.graph) l.first (last_of l.graph) l.row);
    }
