use Prim.Native.Nat.{ℕ, ◌+◌, ◌-◌, ◌<◌}
use native.Mathlib.Omega.{arith}
use mathlib.Core.List.{[]}
use mathlib.Core.Path.{◌≡◌, refl, sym, subst}
use lib.ListN.{length}
use Rattle.graphs.specs.declared.Graph.{Graph}
use Rattle.graphs.specs.Graphs.{left_of, entered_of, next_of, head_of, into_of, between_of, last_of}
use Rattle.cycle_paths.specs.Cycles.{cycles_through}
use Rattle.cycle_paths.specs.Entries.{all_entries}
use Rattle.cycle_paths.specs.Rows.{Searchable}
use Rattle.cycle_paths.proofs.ExtensionLaws.{searchable_last, entries_end}
use Rattle.cycle_paths.proofs.SearchLaws.{row_entries, unleft_in}
use Rattle.cycle_counts.specs.Pairs.{Between}
use Rattle.cycle_counts.specs.Inner.Counting.{Tables}
use Rattle.cycle_counts.proofs.CountingLaws.{taking_part, taking_ends}
use Rattle.cycle_counts.proofs.count_rows.Goals as goal
use Rattle.cycle_counts.proofs.count_rows.Goals.{After-from_row-search, After-loop-row}

-- The tables of a graph that has its rows, up to the number that it keeps.
tables_of : (graph : Graph) (first last : ℕ) → Searchable graph first last → Between (left_of graph) (entered_of graph) (between_of graph) first last
    → Tables (left_of graph) (entered_of graph) (next_of graph) (head_of graph) (into_of graph) (between_of graph) first (last_of graph)
tables_of graph first last s pairs =
    record {
      links = (searchable_last s).links;
      from = (searchable_last s).from;
      pairs = subst (Between (left_of graph) (entered_of graph) (between_of graph) first) (sym s.last_is) pairs;
    }

-- The state that a row leaves is below 24.
state_in : (c : goal.After-from_row-search) → c.from_row-search.result.start < 24
state_in c = omega (arith, c.from_row-search.ensures.start, c.requires.0.left_in.below_24 c.loop-row.row c.loop-row.auto.row c.loop-row-test.true)

-- At the end all is taken.
all_taken : (c : goal.After-loop-row)
    → c.loop-row.rest ≡ c.args.limit + 1 - length (all_entries (left_of c.args.graph.now) (entered_of c.args.graph.now) c.args.first c.args.last)
unfolding cycles_through
all_taken c =
    let a = c.args in
    let g = a.graph.now in
    let l = c.loop-row in
    let e = c.requires.0.last_is in
    subst
    (λ (z : ℕ). l.rest ≡ a.limit + 1 - length (all_entries (left_of g) (entered_of g) a.first z))
    e
    (taking_ends l.invariant (entries_end (left_of g) (entered_of g) a.first (last_of g) l.row (omega (arith, c.loop-row-test.false, e))))

pub count-rest-requires : goal.count-rest-requires
count-rest-requires c =
    rw c.from_row-search.ensures.graph
    record {
      left = left_of c.args.graph.now;
      first = c.args.first;
      tables = tables_of c.args.graph.now c.args.first c.args.last c.requires.0 c.requires.1;
      enter = (searchable_last c.requires.0).entered_in;
      start_in = state_in (goal.at.count-rest-requires c).After-from_row-search;
      low_in = c.loop-row.auto.row;
      ordered = omega arith;
      high_in = omega (arith, c.loop-row-test.true, c.requires.0.last_is);
      fits = omega (arith, unleft_in c.first_marks.result);
    }

pub loop-row-preserved : goal.loop-row-preserved
loop-row-preserved c =
    let a = c.args in
    let g = a.graph.now in
    let l = c.loop-row in
    let search = c.from_row-search in
    let tables = tables_of g a.first a.last c.requires.0 c.requires.1 in
    let counted = rw search.ensures.graph at c.count-rest.ensures in
    taking_part l.invariant _ _
    (row_entries c.requires.0 _ search.ensures.start (rw search.ensures.graph at c.first_marks.ensures) l.auto.row c.loop-row-test.true)
    _
    (counted [] refl (left_of g) a.first tables l.auto.row)

pub overflow_sub-result : goal.overflow_sub-result
overflow_sub-result c = omega (arith, all_taken c)

pub returns : goal.returns
returns c = omega (arith, all_taken c)
