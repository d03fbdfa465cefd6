use mathlib.Core.Path.{ap, ◌∙◌}
use Prim.Native.Nat.{◌<◌}
use native.Mathlib.Omega.{arith}
use Rattle.std.proofs.Common.{rules}
use lib.ListN.{length}
use Rattle.graphs.specs.Graphs.{left_of, entered_of, last_of}
use Rattle.cycle_paths.specs.Cycles.{cycles_through}
use Rattle.cycle_paths.proofs.FillingLaws.{adding_part, adding_ends, adding_stops, added_named}
use Rattle.cycle_paths.proofs.ExtensionLaws.{searchable_last, entries_end}
use Rattle.cycle_paths.proofs.SearchLaws.{RowEntries, row_entries, unleft_in}
use Rattle.cycle_paths.proofs.list_rows.Goals as goal
use Rattle.cycle_paths.proofs.list_rows.Goals.{After-from_row-search, After-first_marks-marks}

-- The state that a row leaves is below 24.
state_in : (c : goal.After-from_row-search) → c.from_row-search.result.start < 24
state_in c = omega (arith, c.from_row-search.ensures.start, c.requires.0.left_in.below_24 c.loop-row.row c.loop-row.auto.row c.loop-row-test.true)

-- What is left at a row is what its search adds, and what is left at the next row.
first_part : (c : goal.After-first_marks-marks) → RowEntries c.args.graph.now c.args.first c.loop-row.row c.from_row-search.result.start c.first_marks-marks.result
first_part c = row_entries c.requires.0 _ c.from_row-search.ensures.start (rw c.from_row-search.ensures.graph at c.first_marks-marks.ensures) c.loop-row.auto.row c.loop-row-test.true

pub extend-requires : goal.extend-requires
extend-requires c =
    let p = searchable_last c.requires.0 in
    let g = c.loop-row.invariant.adding in
    rw c.from_row-search.ensures.graph
    record {
      left = left_of c.args.graph.now;
      first = c.args.first;
      links = p.links;
      enter = p.entered_in;
      from = p.from;
      start_in = state_in (goal.at.extend-requires c).After-from_row-search;
      low_in = c.loop-row.auto.row;
      ordered = omega arith;
      high_in = omega (arith, c.loop-row-test.true, c.requires.0.last_is);
      fits = omega (arith, unleft_in c.first_marks-marks.result, ap length c.loop-row.invariant.no_path);
      pos_in = omega (arith, g.same_length, g.in_room);
      room_in = omega (arith, g.same_length, c.requires.1);
    }

pub returns-in_err-extend : goal.returns-in_err-extend
unfolding cycles_through
returns-in_err-extend c =
    let g = c.args.graph.now in
    let p = searchable_last c.requires.0 in
    let added = rw (c.from_row-search.ensures.graph, c.loop-row.invariant.no_path) at c.in_err-extend.ensures.extended_in in
    rw (c.from_residual.ensures, ← c.requires.0.last_is)
    (adding_stops c.loop-row.invariant.adding _ _ (first_part (goal.at.returns-in_err-extend c).After-first_marks-marks) _ (added (left_of g) c.args.first p.links p.from c.loop-row.auto.row))

pub loop-row-preserved : goal.loop-row-preserved
loop-row-preserved c =
    let g = c.args.graph.now in
    let p = searchable_last c.requires.0 in
    let i = c.loop-row.invariant in
    let e = c.in_ok-extend.ensures in
    let added = rw (c.from_row-search.ensures.graph, i.no_path) at e.extended_in in
    record {
      no_path = e.path_kept ∙ i.no_path;
      same_list = e.same_list ∙ i.same_list;
      adding = adding_part i.adding _ _ (first_part (goal.at.loop-row-preserved c).After-first_marks-marks) e.same_length (added (left_of g) c.args.first p.links p.from c.loop-row.auto.row);
    }

pub returns : goal.returns
unfolding cycles_through
returns c =
    let g = c.args.graph.now in
    let ends = entries_end (left_of g) (entered_of g) c.args.first (last_of g) c.loop-row.row (omega (arith, c.loop-row-test.false, c.requires.0.last_is)) in
    rw (← c.requires.0.last_is) (added_named (search rules) (adding_ends c.loop-row.invariant.adding ends))
