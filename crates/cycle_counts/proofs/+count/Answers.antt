use mathlib.Core.Path.{ap}
use Prim.Native.Nat.{ℕ, ◌-◌, ◌<◌, ◌≤◌}
use native.Mathlib.Omega.{arith}
use Rattle.graphs.specs.Graphs.{entered_of, last_of}
use Rattle.cycle_paths.specs.Cycles.{unleft}
use Rattle.state_marks.specs.Marks.{column, marks_of}
use Rattle.state_marks.proofs.MarkLaws.{marks_length}
use Rattle.cycle_paths.proofs.ExtensionLaws.{closed_unleft}
use Rattle.cycle_paths.proofs.SearchLaws.{state_entered}
use Rattle.cycle_counts.proofs.CountingLaws.{counting_named, counting_ends, counting_skip, counting_close, counting_enter, onward_counted, onward_closing}
use Rattle.cycle_counts.proofs.BetweenLaws.{between_few, all_marked}
use Rattle.cycle_counts.proofs.+count.Goals as goal
use Rattle.cycle_counts.proofs.+count.Goals.{In-loop-k, in-Skip, in-Close, in-Enter+then-closed-eq-ALL, in-Enter+else-closed-eq-ALL}

-- Row k is one of the linked rows,
row_in : (t : ℕ) (c : goal.In-loop-k t) → (c.requires.first ≤ c.loop-k.k) × (c.loop-k.k < last_of c.args.search.graph.now)
row_in t c =
    let p = c.requires in
    (omega (arith, p.low_in, c.loop-k.invariant.0), omega (arith, p.high_in, c.loop-k-test.true))

-- and so it enters a state below 24.
state_in : (t : ℕ) (c : goal.In-loop-k t) → column (entered_of c.args.search.graph.now) c.loop-k.k < 24
state_in t c = let r = row_in t c in c.requires.enter.below_24 c.loop-k.k r.0 r.1

pub take_closing-rest-requires : goal.take_closing-rest-requires
take_closing-rest-requires t c =
    let p = c.requires in
    let g = state_entered (entered_of c.args.search.graph.now) c.args.search.start c.args.marks c.loop-k.k c.step_of.ensures (state_in t (goal.at.take_closing-rest-requires t c).In-loop-k) c.in-Enter.is in
    let s = c.in-Enter.state in
    let known = p.tables.pairs.known s _ g.0 p.start_in in
    let few = between_few p.left (entered_of c.args.search.graph.now) s c.args.search.start p.first (last_of c.args.search.graph.now - p.first) in
    (g.0, p.start_in, omega (arith, p.fits, g.1), omega (arith, known, few, p.enter.few))

pub count-rest-requires : goal.count-rest-requires
count-rest-requires t c =
    let p = c.requires in
    let g = state_entered (entered_of c.args.search.graph.now) c.args.search.start c.args.marks c.loop-k.k c.step_of.ensures (state_in t (goal.at.count-rest-requires t c).In-loop-k) c.in-Enter.is in
    let h = p.tables.links.head_in c.in-Enter.state g.0 in
    let e = c.head_of.ensures in
    let last = c.last_of.ensures in
    let marked = c.with_left-marked in
    let closed = c.after_leaving-closed in
    let fewer = closed_unleft _ _ marked.result closed.result closed.ensures in (
      omega (arith, c.decreases, g.1, ap unleft marked.ensures, fewer),
      record {
        left = p.left;
        first = p.first;
        tables = p.tables;
        enter = p.enter;
        start_in = p.start_in;
        low_in = omega (arith, e, h.0);
        ordered = omega (arith, e, h.1, last);
        high_in = omega (arith, last);
        fits = omega (arith, p.fits, g.1, ap unleft marked.ensures, fewer);
      },
    )

pub loop-k-preserved : goal.loop-k-preserved
loop-k-preserved t c =
    let a = c.args in
    let p = c.requires in
    let l = c.loop-k in
    let h = c.loop-k-test.true in
    let step = c.step_of.ensures in
    let next = c.next_of-k.ensures in
    let r = row_in t (goal.at.loop-k-preserved t c).In-loop-k in
    let low : a.rows.start ≤ c.next_of-k.result = omega (arith, l.invariant.0, next, p.tables.links.next_later l.k r.0 r.1) in
    elim c.match-step_of.branch [
      | in-Skip w ↦ (low, counting_named _ w.rest-is (counting_skip l.invariant.1 l.invariant.0 h p.high_in step next w.in-Skip.is))
      | in-Close w ↦ (low, counting_named _ w.rest-is (counting_close l.invariant.1 l.invariant.0 h p.high_in step next w.in-Close.is _ w.saturating_sub-rest.ensures))
      | in-Enter+then-closed-eq-ALL w ↦
          let g = state_entered (entered_of c.args.search.graph.now) c.args.search.start c.args.marks c.loop-k.k step (state_in t (goal.at.loop-k-preserved t c).In-loop-k) w.in-Enter.is in
          let marked = w.with_left-marked in
          let closed = w.after_leaving-closed in
          let onward =
          onward_closing (marks_of 24 a.marks) a.depth w.in-Enter.state g.0 (marks_of 24 marked.result) (marks_of 24 closed.result) marked.ensures (marks_length 24 marked.result) (marks_length 24 closed.result) closed.ensures
          p.start_in (λ x b. all_marked closed.result x (omega (arith, w.if-closed-eq-ALL.true)) b) _ _ w.take_closing-rest.ensures in
          (low, counting_named _ w.rest-is (counting_enter l.invariant.1 l.invariant.0 h p.high_in step next w.in-Enter.state w.in-Enter.is g.0 g.1 _ onward))
      | in-Enter+else-closed-eq-ALL w ↦
          let g = state_entered (entered_of c.args.search.graph.now) c.args.search.start c.args.marks c.loop-k.k step (state_in t (goal.at.loop-k-preserved t c).In-loop-k) w.in-Enter.is in
          let marked = w.with_left-marked in
          let closed = w.after_leaving-closed in
          let onward =
          onward_counted (marks_of 24 a.marks) a.depth w.in-Enter.state g.0 (marks_of 24 marked.result) (marks_of 24 closed.result) marked.ensures (marks_length 24 marked.result) (marks_length 24 closed.result) closed.ensures
          w.head_of.result w.last_of.result w.head_of.ensures w.last_of.ensures _ _ w.count-rest.ensures in
          (low, counting_named _ w.rest-is (counting_enter l.invariant.1 l.invariant.0 h p.high_in step next w.in-Enter.state w.in-Enter.is g.0 g.1 _ onward))
    ]

pub returns : goal.returns
returns t c = counting_ends c.loop-k.invariant.1 (omega arith)
