use mathlib.Core.Path.{◌≡◌, refl, ap, ◌∙◌}
use mathlib.Core.List.{List, [], ◌∷◌, ◌++◌}
use Prim.Native.Nat.{ℕ, ◌-◌, ◌<◌, ◌≤◌}
use native.Mathlib.Omega.{arith}
use lib.ListN.{length, take, length-append}
use lib.Seq.{take-append_seam}
use Rattle.std.proofs.Common.{lit<}
use Rattle.graphs.specs.Graphs.{entered_of, last_of}
use Rattle.cycle_paths.specs.Cycles.{unleft}
use Rattle.state_marks.specs.Marks.{column, marks_of}
use Rattle.state_marks.proofs.MarkLaws.{marks_length}
use Rattle.cycle_paths.proofs.ExtensionLaws.{extending_ends, extending_skip, close_adds, enter_adds, extending_row, extending_stops, closed_unleft}
use Rattle.cycle_paths.proofs.SearchLaws.{state_entered}
use Rattle.cycle_paths.proofs.+extend.Goals as goal
use Rattle.cycle_paths.proofs.+extend.Goals.{At-loop-k, In-loop-k, in-Skip, in-Close+in_ok-add_cycle-in-Close, in-Enter+in_ok-added-in-Enter}

-- Row k is one of the linked rows,
row_in : (t : ℕ) (c : goal.In-loop-k t) → (c.requires.first ≤ c.loop-k.k) × (c.loop-k.k < last_of c.args.search.graph.now)
row_in t c =
    let p = c.requires in
    (omega (arith, p.low_in, c.loop-k.invariant.low_in), omega (arith, p.high_in, c.loop-k-test.true))

-- and so it enters a state below 24.
state_in : (t : ℕ) (c : goal.In-loop-k t) → column (entered_of c.args.search.graph.now) c.loop-k.k < 24
state_in t c = let r = row_in t c in c.requires.enter.below_24 c.loop-k.k r.0 r.1

-- Without its last row a path is as it was.
popped : (rows : List ℕ) (k : ℕ) {longer after : List ℕ} → longer ≡ rows ++ (k ∷ []) → after ≡ take (length longer - 1) longer → after ≡ rows
popped rows k {longer} {after} longer-is rest =
    let n : length longer - 1 ≡ length rows = omega (arith, ap length longer-is, length-append rows (k ∷ [])) in
    rest ∙ (rw (n, longer-is) (take-append_seam rows (k ∷ [])))

-- No more of the list is used than it has.
so_far : (t : ℕ) (c : goal.At-loop-k t) → c.loop-k.listing.used ≤ length c.args.listing.now.list.now
so_far t c = let p = c.requires in (c.loop-k.invariant.extending.adds p.left p.first p.links p.from p.low_in).in_room

pub push-requires : goal.push-requires
push-requires t c =
    let f = (state_entered (entered_of c.args.search.graph.now) c.args.search.start c.args.marks c.loop-k.k c.step_of.ensures (state_in t (goal.at.push-requires t c).In-loop-k) c.in-Enter.is).1 in
    let kept = ap length c.loop-k.invariant.path_kept in
    (lit< tt, omega (arith, f, c.requires.fits, kept))

pub extend-added-requires : goal.extend-added-requires
extend-added-requires t c =
    let p = c.requires in
    let i = c.loop-k.invariant in
    let g = state_entered (entered_of c.args.search.graph.now) c.args.search.start c.args.marks c.loop-k.k c.step_of.ensures (state_in t (goal.at.extend-added-requires t c).In-loop-k) c.in-Enter.is in
    let f = g.1 in
    let h = p.links.head_in c.in-Enter.state g.0 in
    let e = c.head_of.ensures in
    let last = c.last_of.ensures in
    let marked = ap unleft c.with_left-marked.ensures in
    let closed = closed_unleft _ _ c.with_left-marked.result c.after_leaving-closed.result c.after_leaving-closed.ensures in
    let longer = c.push.ensures.len in
    let kept = ap length i.path_kept in (
      omega (arith, c.decreases, f, marked, closed),
      record {
        left = p.left;
        first = p.first;
        links = p.links;
        enter = p.enter;
        from = p.from;
        start_in = p.start_in;
        low_in = omega (arith, e, h.0);
        ordered = omega (arith, e, h.1, last);
        high_in = omega (arith, last);
        fits = omega (arith, p.fits, f, marked, closed, longer, kept);
        pos_in = omega (arith, i.same_length, so_far t (goal.at.extend-added-requires t c).At-loop-k);
        room_in = omega (arith, i.same_length, p.room_in);
      },
    )

pub returns-in_err-add_cycle-in-Close-clause-extended_in :
    goal.returns-in_err-add_cycle-in-Close-clause-extended_in
returns-in_err-add_cycle-in-Close-clause-extended_in t c =
    let l = c.loop-k in
    rw c.from_residual.ensures
    (extending_stops l.invariant.extending l.invariant.low_in c.loop-k-test.true c.requires.high_in c.step_of.ensures refl _
    (close_adds l.invariant.extending l.invariant.low_in c.loop-k-test.true c.requires.high_in c.step_of.ensures refl c.in-Close.is (c.as_slice.ensures.value ∙ l.invariant.path_kept) c.in_err-add_cycle-in-Close.ensures.added))

pub returns-in_err-added-in-Enter-clause-extended_in :
    goal.returns-in_err-added-in-Enter-clause-extended_in
returns-in_err-added-in-Enter-clause-extended_in t c =
    let g = state_entered (entered_of c.args.search.graph.now) c.args.search.start c.args.marks c.loop-k.k c.step_of.ensures (state_in t (goal.at.returns-in_err-added-in-Enter-clause-extended_in t c).In-loop-k) c.in-Enter.is in
    let l = c.loop-k in
    let marked = c.with_left-marked in
    let closed = c.after_leaving-closed in
    rw c.from_residual-in_err-added-in-Enter.ensures
    (extending_stops l.invariant.extending l.invariant.low_in c.loop-k-test.true c.requires.high_in c.step_of.ensures refl _
    (enter_adds l.invariant.extending l.invariant.low_in c.loop-k-test.true c.requires.high_in c.step_of.ensures refl c.in-Enter.state c.in-Enter.is g.0 g.1 c.head_of.result c.head_of.ensures (marks_of 24 marked.result) (marks_of 24 closed.result) marked.ensures (marks_length 24 marked.result) (marks_length 24 closed.result) closed.ensures c.last_of.result c.last_of.ensures
    (c.push.ensures.items ∙ ap (λ (z : List ℕ). z ++ (l.k ∷ [])) l.invariant.path_kept) c.in_err-added-in-Enter.ensures.extended_in))

pub loop-k-preserved : goal.loop-k-preserved
loop-k-preserved t c =
    let a = c.args in
    let p = c.requires in
    let l = c.loop-k in
    let i = l.invariant in
    let h = c.loop-k-test.true in
    let step = c.step_of.ensures in
    let next = c.next_of-k.ensures in
    let r = row_in t (goal.at.loop-k-preserved t c).In-loop-k in
    let low : a.rows.start ≤ c.next_of-k.result = omega (arith, i.low_in, next, p.links.next_later l.k r.0 r.1) in
    elim c.match-step_of.branch [
      | in-Skip w ↦ rw (w.path-is, w.listing-is)
          record { low_in = low; path_kept = i.path_kept; same_list = i.same_list; same_length = i.same_length; extending = extending_skip i.extending i.low_in h p.high_in step next w.in-Skip.is }
      | in-Close+in_ok-add_cycle-in-Close w ↦
          let e = w.in_ok-add_cycle-in-Close.ensures in
          let added = close_adds i.extending i.low_in h p.high_in step next w.in-Close.is (w.as_slice.ensures.value ∙ i.path_kept) e.added in
          rw (w.path-is, w.listing-is)
          record { low_in = low; path_kept = i.path_kept; same_list = e.same_list ∙ i.same_list; same_length = e.same_length ∙ i.same_length; extending = extending_row i.extending i.low_in h p.high_in step next e.same_length added }
      | in-Enter+in_ok-added-in-Enter w ↦
          let g = state_entered (entered_of c.args.search.graph.now) c.args.search.start c.args.marks c.loop-k.k step (state_in t (goal.at.loop-k-preserved t c).In-loop-k) w.in-Enter.is in
          let marked = w.with_left-marked in
          let closed = w.after_leaving-closed in
          let e = w.in_ok-added-in-Enter.ensures in
          let longer = w.push.ensures.items ∙ ap (λ (z : List ℕ). z ++ (l.k ∷ [])) i.path_kept in
          let added = enter_adds i.extending i.low_in h p.high_in step next w.in-Enter.state w.in-Enter.is g.0 g.1 w.head_of.result w.head_of.ensures (marks_of 24 marked.result) (marks_of 24 closed.result) marked.ensures (marks_length 24 marked.result) (marks_length 24 closed.result) closed.ensures w.last_of.result w.last_of.ensures longer e.extended_in in
          rw (w.path-is, w.listing-is)
          record { low_in = low; path_kept = popped a.path.now.items l.k (e.path_kept ∙ longer) w.pop.ensures.rest; same_list = e.same_list ∙ i.same_list; same_length = e.same_length ∙ i.same_length; extending = extending_row i.extending i.low_in h p.high_in step next e.same_length added }
    ]

pub returns-clause-extended_in : goal.returns-clause-extended_in
returns-clause-extended_in t c = extending_ends c.loop-k.invariant.extending (omega arith)
