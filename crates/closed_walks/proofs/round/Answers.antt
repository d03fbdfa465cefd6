use mathlib.Core.Path.{◌≡◌, sym, ◌∙◌}
use native.Mathlib.Omega.{arith}
use mir.Syntax.{w16, w64}
use mir.Val.{SFits, to_z, of_z}
use mir.Facts.{to_z-of_z}
use Rattle.edge_lists.specs.EdgeLists.{edge_in}
use Rattle.closed_walks.proofs.RoundLaws.{edges_between, round_starts, round_low, edge_keeps, edge_raises}
use Rattle.closed_walks.proofs.round.Given.{Over}
use Rattle.closed_walks.proofs.round.Goals as goal
use Rattle.closed_walks.proofs.round.Goals.{After-from-w, then-rises, else-rises}

-- The code's weight is that of edge i.
weight_is : {g : Over} (c : goal.After-from-w g) → to_z w64 (of_z w64 c.from-w.result) ≡ (edge_in c.args.edges.list.now c.loop-i.i).weight
weight_is c =
    let small : SFits w16 (edge_in c.args.edges.list.now c.loop-i.i).weight = record { sfits = omega arith } in
    to_z-of_z {w = w64} (record { sfits = c.from-w.type_inv }) ∙ c.from-w.ensures ∙ to_z-of_z small

pub loop-i-init : goal.loop-i-init
loop-i-init g c =
    let a = c.args in
    let ready = c.requires.1 in
    round_starts a.edges.list.now g.row.S a.k a.shorter.now (edges_between c.requires.0 a.edges.within) a.noted.now a.longer.now ready.room ready.zeros ready.square

pub rises-requires : goal.rises-requires
rises-requires g c =
    let a = c.args in
    let ok = edges_between c.requires.0 a.edges.within in
    let ready = c.requires.1 in
    let l = c.loop-i in
    let there = c.loop-i-test.true in
    let low = round_low a.edges.list.now g.row.S a.k a.shorter.now ok a.noted.now l.invariant there ready.low in (
      rw c.from-a.ensures (low (edge_in a.edges.list.now l.i).from (ok.from_in l.i there)),
      rw c.from-b.ensures (ready.low (edge_in a.edges.list.now l.i).to (ok.to_in l.i there)),
      rw (weight_is c) (omega (arith, ok.rise_in l.i there)),
      rw (weight_is c) (omega (arith, ok.fall_in l.i there)),
    )

pub loop-i-preserved : goal.loop-i-preserved
loop-i-preserved g c =
    let a = c.args in
    let ok = edges_between c.requires.0 a.edges.within in
    let ready = c.requires.1 in
    let l = c.loop-i in
    let there = c.loop-i-test.true in
    let left = c.from-a.ensures in
    let entered = c.from-b.ensures in
    let weight = weight_is (goal.at.loop-i-preserved g c).After-from-w in
    let test = rw (left, entered, weight) at c.rises.ensures in
    elim c.if-rises.branch [
      | then-rises w ↦ rw (w.longer-is, w.noted-is, left) (edge_raises a.edges.list.now g.row.S a.k a.shorter.now ok a.noted.now l.invariant there _ (rw (left, entered, weight) at w.raised.ensures) (sym test ∙ w.if-rises.true) ready.within ready.few)
      | else-rises w ↦ rw (w.longer-is, w.noted-is) (edge_keeps a.edges.list.now g.row.S a.k a.shorter.now ok a.noted.now l.invariant there (sym test ∙ w.if-rises.false))
    ]
