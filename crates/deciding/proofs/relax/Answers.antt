use Prim.Native.Nat.{ℕ}
use lib.ListN.{length}
use Rattle.livelock.specs.Graphs.{lengthened}
use Rattle.deciding.specs.Rounds.{edge_graph, Pass}
use Rattle.std.proofs.Common.{subst}
use Rattle.std.specs.Prelude.{Some}
use mathlib.Core.Path.{◌≡◌, sym, ◌∙◌}
use lib.IntN.{pos, ◌+ℤ◌, ◌*ℤ◌}
use native.Mathlib.Omega.{arith}
use mir.Syntax.{w16, w64}
use mir.Val.{SFits, to_z, of_z}
use mir.Facts.{to_z-of_z}
use Rattle.edge_lists.specs.EdgeLists.{edge_in}
use Rattle.deciding.proofs.DecisionLaws.{length_low, pass_low, edge_keeps, edge_raises, pass_some, pass_none}
use Rattle.deciding.proofs.relax.Goals as goal
use Rattle.deciding.proofs.relax.Goals.{After-row_length-length, After-loop-i, then-rises, else-rises}

-- The code's length is that of edge i.
length_is : (c : goal.After-row_length-length)
    → to_z w64 (of_z w64 c.row_length-length.result) ≡ pos 1 +ℤ pos c.args.n *ℤ (edge_in c.args.edges.list.now c.loop-i.i).weight
length_is c =
    let small : SFits w16 (edge_in c.args.edges.list.now c.loop-i.i).weight = record { sfits = omega arith } in
    let fit = to_z-of_z {w = w64} {z = c.from.result} (record { sfits = c.from.type_inv }) in
    to_z-of_z {w = w64} (record { sfits = c.row_length-length.type_inv }) ∙ (rw (fit, c.from.ensures, to_z-of_z small) at c.row_length-length.ensures)

pub rises-requires : goal.rises-requires
rises-requires c =
    let a = c.args in
    let ok = a.edges.within in
    let l = c.loop-i in
    let there = c.loop-i-test.true in
    let short = length_low a.n (edge_in a.edges.list.now l.i).weight c.requires.1 (ok.rise_in l.i there) (ok.fall_in l.i there) in
    let low = pass_low a.n a.edges.list.now c.requires.1 l.i there a.heights.now l.heights ok c.requires.0 l.invariant.0 l.invariant.1 c.requires.2 in
    (omega (arith, low c.from-a.result), low c.from-b.result, rw (length_is c) short.0, rw (length_is c) short.1)

pub raised-requires : goal.raised-requires
raised-requires c = rises-requires (goal.at.raised-requires c).After-row_length-length

pub loop-i-preserved : goal.loop-i-preserved
loop-i-preserved c =
    let a = c.args in
    let l = c.loop-i in
    let there = c.loop-i-test.true in
    let left = c.from-a.ensures in
    let entered = c.from-b.ensures in
    let long = length_is (goal.at.loop-i-preserved c).After-row_length-length in
    let test = rw (left, entered, long) at c.rises.ensures in
    elim c.if-rises.branch [
      | then-rises w ↦ (Some l.i, rw (w.heights-is, left) (edge_raises a.n a.edges.list.now c.requires.1 l.i there a.heights.now l.heights a.edges.within c.requires.0 l.invariant.0 l.invariant.1 (sym test ∙ w.if-rises.true) _ (rw (left, entered, long) at w.raised.ensures)), w.last-is)
      | else-rises w ↦ (l.invariant.0, rw w.heights-is (edge_keeps a.n a.edges.list.now c.requires.1 l.i there a.heights.now l.heights a.edges.within c.requires.0 l.invariant.0 l.invariant.1 (sym test ∙ w.if-rises.false)), w.last-is ∙ l.invariant.2)
    ]

-- After the last turn every edge is relaxed.
whole : (c : After-loop-i) → Pass (lengthened c.args.n (edge_graph c.args.edges.list.now)) (length c.args.edges.list.now) c.args.heights.now c.loop-i.heights c.loop-i.invariant.0
whole c =
    let a = c.args in
    let done : c.loop-i.i ≡ length a.edges.list.now = omega arith in
    subst (λ (x : ℕ). Pass (lengthened a.n (edge_graph a.edges.list.now)) x a.heights.now c.loop-i.heights c.loop-i.invariant.0) done c.loop-i.invariant.1

pub returns-then-last-edges : goal.returns-then-last-edges
returns-then-last-edges c =
    let last = c.loop-i.invariant in
    pass_some _ _ _ _ last.0 _ (whole (goal.at.returns-then-last-edges c).After-loop-i) last.2 c.if-last-edges.true

pub returns-else-last-edges : goal.returns-else-last-edges
returns-else-last-edges c =
    let last = c.loop-i.invariant in
    pass_none _ _ _ _ last.0 _ (whole (goal.at.returns-else-last-edges c).After-loop-i) last.2 c.if-last-edges.false
