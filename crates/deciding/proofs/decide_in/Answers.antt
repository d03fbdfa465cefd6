use Rattle.std.proofs.Common.{rules, ℕ, ◌∙◌}
use native.Mathlib.Omega.{arith}
use lib.ListN.{get_or, length-replicate}
use Rattle.livelock.specs.Graphs.{lengthened}
use Rattle.livelock.proofs.ListLaws.{get_d_replicate_default}
use Rattle.deciding.specs.Rounds.{edge_graph}
use Rattle.deciding.proofs.DecisionLaws.{edges_within, heights_first, heights_next, heights_settled, heights_positive, all_below, some_cycle}
use Rattle.deciding.proofs.decide_in.Goals as goal

pub loop-init : goal.loop-init
loop-init g c = (length-replicate g.row.S 0, heights_first _ _ (λ s. omega (arith, get_d_replicate_default {A = ℕ} g.row.S 0 s)))

pub returns-then-is_none : goal.returns-then-is_none
returns-then-is_none g c =
    let edges = c.args.edges in
    let h = c.loop.invariant.1 in
    all_below c.args.n (edge_graph edges.list.now) edges.states (edges_within edges.states edges.list.now edges.within) c.requires.2
    (λ s. get_or c.loop.heights s 0)
    (heights_settled (lengthened c.args.n (edge_graph edges.list.now)) c.loop.counter c.loop.heights h _ _ (search rules) c.relax.ensures)

pub loop-preserved : goal.loop-preserved
loop-preserved g c =
    let h = c.loop.invariant in
    (c.relax.ensures.same_length ∙ h.0, heights_next _ c.loop.counter c.loop.heights h.1 _ _ c.args.edges.within.few (search rules) c.relax.ensures)

pub returns : goal.returns
returns g c =
    let edges = c.args.edges in
    let inside = edges_within edges.states edges.list.now edges.within in
    let h = c.loop.invariant.1 in
    some_cycle c.args.n _ edges.states inside c.requires.2
    (heights_positive _ c.loop.counter c.loop.heights h edges.states inside edges.within.some_state (omega (arith, c.loop-test.false)))
