use Rattle.std.proofs.Common.{rules, ◌≡◌, ◌+◌, length, length-take-le, get_or, take, sym, ◌∙◌}
use Rattle.deciding.specs.Rounds.{edge_graph}
use native.Mathlib.Nat.{mul-le-mul}
use native.Mathlib.Omega.{arith}
use Rattle.livelock.proofs.ListLaws.{get_d_replicate_default}
use Rattle.closed_walks.specs.ClosedWalks.{heaviest}
use Rattle.closed_walks.proofs.WalkLaws.{edges_searchable}
use Rattle.closed_walks.proofs.StartLaws.{Searched, searched_first, searched_low, searched_next, none_at_first, weighs_zero_or_more, weighs_below_zero, closes_now, not_yet}
use Rattle.closed_walks.proofs.Walks.least_from.Given.{Over}
use Rattle.closed_walks.proofs.Walks.least_from.Goals as goal
use Rattle.closed_walks.proofs.Walks.least_from.Goals.{After-round}

pub loop-k-init : goal.loop-k-init
loop-k-init g c =
    let tables = c.args.self.now in
    let states = c.args.edges.states in
    let shorter : length (take states tables.shorter) ≡ states = length-take-le states tables.shorter (search rules) in
    let longer : length (take states tables.longer) ≡ states = length-take-le states tables.longer (search rules) in
    let zeros = c.fill.ensures.after (search rules) in (
      searched_first _ g.row.S states c.args.start c.fill.new.self (take states tables.longer) tables.noted c.requires.1
          (c.fill.ensures.len ∙ shorter)
          (rw zeros (get_d_replicate_default _ 0))
          longer
          tables.square,
      none_at_first _ _,
    )

pub round-requires : goal.round-requires
round-requires g c =
    let p = c.requires in
    let edges = c.args.edges in
    let l = c.loop-k in
    let h = l.invariant.0 in
    let small = c.args.self.now.small in
    let there = c.loop-k-test.true in (
      omega (arith, mul-le-mul small small),
      (
        omega (arith, small),
        (
          h.room,
          record {
            low = searched_low (edges_searchable edges.within) h (omega (arith, there, p.2, edges.within.states_in));
            zeros = rw (c.fill-in-loop-k.ensures.after (search rules)) (get_d_replicate_default _ 0);
            few = omega (arith, there, p.2, h.room);
            room = c.fill-in-loop-k.ensures.len ∙ h.next_room ∙ sym h.room;
            within = omega (arith, h.room, p.0);
            square = h.square;
          },
        ),
      ),
    )

-- After a round the tables have changed places, and the walks of one edge more were searched.
next : {g : Over} (c : After-round g)
    → Searched (edge_graph c.args.edges.list.now) g.row.S c.args.edges.states c.args.start (c.loop-k.k + 1) c.round.new.longer c.loop-k.shorter.now c.round.new.noted
next c = searched_next (edges_searchable c.args.edges.within) c.loop-k.invariant.0 c.round.ensures

-- The number whose weight is tested is that of the heaviest closed walk from the start.
closed_is : {g : Over} (c : After-round g) → get_or c.round.new.longer c.args.start 0 ≡ heaviest (edge_graph c.args.edges.list.now) c.args.start (c.loop-k.k + 1) c.args.start
closed_is c = let s = next c in s.exact c.args.start (omega (arith, s.room, c.requires.1))

pub walk_weight-requires : goal.walk_weight-requires
walk_weight-requires g c =
    let edges = c.args.edges in
    let s = next (goal.at.walk_weight-requires g c).After-round in
    searched_low (edges_searchable edges.within) s (omega (arith, c.loop-k-test.true, c.requires.2, edges.within.states_in)) c.args.start (omega (arith, s.room, c.requires.1))

pub returns-then-walk_weight-ge0 : goal.returns-then-walk_weight-ge0
returns-then-walk_weight-ge0 g c =
    let here = (goal.at.returns-then-walk_weight-ge0 g c).After-round in
    let weight = weighs_zero_or_more _ _ (record { sfits = c.walk_weight.type_inv }) c.walk_weight.ensures c.if-walk_weight-ge0.true in
    record {
      least_from = closes_now _ _ _ c.loop-k.invariant.1 _ c.loop-k-test.true (omega (arith, closed_is here, weight));
      noted = (next here).first_edges;
    }

pub loop-k-preserved : goal.loop-k-preserved
loop-k-preserved g c =
    let here = (goal.at.loop-k-preserved g c).After-round in
    let weight = weighs_below_zero _ _ (record { sfits = c.walk_weight.type_inv }) c.walk_weight.ensures c.if-walk_weight-ge0.false in
    (next here, not_yet _ _ _ c.loop-k.invariant.1 (omega (arith, closed_is here, weight)))
