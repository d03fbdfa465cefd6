use native.Mathlib.Omega.{arith}
use Rattle.machines.proofs.TurnLaws.{weighable, most_is, when_true, when_false, below_next, turn_rows, turn_edges, turn_states, turn_passes, turn_fails}
use Rattle.machines.proofs.first_failing.Goals as goal

pub edges_of-count-requires : goal.edges_of-count-requires
edges_of-count-requires c =
    let w = c.args.plant.now in
    let l = c.loop-m in
    let rows = turn_rows _ _ _ (weighable w) l.m c.loop-m-test.true _ _ c.rows_of-rows.ensures.from c.rows_of-rows.ensures.to l.edges (omega (arith, l.auto.edges, c.requires.1)) in
    (rows.0, rows.1, rows.2, rows.3, w.light)

pub invariant_of-list : goal.invariant_of-list
invariant_of-list c =
    let w = c.args.plant.now in
    let rows = c.rows_of-rows.ensures in
    record { within = turn_edges _ _ _ (weighable w) c.loop-m.m c.loop-m-test.true _ _ rows.from rows.to _ c.edges_of-count.ensures.listed _ c.states_of.ensures }

pub decide-requires : goal.decide-requires
decide-requires c = turn_states _ _ _ (weighable c.args.plant.now) c.loop-m.m c.loop-m-test.true _ _ c.states_of.ensures (most_is c.args.plant.now)

pub returns-then-not-decide : goal.returns-then-not-decide
returns-then-not-decide c =
    let l = c.loop-m in
    let listed = c.edges_of-count.ensures in
    let no = when_false _ c.decide.result c.if-not-decide.true c.decide.ensures in
    record {
      from_there = l.invariant.2;
      before = l.invariant.1;
      fails =
          record {
            there = c.loop-m-test.true;
            room = listed.within;
            rows = turn_fails _ _ _ (weighable c.args.plant.now) l.m c.loop-m-test.true _ _ c.rows_of-rows.ensures.from c.rows_of-rows.ensures.to _ listed.listed no;
          };
    }

pub loop-m-preserved : goal.loop-m-preserved
loop-m-preserved c =
    let l = c.loop-m in
    let more = c.loop-m-test.true in
    let yes = when_true _ c.decide.result c.if-not-decide.false c.decide.ensures in
    let passes = turn_passes _ _ _ (weighable c.args.plant.now) l.m more _ _ c.rows_of-rows.ensures.from c.rows_of-rows.ensures.to _ c.edges_of-count.ensures.listed yes in
    (omega (arith, more), below_next _ l.m l.invariant.1 (λ there. passes), omega (arith, l.invariant.2))
