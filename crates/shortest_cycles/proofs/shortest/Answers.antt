use native.Mathlib.Omega.{arith}
use Rattle.std.specs.Prelude.{Some, None}
use Rattle.machines.proofs.TurnLaws.{weighable}
use Rattle.shortest_cycles.proofs.ShortestLaws.{search_some, first_searched, turn_searched, passing_skipped}
use Rattle.shortest_cycles.proofs.shortest.Goals as goal

pub unwrap-least-requires : goal.unwrap-least-requires
unwrap-least-requires c =
    search_some c.edges-list.result.within (rw c.edges-list.ensures.list c.requires.failing.fails.rows.zero_or_more) c.show.result c.show.ensures

pub loop-next-init : goal.loop-next-init
loop-next-init c =
    let list = c.edges-list in
    let shown = rw (c.unwrap-least.ensures, list.ensures.list) at c.show.ensures in (
      first_searched _ _ _ (weighable c.args.plant.now) c.args.first (Some _) c.requires.failing (rw list.ensures.list at list.result.within) shown,
      omega (arith, c.requires.failing.fails.there),
    )

pub loop-next-preserved : goal.loop-next-preserved
loop-next-preserved c =
    let next = c.in-Some.ensures in
    let shown = rw c.edges.ensures.list at c.shorter.ensures in (
      rw c.unwrap_or-least.ensures (turn_searched _ _ _ (weighable c.args.plant.now) c.in-Some.next c.shorter.result next c.loop-next.invariant.0 shown),
      omega (arith, next.fails.there),
    )

pub returns : goal.returns
returns c = passing_skipped _ _ _ (weighable c.args.plant.now) None c.in_default.ensures c.loop-next.invariant.0
