use mathlib.Core.Path.{◌≡◌, ap, subst}
use Prim.Native.Nat.{ℕ, ◌+◌, ◌-◌, ◌<◌}
use native.Mathlib.Omega.{arith}
use Rattle.livelock.specs.Plants.{Row}
use Rattle.tables.specs.Tables.{row_in}
use Rattle.machine_graphs.proofs.GraphLaws.{Begun, begun_none, begun_few, begun_row, begun_ends}
use Rattle.machine_graphs.proofs.add_rows.Goals as goal
use Rattle.machine_graphs.proofs.add_rows.Goals.{After-row_in}

-- The row before k leaves and enters the states that its fields say,
fields_are : (c : goal.After-row_in) → (c.row_in.result.fields.left ≡ (row_in c.args.table.now (c.loop-k.k - 1)).left) × (c.row_in.result.fields.entered ≡ (row_in c.args.table.now (c.loop-k.k - 1)).entered)
fields_are c = (ap (λ (r : Row). r.left) c.row_in.ensures, ap (λ (r : Row). r.entered) c.row_in.ensures)

-- and they are below 24.
states_in : (c : goal.After-row_in) → (c.row_in.result.fields.left < 24) × (c.row_in.result.fields.entered < 24)
states_in c =
    let h = c.loop-k-test.true in
    let states = c.requires.0.below_24 (c.loop-k.k - 1) (omega (arith, h)) (omega (arith, h, c.loop-k.auto)) in
    let are = fields_are c in
    (omega (arith, are.0, states.0), omega (arith, are.1, states.1))

pub loop-k-init : goal.loop-k-init
loop-k-init c = (c.requires.0.ordered, begun_none c.args.table.now c.args.last c.args.graph.now c.requires.0.few c.requires.1)

pub add_row-requires : goal.add_row-requires
add_row-requires c =
    let l = c.loop-k in
    let s = states_in (goal.at.add_row-requires c).After-row_in in (
      omega (arith, c.loop-k-test.true, l.auto, c.requires.0.few),
      s.0,
      s.1,
      begun_few c.args.table.now l.k c.args.last l.graph _ _ s.0 s.1 c.requires.0.few l.invariant.1,
    )

pub loop-k-preserved : goal.loop-k-preserved
loop-k-preserved c =
    let l = c.loop-k in
    let h = c.loop-k-test.true in
    let after = (goal.at.loop-k-preserved c).After-row_in in
    let s = states_in after in
    let are = fields_are after in
    let e : l.k ≡ l.k - 1 + 1 = omega (arith, h) in (
      omega (arith, h),
      begun_row c.args.table.now (l.k - 1) c.args.last _ _ l.graph _ (omega (arith, h, l.auto)) c.requires.0.few (omega (arith, h, c.requires.0.few_rows, l.invariant.0)) are.0 are.1 s.0 s.1
          (subst (λ (z : ℕ). Begun c.args.table.now z c.args.last l.graph) e l.invariant.1) c.add_row.ensures,
    )

pub returns : goal.returns
returns c =
    let l = c.loop-k in
    begun_ends c.args.table.now c.args.first c.args.last l.graph c.requires.0
    (subst (λ (z : ℕ). Begun c.args.table.now z c.args.last l.graph) (omega (arith, l.invariant.0, c.loop-k-test.false)) l.invariant.1)
