-- `is_quiet_cycle` meets its contract: what is left to test gives what the whole gives.
use Rattle.std.proofs.Common.{◌≡◌, Bool, false, List, ℕ, replicate, length-set, ap, ◌∙◌}
use Rattle.livelock.specs.Plants.{Row}
use Rattle.set_entries.specs.Inner.Steps.{goes_on, leads}
use Rattle.set_entries.proofs.LeadingLaws.{row_fails, row_passes, rows_done}
use Rattle.set_entries.proofs.is_quiet_cycle.Goals as goal

-- The whole begins and ends at the state that the first row leaves.
whole : (table : List ℕ) (m : ℕ) (rows : List ℕ) {b : Bool} {start first : ℕ} → start ≡ first
    → b ≡ leads table m start start (replicate 256 false) rows → b ≡ leads table m first first (replicate 256 false) rows
whole table m rows e h = h ∙ rw e

pub returns-then-not-goes_on : goal.returns-then-not-goes_on
returns-then-not-goes_on c =
    let a = c.args in
    let l = c.loop-k in
    let is = c.goes_on.ensures ∙ ap (λ (r : Row). goes_on r a.entry.machine l.state l.seen) c.row_in-row.ensures in
    whole a.entry.table.now a.entry.machine a.entry.rows.now (ap (λ (r : Row). r.left) c.row_in-start.ensures)
    (row_fails a.entry.table.now a.entry.rows.now a.entry.machine _ l.state l.seen l.k-index _ l.invariant.1 c.loop-k-test.true _ is c.if-not-goes_on.true)

pub loop-k-preserved : goal.loop-k-preserved
loop-k-preserved c =
    let a = c.args in
    let l = c.loop-k in
    let is = c.goes_on.ensures ∙ ap (λ (r : Row). goes_on r a.entry.machine l.state l.seen) c.row_in-row.ensures in
    let enters = ap (λ (r : Row). r.entered) c.row_in-row.ensures in (
      length-set l.seen _ _ ∙ l.invariant.0,
      rw (c.from.ensures, enters) (row_passes a.entry.table.now a.entry.rows.now a.entry.machine _ l.state l.seen l.k-index _ l.invariant.1 c.loop-k-test.true _ is c.if-not-goes_on.false),
    )

pub returns : goal.returns
returns c =
    let a = c.args in
    let l = c.loop-k in
    whole a.entry.table.now a.entry.machine a.entry.rows.now (ap (λ (r : Row). r.left) c.row_in-start.ensures)
    (rows_done a.entry.table.now a.entry.rows.now a.entry.machine _ l.state l.seen l.k-index _ l.invariant.1 c.loop-k-test.false)
