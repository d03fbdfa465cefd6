-- `judge_set` meets its contract: entry by entry, and the first fault is the set's.
use Rattle.std.proofs.Common.{Ok, Err, sym, arith}
use Rattle.set_entries.specs.Entries.{entry_of}
use Rattle.cycle_sets.proofs.SetLaws.{begun, no_entry, more, entry_stops, turn, finished}
use Rattle.cycle_sets.proofs.TableLaws.{of_decoded}
use Rattle.cycle_sets.proofs.judge_set.Goals as goal

pub entries-init : goal.entries-init
entries-init c = let d = c.args.decoded in begun d.shape d.table.now c.args.set.now

pub returns-in-Err : goal.returns-in-Err
returns-in-Err c =
    let d = c.args.decoded in
    let l = c.entries in
    no_entry d.shape d.table.now c.args.set.now l.before l.at l.sums l.invariant _ (sym c.in-Err.ensures)

pub judge_entry-requires : goal.judge_entry-requires
judge_entry-requires c = let g = c.entries.invariant in (omega (arith, g.near, g.few), c.args.decoded.ready.sound.room)

pub returns-in-Err-judge_entry : goal.returns-in-Err-judge_entry
returns-in-Err-judge_entry c =
    let d = c.args.decoded in
    let l = c.entries in
    entry_stops d.shape d.table.now c.args.set.now l.before l.at l.sums l.invariant _ (sym c.in_default.ensures) _ (of_decoded d c.args.set.now l.at (Err c.in-Err-judge_entry.fault) c.in-Err-judge_entry.ensures.entry)

pub add_entry-requires : goal.add_entry-requires
add_entry-requires c = let g = c.entries.invariant in λ i. omega (arith, g.within i, g.few)

pub returns-then-at-set : goal.returns-then-at-set
returns-then-at-set c =
    let d = c.args.decoded in
    let l = c.entries in
    let e = c.in-Ok.ensures in
    finished d.shape d.table.now c.args.set.now l.before l.at l.sums l.invariant _ (sym c.in_default.ensures)
    (entry_of c.in-Ok.entry.value) _ (of_decoded d c.args.set.now l.at (Ok c.in-Ok.entry) e.entry) _
    (rw e.same_table at c.add_entry.ensures) c.if-at-set.true

pub entries-smaller : goal.entries-smaller
entries-smaller c =
    let d = c.args.decoded in
    let l = c.entries in
    omega (arith, more d.shape d.table.now c.args.set.now l.before l.at l.sums l.invariant _ (sym c.in_default.ensures))

pub entries-preserved : goal.entries-preserved
entries-preserved c =
    let d = c.args.decoded in
    let l = c.entries in
    let e = c.in-Ok.ensures in
    turn d.shape d.table.now c.args.set.now l.before l.at l.sums l.invariant _ (sym c.in_default.ensures)
    (entry_of c.in-Ok.entry.value) _ (of_decoded d c.args.set.now l.at (Ok c.in-Ok.entry) e.entry) _
    (rw e.same_table at c.add_entry.ensures) c.if-at-set.false
