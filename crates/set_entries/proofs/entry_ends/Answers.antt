-- `entry_ends` meets its contract: each return is one case of the definition.
use Rattle.set_entries.specs.Entries.{entry_of}
use Rattle.set_entries.proofs.EntryLaws.{cycle_stops, cycle_good}
use Rattle.set_entries.proofs.entry_ends.Goals as goal

pub returns-then-is_quiet_cycle : goal.returns-then-is_quiet_cycle
returns-then-is_quiet_cycle c =
    let e = c.args.entry in
    cycle_good e.table.now (entry_of e) c.args.first c.requires _ c.is_quiet_cycle.ensures c.if-is_quiet_cycle.true

pub returns : goal.returns
returns c =
    let e = c.args.entry in
    cycle_stops e.table.now (entry_of e) c.args.first c.requires _ c.is_quiet_cycle.ensures c.if-is_quiet_cycle.false
