use Rattle.std.proofs.Common.{◌≡◌, false, length, drop, replicate}
use Rattle.set_entries.specs.Inner.Steps.{leads}
use Rattle.set_entries.proofs.is_quiet_cycle.Given as goal

-- `is_quiet_cycle` meets its contract: what is left to test gives what the whole gives.
abbrev pub invariant-loop-k : goal.invariant-loop-k
invariant-loop-k l =
    (length l.seen ≡ 256)
    × (leads l.entry.table.now l.entry.machine l.start l.state l.seen (drop l.k-index l.entry.rows.now) ≡ leads l.entry.table.now l.entry.machine l.start l.start (replicate 256 false) l.entry.rows.now)
