use Rattle.std.proofs.Common.{take}
use Rattle.set_sums.specs.Sums.{Added}
use Rattle.set_sums.proofs.add_entry.Given as goal

-- `add_entry` meets its contract: after each row, the rows so far are added.
abbrev pub invariant-loop-k : goal.invariant-loop-k
invariant-loop-k l = Added l.entry.table.now l.entry.repeats (take l.k-index l.entry.rows.now) l.initial.sums l.sums
