use Rattle.std.proofs.Common.{◌-◌}
use Rattle.cycle_sets.proofs.SetLaws.{Going}
use Rattle.cycle_sets.proofs.judge_set.Given as goal

-- `judge_set` meets its contract: what is left of the entries gives what the whole gives, and the sums are those of the entries so far.
abbrev pub invariant-entries : goal.invariant-entries
invariant-entries l = Going l.decoded.shape l.decoded.table.now l.set l.before l.at l.sums

abbrev pub decreases-entries : goal.decreases-entries
decreases-entries l = 256 - l.before
