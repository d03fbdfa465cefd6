use mathlib.Core.Path.{◌≡◌}
use lib.ListN.{take}
use Rattle.twins.specs.Keys.{is_in}
use Rattle.twins.proofs.is_in.Given as goal

-- `is_in` meets its contract: after i keys it is told of the first i.
abbrev pub invariant-loop-kept : goal.invariant-loop-kept
invariant-loop-kept l = l.seen ≡ is_in l.key (take l.kept-index l.keys)
