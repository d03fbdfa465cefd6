use native.Mathlib.Omega.{arith}
use lib.ListN.{length, get_or}
use Rattle.std.proofs.Common.{rules}
use Rattle.std.proofs.lemmas.Grind.{common_steps}
use Rattle.livelock.proofs.SumLaws.{greatest_below, greatest_limit}
use Rattle.figures.proofs.largest_weight.Goals as goal

-- `largest_weight` meets its contract: the largest weight is at least each weight, and one of them.
pub returns : goal.returns
returns c =
    let weights = c.args.weights.now in
    let bounds = greatest_below (λ i. get_or weights i 0) (length weights) in
    let least = greatest_limit (λ i. get_or weights i 0) c.from.result (length weights) (search rules) in
    grind (arith, common_steps, bounds, least)
