use native.Mathlib.Omega.{arith}
use lib.ListN.{length, get_or}
use Rattle.std.proofs.Common.{rules}
use Rattle.std.proofs.lemmas.Grind.{common_steps}
use Rattle.livelock.proofs.SumLaws.{greatest_below, greatest_limit}
use Rattle.figures.proofs.most_states.Goals as goal

-- `most_states` meets its contract: the largest count is at least each count, and one of them.
pub returns : goal.returns
returns c =
    let states = c.args.states.now in
    let bounds = greatest_below (λ i. get_or states i 0) (length states) in
    let least = greatest_limit (λ i. get_or states i 0) c.from.result (length states) (search rules) in
    grind (arith, common_steps, bounds, least)
