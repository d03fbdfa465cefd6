use mathlib.Core.Path.{◌≡◌, ◌∙◌}
use Prim.Native.Nat.{◌-◌}
use Rattle.std.proofs.Common.{rules}
use Rattle.std.specs.List.{sum_by}
use Rattle.figures.proofs.FigureLaws.{sum_is}
use Rattle.figures.proofs.states_less_one.Goals as goal

-- `states_less_one` meets its contract: the chain sums each count less one.
pub returns : goal.returns
returns c =
    let chain : c.sum.result ≡ sum_by (λ x. x - 1) c.args.states.now = search rules in
    chain ∙ sum_is (λ x. x - 1) c.args.states.now
