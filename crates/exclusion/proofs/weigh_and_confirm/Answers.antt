-- `weigh_and_confirm` meets its contract: by the contracts of the two calls it makes, and the theorem.
use mathlib.Core.Path.{refl}
use lib.ListN.{replicate}
use Rattle.exclusion.proofs.Theorem.{sees}
use Rattle.exclusion.proofs.weigh_and_confirm.Goals as goal

pub returns : goal.returns
returns c =
    let w = c.weigh-weighed in
    let f = c.confirm-confirmation in
    sees _ _ _ (replicate 64 0) _ w.result f.result _ _ refl w.ensures (f.ensures.result_value, f.ensures.variant) c.is_passed.ensures c.is_confirmed.ensures
