-- `widened` meets its contract: number by number.
use Rattle.std.proofs.Common.{get_or, arith, rules}
use Rattle.watchers.proofs.OpeningLaws.{made_at, widened_by}
use Rattle.watchers.proofs.widened.Goals as goal

pub returns : goal.returns
returns c =
    let xs = c.args.contents.now in
    let items = c.from_fn.ensures.items in
    let each = made_at _ (λ t. get_or xs t 0) _ (λ k y q h. search rules) c.from_fn.result 0 64 items.each in
    widened_by xs c.from_fn.result c.requires items.long (λ t l. each t (omega arith) (omega arith))
