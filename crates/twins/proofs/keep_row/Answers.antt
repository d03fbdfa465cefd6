-- `keep_row` meets its contract: by whether the key is kept.
use Rattle.std.proofs.Common.{rules}
use Rattle.twins.proofs.LentLaws.{row_twin, row_fresh}
use Rattle.twins.proofs.keep_row.Goals as goal

pub returns-then-is_kept : goal.returns-then-is_kept
returns-then-is_kept c =
    let a = c.args in
    row_twin a.n a.row a.states a.keys.now (search rules) (search rules) _ c.key_of-key.ensures _ c.is_kept.ensures c.if-is_kept.true

pub returns : goal.returns
returns c =
    row_fresh c.args.n c.args.row c.args.states c.args.keys.now (search rules) (search rules) _ c.key_of-key.ensures _ c.is_kept.ensures
    c.if-is_kept.false c.requires _ c.with_state.ensures
