-- `store_row` meets its contract: a law of six stores.
use Rattle.tables.proofs.StoreLaws.{six_stored}
use Rattle.tables.proofs.store_row.Goals as goal

pub returns : goal.returns
returns c =
    six_stored c.args.table.now c.args.k c.args.machine c.args.row _ _ _ c.column_of.ensures c.column_of-2.ensures c.from.ensures c.requires
