use Rattle.decoding.proofs.StoreLaws.{held_stored}
use Rattle.decoding.proofs.row_stores.TableStoreRowStore.store_row.Goals as goal

pub returns-clause-kept : goal.returns-clause-kept
returns-clause-kept c = held_stored c.store_row.ensures
