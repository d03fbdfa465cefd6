-- `put_row` meets its contract: the map byte and four fields, stored one behind the other.
use Rattle.plant_rows.specs.Rows.{fields_row}
use Rattle.row_bytes.proofs.RowLaws.{row_stored}
use Rattle.row_bytes.proofs.PlantFile.put_row.Goals as goal

pub returns-clause-by_index : goal.returns-clause-by_index
returns-clause-by_index c = λ m.
    row_stored c.args.implied (fields_row m c.args.row.now) (c.map_of.ensures m)
    c.put.ensures.stored (rw c.from.ensures at c.put-2.ensures.stored) c.put-3.ensures.stored c.put_type.ensures.stored c.put_type-2.ensures.stored
