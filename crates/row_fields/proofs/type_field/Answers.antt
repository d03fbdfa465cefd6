-- `type_field` meets its contract: by whether the bit stands, and by what the byte is.
use Rattle.std.proofs.Common.{sym}
use Rattle.plant.proofs.Exits.{handed_on}
use Rattle.plant.specs.Reading.{type_field}
use Rattle.row_fields.proofs.type_field.Goals as goal

pub returns-in_err-byte : goal.returns-in_err-byte
unfolding type_field
returns-in_err-byte c =
    rw (handed_on _ c.from_residual.ensures.1, c.if-stands.true, sym c.in_err-byte.ensures)

pub returns-in_ok-byte : goal.returns-in_ok-byte
unfolding type_field
returns-in_ok-byte c = rw (c.if-stands.true, sym c.in_ok-byte.ensures)

pub returns-else-stands : goal.returns-else-stands
unfolding type_field
returns-else-stands c = rw c.if-stands.false
