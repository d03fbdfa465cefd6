-- `state_field` meets its contract: by whether the bit stands.
use Rattle.plant.specs.Reading.{state_field}
use Rattle.row_fields.proofs.state_field.Goals as goal

pub returns-then-stands : goal.returns-then-stands
unfolding state_field
returns-then-stands c = rw c.if-stands.true c.byte_in.ensures

pub returns-else-stands : goal.returns-else-stands
unfolding state_field
returns-else-stands c = rw c.if-stands.false
