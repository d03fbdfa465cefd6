-- `map_byte` meets its contract: a byte below 32.
use mathlib.Core.Path.{◌∙◌}
use Rattle.plant.specs.Reading.{map_byte}
use Rattle.plant.proofs.ByteLaws.{byte_below}
use Rattle.row_fields.proofs.map_byte.Goals as goal

pub returns : goal.returns
unfolding map_byte
returns c = c.byte_in.ensures ∙ byte_below 32 4 _ _
