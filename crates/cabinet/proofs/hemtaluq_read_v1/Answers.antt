-- `hemtaluq_read_v1` meets its contract: the answer of `read` becomes its struct.
use mathlib.Core.Path.{◌∙◌, ap}
use Rattle.answer_structs.specs.Structs.{read_struct}
use Rattle.cabinet.proofs.hemtaluq_read_v1.Goals as goal

pub returns : goal.returns
returns c = c.from.ensures ∙ ap read_struct c.read-answer.ensures
