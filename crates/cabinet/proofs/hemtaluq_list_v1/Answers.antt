-- `hemtaluq_list_v1` meets its contract: the answer of `list` becomes its struct, and what was lent is as `list` left it.
use mathlib.Core.Path.{◌∙◌, ap}
use Rattle.answer_structs.specs.Structs.{list_struct}
use Rattle.cabinet.proofs.StructLaws.{lists_told}
use Rattle.cabinet.proofs.hemtaluq_list_v1.Goals as goal

pub returns : goal.returns
returns c =
    let a = c.args in
    let l = c.list-answer.ensures in
    record { value = c.from.ensures ∙ ap list_struct l.result_value; out_after = l.out_after; lists = lists_told a.file.now _ a.machine _ _ l.means c.from.ensures }
