-- `hemtaluq_confirm_v1` meets its contract: the answer of `confirm` becomes its struct.
use mathlib.Core.Path.{◌∙◌, ap}
use Rattle.cycle_sets.specs.Answers as ConfirmingAnswers
use Rattle.answer_structs.specs.Structs.{confirm_struct}
use Rattle.cabinet.proofs.StructLaws.{confirms_told}
use Rattle.cabinet.proofs.hemtaluq_confirm_v1.Goals as goal

pub returns : goal.returns
returns c =
    let f = c.confirm-answer.ensures in
    record {
      value = c.from.ensures ∙ ap confirm_struct f.result_value;
      variant = confirms_told (ConfirmingAnswers.answer_of c.confirm-answer.result) c.from.result f.variant c.from.ensures;
    }
