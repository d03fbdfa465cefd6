-- `hemtaluq_write_v2` meets its contract: the answer of `write` becomes its struct, and what was lent is as `write` left it.
use mathlib.Core.Path.{◌∙◌, ap}
use Rattle.writing.specs.Answers as WritingAnswers
use Rattle.answer_structs.specs.Structs.{write_struct}
use Rattle.cabinet.proofs.StructLaws.{writes_told}
use Rattle.cabinet.proofs.hemtaluq_write_v2.Goals as goal

pub returns : goal.returns
returns c =
    let a = c.args in
    let l = c.write-answer.ensures in
    record { value = c.from.ensures ∙ ap write_struct l.result_value; out_after = l.out_after; writes = writes_told a.numbers.now c.write-answer.new.out (WritingAnswers.answer_of c.write-answer.result) c.from.result l.writes_shortest c.from.ensures }
