-- `write_answer` meets its contract: each sort of answer by its own line.
use native.Mathlib.Omega.{arith}
use mathlib.Core.Path.{sym, ap, ◌∙◌}
use lib.Seq.{length-take-le}
use Rattle.weighing.specs.Answers.{Answer, answer_of, weighed_answer}
use Rattle.answer_line.specs.Lines.{line_of}
use Rattle.answer_line.proofs.LineLaws.{line_wrote}
use Rattle.answer_line.proofs.write_answer.Goals as goal

pub slice_bounds-write_cycle-end : goal.slice_bounds-write_cycle-end
slice_bounds-write_cycle-end c =
    let few = c.requires.0.few _ (ap answer_of c.in-Ok-Cycle.is ∙ ap weighed_answer (rw c.in-Ok-Cycle.is at c.in-Ok-Cycle.field-0-is)) in
    sym (length-take-le c.in-Ok-Cycle.rows c.args.cycle.now (omega (arith, few)))

pub write_cycle-requires : goal.write_cycle-requires
write_cycle-requires c =
    let few = c.requires.0.few _ (ap answer_of c.in-Ok-Cycle.is ∙ ap weighed_answer (rw c.in-Ok-Cycle.is at c.in-Ok-Cycle.field-0-is)) in
    (omega (arith, few, length-take-le c.in-Ok-Cycle.rows c.args.cycle.now (omega (arith, few))), c.requires.1)

pub returns-in-Ok-Passed : goal.returns-in-Ok-Passed
returns-in-Ok-Passed c =
    let found = ap answer_of c.in-Ok-Passed.is ∙ ap weighed_answer (rw c.in-Ok-Passed.is at c.in-Ok-Passed.field-0-is) in
    line_wrote (ap (λ (a : Answer). line_of a c.args.cycle.now) found) c.write_passed.ensures

pub returns-in-Ok-Cycle : goal.returns-in-Ok-Cycle
returns-in-Ok-Cycle c =
    let found = ap answer_of c.in-Ok-Cycle.is ∙ ap weighed_answer (rw c.in-Ok-Cycle.is at c.in-Ok-Cycle.field-0-is) in
    line_wrote (ap (λ (a : Answer). line_of a c.args.cycle.now) found) c.write_cycle.ensures

pub returns-in-Err : goal.returns-in-Err
returns-in-Err c = line_wrote (ap (λ (a : Answer). line_of a c.args.cycle.now) (ap answer_of c.in-Err.is)) c.write_refused.ensures
