-- `write_cycle` meets its contract: the word and the rows make a short line.
use native.Mathlib.Omega.{arith}
use mathlib.Core.Path.{sym, ap, ◌∙◌, subst⁻¹}
use Rattle.figure_lines.specs.FigureLines.{line_with}
use Rattle.figure_lines.specs.Writing.{ShortLine}
use Rattle.answer_line.specs.Lines.{cycle_word}
use Rattle.answer_line.proofs.LineLaws.{few_rows, line_wrote}
use Rattle.answer_line.proofs.write_cycle.Goals as goal

pub write_line_with-requires : goal.write_line_with-requires
write_line_with-requires c =
    let given = c.as_slice.ensures.value ∙ c.widened-numbers.ensures.0 in
    (subst⁻¹ (ShortLine cycle_word) given (few_rows _ (omega arith) c.requires.0 c.widened-numbers.ensures.1), c.requires.1)

pub returns : goal.returns
returns c = line_wrote (sym (ap (line_with cycle_word) (c.as_slice.ensures.value ∙ c.widened-numbers.ensures.0))) c.write_line_with.ensures
