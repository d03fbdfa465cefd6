-- `judged_row` meets its contract: six numbers that all pass say the row, and else there is its fault.
use Rattle.std.proofs.Common.{◌∙◌, ap, sym, ◌+◌}
use Rattle.plant.specs.Found.{found}
use Rattle.plant_lists.proofs.RowLaws.{row_right, row_there}
use Rattle.row_numbers.proofs.judged_row.Goals as goal

pub listed_row-requires : goal.listed_row-requires
listed_row-requires c =
    let a = c.args in
    row_there a.states a.types a.numbers.now a.at (sym c.row_passes.ensures ∙ c.if-row_passes.true) c.requires.1 c.requires.2

pub returns-then-row_passes : goal.returns-then-row_passes
returns-then-row_passes c = λ m.
    let a = c.args in
    rw (c.listed_row.ensures.1) (sym (row_right a.states a.types a.numbers.now a.at (sym c.row_passes.ensures ∙ c.if-row_passes.true) m ∙ ap (λ r. found r (a.at + 6)) (sym (c.listed_row.ensures.0 m))))
