use mathlib.Core.Path.{◌∙◌}
use native.Mathlib.Omega.{arith}
use lib.Seq.{take_all}
use Rattle.answer_line.proofs.LineLaws.{rows_short}
use Rattle.answer_line.proofs.widened.Goals as goal

pub returns : goal.returns
returns c =
    let rows = c.args.rows.now in
    (c.loop-row.invariant ∙ take_all c.loop-row.row-index rows (omega arith), rows_short rows (λ k. omega (arith, c.type_inv.rows k)))
