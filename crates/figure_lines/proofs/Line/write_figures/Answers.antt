use native.Mathlib.Omega.{arith}
use Rattle.std.proofs.Common.{rules}
use Rattle.figure_lines.specs.FigureLines.{figures}
use Rattle.figure_lines.proofs.WritingLaws.{wrote-length, wrote_nothing}
use Rattle.figure_lines.proofs.DecimalLaws.{figure_room, figures_more, figures_all}
use Rattle.figure_lines.proofs.Line.write_figures.Goals as goal

pub loop-number-init : goal.loop-number-init
unfolding figures
loop-number-init c = record { same_list = search rules; wrote = wrote_nothing _ _ }

pub write_figure-requires : goal.write_figure-requires
write_figure-requires c =
    let w = c.loop-number.invariant.wrote in
    omega (arith, w.next_is, wrote-length w, c.requires, figure_room c.args.numbers.now c.loop-number.number-index c.loop-number-test.true)

pub loop-number-preserved : goal.loop-number-preserved
loop-number-preserved c =
    record {
      same_list = search rules;
      wrote = figures_more c.args.numbers.now c.loop-number.number-index c.loop-number-test.true c.loop-number.invariant.wrote c.write_figure.ensures.wrote;
    }

pub returns-clause-wrote : goal.returns-clause-wrote
returns-clause-wrote c = figures_all c.args.numbers.now c.loop-number.number-index (omega arith) c.loop-number.invariant.wrote
