-- `write_figures` meets its contract: after i turns the figures of the first i numbers are written.
use mathlib.Core.Path.{◌≡◌}
use lib.ListN.{take}
use Rattle.figure_lines.specs.FigureLines.{figures}
use Rattle.figure_lines.specs.Writing.{Wrote}
use Rattle.figure_lines.proofs.Line.write_figures.Given as goal

abbrev pub invariant-loop-number : goal.invariant-loop-number
invariant-loop-number l =
    record {
      same_list : l.self.bytes.ghost_name ≡ l.initial.self.bytes.ghost_name;
      wrote : Wrote l.initial.self.bytes.now l.self.bytes.now l.initial.self.end l.self.end (figures (take l.number-index l.numbers));
    }
