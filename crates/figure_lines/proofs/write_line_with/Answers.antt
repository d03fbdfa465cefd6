-- `write_line_with` meets its contract: the word, the figures and the line end are the line.
use mathlib.Core.Path.{◌∙◌}
use native.Mathlib.Omega.{arith}
use Rattle.std.proofs.Common.{rules}
use Rattle.figure_lines.proofs.WritingLaws.{wrote-length, wrote_then}
use Rattle.figure_lines.proofs.DecimalLaws.{line_length}
use Rattle.figure_lines.proofs.write_line_with.Goals as goal

pub write_figures-requires : goal.write_figures-requires
write_figures-requires c =
    let w = c.write.ensures.wrote in
    omega (arith, c.requires.0.few, c.requires.1, line_length c.args.word.now c.args.numbers.now, w.next_is, wrote-length w)

pub write-requires-2 : goal.write-requires-2
write-requires-2 c =
    let w = c.write.ensures.wrote in
    let v = c.write_figures.ensures.wrote in
    omega (arith, c.requires.0.few, c.requires.1, line_length c.args.word.now c.args.numbers.now, w.next_is, wrote-length w, v.next_is, wrote-length v)

pub returns : goal.returns
returns c =
    let w = wrote_then (wrote_then c.write.ensures.wrote c.write_figures.ensures.wrote) c.write-2.ensures.wrote in
    record { wrote = record { next_is = w.next_is; after_is = search rules ∙ w.after_is }; short = omega (arith, w.next_is, c.requires.0.few) }
