-- `write_figure` meets its contract: a space and the digits are the figure.
use mathlib.Core.Path.{◌≡◌, refl}
use native.Mathlib.Omega.{arith}
use Rattle.std.specs.Fmt.{decimal}
use Rattle.figure_lines.proofs.WritingLaws.{wrote-length}
use Rattle.figure_lines.proofs.DecimalLaws.{figure_length, figure_wrote}
use Rattle.figure_lines.proofs.Line.write_figure.Goals as goal

pub write-requires : goal.write-requires
write-requires c = omega (arith, c.requires, figure_length c.args.n (decimal c.args.n) c.ranges.n.fits refl)

pub write-requires-2 : goal.write-requires-2
write-requires-2 c =
    let digits : c.as_bytes.result.now ≡ decimal c.args.n = cc in
    let w = c.write.ensures.wrote in
    omega (arith, c.requires, w.next_is, wrote-length w, figure_length c.args.n c.as_bytes.result.now c.ranges.n.fits digits)

pub returns-clause-wrote : goal.returns-clause-wrote
returns-clause-wrote c =
    let digits : c.as_bytes.result.now ≡ decimal c.args.n = cc in
    figure_wrote c.args.n c.as_bytes.result.now c.ranges.n.fits digits c.write.ensures.wrote c.write-2.ensures.wrote
