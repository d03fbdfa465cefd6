-- `write` meets its contract: the part after the place becomes the bytes.
use native.Mathlib.Omega.{arith}
use Rattle.figure_lines.proofs.WritingLaws.{part_wrote}
use Rattle.figure_lines.proofs.Line.write.Goals as goal

pub returns-clause-wrote : goal.returns-clause-wrote
returns-clause-wrote c = part_wrote c.args.self.now.bytes.now _ c.args.bytes.now c.args.self.now.end _ c.requires (omega arith) c.copy_from_slice.ensures.after
