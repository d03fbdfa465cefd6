-- `write_passed` meets its contract: the word and the four figures make a short line.
use native.Mathlib.Omega.{arith}
use Rattle.livelock.specs.Lists.{All}
use Rattle.answer_line.proofs.LineLaws.{few_figures}
use Rattle.answer_line.proofs.write_passed.Goals as goal

pub write_line_with-requires : goal.write_line_with-requires
unfolding All
write_line_with-requires c = (few_figures (omega arith) (omega arith) (omega arith, (omega arith, (omega arith, (omega arith, tt)))), c.requires)
