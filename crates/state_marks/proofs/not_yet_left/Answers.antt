-- `not_yet_left` meets its contract: the mark of a state is its bit.
use Rattle.state_marks.proofs.MarkLaws.{mark_bit}
use Rattle.state_marks.proofs.not_yet_left.Goals as goal

pub returns : goal.returns
returns c = let a = c.args in rw (mark_bit 24 a.marks a.state c.requires)
