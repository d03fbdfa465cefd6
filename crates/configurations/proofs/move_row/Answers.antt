-- `move_row` meets its contract: the state is stored, and the messages go by the two functions.
use Rattle.std.proofs.Common.{rules}
use Rattle.configurations.proofs.RowLaws.{row_moves, with_room}
use Rattle.configurations.proofs.move_row.Goals as goal

pub returns : goal.returns
returns c =
    let a = c.args in
    rw c.from.ensures (row_moves a.row a.states.now a.contents.now _ _ (search rules) (search rules) c.remove.ensures (with_room _ _ _ c.add.ensures))
