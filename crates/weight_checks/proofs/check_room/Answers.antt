use native.Mathlib.Omega.{arith}
use Rattle.weight_checks.proofs.CheckLaws.{refuse_11, enough_room}
use Rattle.weight_checks.proofs.check_room.Goals as goal

-- `check_room` meets its contract: without room 11 is the fault.
pub returns-then-room-lt64 : goal.returns-then-room-lt64
returns-then-room-lt64 c = λ P end. refuse_11 _ P end (omega (arith, c.if-room-lt64.true))

pub returns : goal.returns
returns c = λ P end. enough_room _ P end (omega (arith, c.if-room-lt64.false))
