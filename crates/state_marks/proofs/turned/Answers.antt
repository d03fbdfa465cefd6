-- `turned` meets its contract: other bits stay.
use native.Mathlib.Nat.{le_refl}
use native.Mathlib.Omega.{arith}
use lib.Pow.{shl_exact}
use Rattle.state_marks.proofs.BitLaws.{turned_kept}
use Rattle.state_marks.proofs.turned.Goals as goal

pub returns : goal.returns
returns c = turned_kept c.args.bits c.args.state _ (shl_exact 1 c.args.state 32 (le_refl 2) (omega (arith, c.requires)))
