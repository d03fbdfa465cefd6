use mathlib.Core.Path.{◌≡◌}
use Prim.Native.Nat.{◌*◌, ◌%◌, ◌^◌}
use native.Mathlib.Nat.{le_refl}
use native.Mathlib.Omega.{arith}
use lib.Pow.{shl_exact, pow_pos}
use Rattle.state_marks.proofs.BitLaws.{below_only}
use Rattle.state_marks.proofs.below.Goals as goal
use Rattle.state_marks.proofs.below.Goals.{Start}

-- `below` meets its contract: one less than a bit has no bit from it on.
-- The bit is within 32.
exact : (c : goal.Start) → 1 * 2 ^ c.args.state % 4294967296 ≡ 1 * 2 ^ c.args.state
exact c = shl_exact 1 c.args.state 32 (le_refl 2) (omega (arith, c.requires))

pub overflow_sub-result : goal.overflow_sub-result
overflow_sub-result c = omega (arith, exact c, pow_pos c.args.state)

pub returns : goal.returns
returns c = below_only c.args.state _ (exact c)
