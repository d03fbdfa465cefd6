-- `with_left` meets its contract: the union with bit `state` marks that state.
use mathlib.Core.Path.{ap, ◌∙◌}
use Prim.Native.Nat.{ℕ}
use native.Mathlib.Nat.{le_refl}
use native.Mathlib.Omega.{arith}
use lib.Bits.{bit_or}
use lib.Pow.{shl_exact}
use Rattle.state_marks.specs.Marks.{marks_of}
use Rattle.state_marks.proofs.MarkLaws.{marked}
use Rattle.state_marks.proofs.with_left.Goals as goal

pub returns : goal.returns
returns c = let a = c.args in ap (λ (x : ℕ). marks_of 24 (bit_or a.marks x)) (shl_exact 1 a.state 32 (le_refl 2) (omega (arith, c.requires))) ∙ marked 24 a.marks a.state c.requires
