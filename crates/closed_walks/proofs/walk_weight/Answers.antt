-- `walk_weight` meets its contract: the difference fits 64 bits.
use native.Mathlib.Omega.{arith}
use Rattle.std.proofs.lemmas.Int.{ints}
use Rattle.closed_walks.proofs.walk_weight.Goals as goal

pub overflow_sub-result : goal.overflow_sub-result
overflow_sub-result c = grind (arith, ints)

pub returns : goal.returns
returns c = omega (arith, ints)
