use native.Mathlib.Omega.{arith}
use lib.ListN.{length}
use borrow.Author.Tests.{le-ltb, lt-ltb}
use Rattle.plant.specs.Reading.{byte_at}
use Rattle.plant.proofs.byte_at.Goals as goal

-- `byte_at` meets its contract: by its one test, whether the offset is below the length.
pub returns-then-s-at : goal.returns-then-s-at
unfolding byte_at
returns-then-s-at c = rw (le-ltb c.args.at (length c.args.s.now) (omega arith))

pub returns : goal.returns
unfolding byte_at
returns c = rw (lt-ltb c.args.at (length c.args.s.now) (omega (arith, c.if-s-at.false)))
