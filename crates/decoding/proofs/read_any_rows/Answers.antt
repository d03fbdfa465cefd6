use native.Mathlib.Omega.{arith}
use Rattle.decoding.proofs.RowReadLaws.{rows_none}
use Rattle.decoding.proofs.read_any_rows.Goals as goal

pub returns-then-head-eq0-clause-rows : goal.returns-then-head-eq0-clause-rows
returns-then-head-eq0-clause-rows g c = λ p t none. rows_none _ _ _ c.args.types _ _ _ p (omega (arith, c.if-head-eq0.true))
