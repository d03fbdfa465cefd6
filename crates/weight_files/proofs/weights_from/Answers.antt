-- `weights_from` meets its contract: 65 weights for an odd length, else those of `even_weights`.
use mathlib.Core.Path.{sym, ◌∙◌}
use borrow.Author.Tests.{eq-eqb, ne_eqb}
use Rattle.weight_files.proofs.WeightLaws.{odd_handed, even_handed}
use Rattle.weight_files.proofs.weights_from.Goals as goal

pub returns-then-bytes-eq1 : goal.returns-then-bytes-eq1
returns-then-bytes-eq1 c = c.from.ensures.0 ∙ sym (odd_handed c.args.bytes.now (eq-eqb _ _ c.if-bytes-eq1.true))

pub returns : goal.returns
returns c = c.even_weights.ensures ∙ sym (even_handed c.args.bytes.now (ne_eqb _ _ c.if-bytes-eq1.false))
