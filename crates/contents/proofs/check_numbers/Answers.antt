-- `check_numbers` meets its contract: each refusal is the first of the checks 20, 21 and 22 that fails.
use Rattle.std.proofs.Common.{refl, sym, ◌∙◌}
use Rattle.contents.proofs.AmountLaws.{refuse_20, refuse_21, passing_judged}
use Rattle.contents.proofs.check_numbers.Goals as goal

pub returns-then-given-types-clause-checks : goal.returns-then-given-types-clause-checks
returns-then-given-types-clause-checks g c = λ P end t. refuse_20 _ _ _ P end (λ e. c.if-given-types.true (e ∙ t))

pub returns-in-Some-clause-checks : goal.returns-in-Some-clause-checks
returns-in-Some-clause-checks g c = λ P end t. refuse_21 _ _ _ P end (c.if-given-types.false ∙ sym t) _ c.in-Some.ensures.0 c.in-Some.ensures.1

pub returns-clause-checks : goal.returns-clause-checks
returns-clause-checks g c =
    λ P end t. rw c.ok_or.ensures.value (passing_judged _ _ P end (c.if-given-types.false ∙ sym t) c.in_default.ensures _ refl c.args.passing)
