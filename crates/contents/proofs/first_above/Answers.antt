-- `first_above` meets its contract: it looks among the contents, then at g and then at d.
use Rattle.std.proofs.Common.{rules}
use Rattle.std.proofs.lemmas.Iterator.{IsFirst-from_position, YieldsList-from_slice}
use borrow.Author.Tests.{tests}
use native.Mathlib.Omega.{arith}
use Prim.Native.Nat.{◌≤◌, ◌<◌}
use Rattle.weight_checks.specs.Checks.{FirstAbove}
use Rattle.weight_checks.proofs.CheckLaws.{first_found}
use Rattle.contents.proofs.AmountLaws.{content_first, g_first, d_first, none_first}
use Rattle.contents.proofs.first_above.Goals as goal
use Rattle.contents.proofs.first_above.Goals.{After-position}

-- The search gives the first content above 1,000,000.
first : (c : After-position) → FirstAbove 1000000 c.args.given.contents.now c.position.result
first c =
    first_found _ _ _
    (IsFirst-from_position _ _ _ (λ x. 1000000 < x) (λ x. x ≤ 1000000) c.position.ensures.ran (YieldsList-from_slice c.args.given.contents.now cc)
    (λ x q k. search (rules, tests))
    (λ x q k. search (rules, tests)))

pub returns-in-Some : goal.returns-in-Some
returns-in-Some c =
    let above = rw c.in-Some.is at (first (goal.at.returns-in-Some c).After-position) in
    content_first _ _ _ above

pub returns-then-g-gt1000000 : goal.returns-then-g-gt1000000
returns-then-g-gt1000000 c =
    let none = rw c.in_default.is at (first (goal.at.returns-then-g-gt1000000 c).After-position) in
    g_first _ _ _ none (omega (arith, c.if-g-gt1000000.true))

pub returns-then-d-gt1000000 : goal.returns-then-d-gt1000000
returns-then-d-gt1000000 c =
    let none = rw c.in_default.is at (first (goal.at.returns-then-d-gt1000000 c).After-position) in
    d_first _ _ _ none (omega (arith, c.if-g-gt1000000.false)) (omega (arith, c.if-d-gt1000000.true))

pub returns : goal.returns
returns c =
    let none = rw c.in_default.is at (first (goal.at.returns c).After-position) in
    none_first _ _ _ none (omega (arith, c.if-g-gt1000000.false)) (omega (arith, c.if-d-gt1000000.false))
