-- `check_weights` meets its contract: each refusal is the first of the checks 9 and 10 that fails.
use Rattle.std.proofs.Common.{rules}
use Rattle.std.proofs.lemmas.Iterator.{IsFirst-from_position, YieldsList-from_slice}
use borrow.Author.Tests.{tests}
use native.Mathlib.Omega.{arith}
use Prim.Native.Nat.{◌≤◌, ◌<◌}
use Rattle.weight_checks.specs.Checks.{FirstAbove}
use Rattle.weight_checks.proofs.CheckLaws.{first_found, refuse_9, refuse_10, accept_weights}
use Rattle.weight_checks.proofs.check_weights.Goals as goal
use Rattle.weight_checks.proofs.check_weights.Goals.{After-position}

-- The search gives the first weight above 1,000.
first : (c : After-position) → FirstAbove 1000 c.args.weights.now c.position.result
first c =
    first_found _ _ _
    (IsFirst-from_position _ _ _ (λ x. 1000 < x) (λ x. x ≤ 1000) c.position.ensures.ran (YieldsList-from_slice c.args.weights.now cc)
    (λ x q k. search (rules, tests))
    (λ x q k. search (rules, tests)))

pub returns-then-weights-types : goal.returns-then-weights-types
returns-then-weights-types c = λ P end t. refuse_9 _ P end (λ e. omega (arith, c.if-weights-types.true, e, t))

pub returns-in-Some : goal.returns-in-Some
returns-in-Some c =
    let above = rw c.in-Some.is at (first (goal.at.returns-in-Some c).After-position) in
    λ P end t. refuse_10 _ P end (omega (arith, c.if-weights-types.false, t)) _ above.0 above.1

pub returns : goal.returns
returns c =
    let none = rw c.in_default.is at (first (goal.at.returns c).After-position) in
    λ P end t. accept_weights _ P end (omega (arith, c.if-weights-types.false, t)) none
