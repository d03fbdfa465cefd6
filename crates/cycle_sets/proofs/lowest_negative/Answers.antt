-- `lowest_negative` meets its contract: the search gives the first negative sum, if there is one.
use Rattle.std.proofs.Common.{◌≡◌, Some, None, true, false, get_or, pos, to_z, of_z, w64, rules}
use Rattle.std.proofs.lemmas.Iterator.{IsFirst-from_position, YieldsList-from_slice}
use borrow.Author.Tests.{tests}
use lib.Signed.{lt_z}
use Rattle.cycle_sets.proofs.LowestLaws.{Searched, lowest_searched}
use Rattle.cycle_sets.proofs.lowest_negative.Goals as goal
use Rattle.cycle_sets.proofs.lowest_negative.Goals.{After-position}

-- What the search says.
searched : (c : After-position) → Searched c.args.sums.now c.position.result
searched c =
    IsFirst-from_position _ _ _ (λ z. lt_z z (pos 0) ≡ true) (λ z. lt_z z (pos 0) ≡ false) c.position.ensures.ran (YieldsList-from_slice c.args.sums.now cc)
    (λ x q k. search (rules, tests))
    (λ x q k. search (rules, tests))

pub returns-in-Some : goal.returns-in-Some
returns-in-Some c =
    let sum = get_or c.args.sums.now c.in-Some.message (pos 0) in
    let same : to_z w64 (of_z w64 sum) ≡ sum = search rules in
    rw same (lowest_searched c.args.sums.now (Some c.in-Some.message) (rw c.in-Some.is at (searched (goal.at.returns-in-Some c).After-position)))

pub returns-in-None : goal.returns-in-None
returns-in-None c = lowest_searched c.args.sums.now None (rw c.in-None.is at (searched (goal.at.returns-in-None c).After-position))
