-- `quote_weighed` meets its contract: a fault of the checks is handed on, and good numbers are priced.
use Rattle.plant.proofs.Exits.{handed_on}
use mathlib.Core.Bool.{true}
use mathlib.Core.List.{[], ◌∷◌}
use native.Mathlib.Omega.{arith}
use lib.ListN.{length}
use Rattle.figures.specs.FigureSums.{figures_in}
use Rattle.contents.proofs.AmountLaws.{check_good, contents_limit}
use Rattle.quoting.proofs.OwedLaws.{refused_passing, check_priced}
use Rattle.quoting.proofs.quote_weighed.Goals as goal

pub returns-in_err-figures : goal.returns-in_err-figures
returns-in_err-figures c =
    let a = c.args in
    rw (handed_on _ c.from_residual.ensures.1) (refused_passing a.passing a.weights.now a.given.contents.now a.given.g a.given.d _ c.in_err-figures.ensures.checks)

pub contents_weight-weight-requires : goal.contents_weight-weight-requires
contents_weight-weight-requires c =
    let p = c.requires in
    let good = check_good (length c.args.weights.now) c.args.given.contents.now (c.args.given.g ∷ c.args.given.d ∷ []) _ c.in_ok-figures.ensures.checks in
    (p.1, good.0, p.2, good.1)

pub price-requires : goal.price-requires
price-requires c =
    let a = c.args in
    let p = c.requires in
    let good = check_good (length c.args.weights.now) c.args.given.contents.now (c.args.given.g ∷ c.args.given.d ∷ []) _ c.in_ok-figures.ensures.checks in
    let limit = contents_limit a.weights.now a.given.contents.now (length a.weights.now) p.1 p.2 good.1 in
    let fit = rw c.in_ok-figures.ensures.handed_on at p.0 in
    (fit, omega (arith, c.contents_weight-weight.ensures, limit), omega (arith, good.2 0), omega (arith, good.2 1))

pub returns : goal.returns
returns c =
    let a = c.args in
    let w = c.contents_weight-weight in
    let checks = rw c.in_ok-figures.ensures.handed_on at c.in_ok-figures.ensures.checks in
    rw c.in_ok-figures.ensures.handed_on (check_priced true (figures_in c.in_ok-figures.figures) a.weights.now a.given.contents.now a.given.g a.given.d w.result _ w.ensures (rw (c.from.ensures, c.from-2.ensures) at c.price.ensures) checks)
