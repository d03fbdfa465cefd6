-- `quote` meets its contract: a fault of the verdict is handed on, and after another verdict the contents, g and d are checked and the ceiling is quoted.
use Rattle.plant.proofs.Exits.{handed_on}
use Rattle.quoting.proofs.OwedLaws.{quote_refused, passing_fits, quote_owed}
use Rattle.quoting.proofs.quote.Goals as goal

pub returns-in_err-passing : goal.returns-in_err-passing
returns-in_err-passing c =
    let a = c.args in
    rw (handed_on _ c.from_residual.ensures.1) (quote_refused a.file.now a.weights.now a.contents.now a.g a.d _ _ c.in_err-passing.ensures)

pub quote_weighed-requires : goal.quote_weighed-requires
quote_weighed-requires c =
    let a = c.args in
    passing_fits a.file.now a.weights.now a.contents.now a.g a.d _ c.in_ok-passing.ensures

pub returns : goal.returns
returns c =
    let a = c.args in
    quote_owed a.file.now a.weights.now a.contents.now a.g a.d _ c.in_ok-passing.ensures _ c.quote_weighed.ensures
