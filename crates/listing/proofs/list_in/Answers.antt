-- `list_in` meets its contract: a fault of the file is handed on, and the table of a file that reads is checked and the machine listed.
use Rattle.std.proofs.lemmas.Result.{err_from_is_err_and}
use mathlib.Core.Path.{refl, sym}
use Rattle.decoding.proofs.DecodedLaws.{decoded_limits}
use Rattle.listing.proofs.AnswerLaws.{file_answers}
use Rattle.listing.proofs.list_in.Goals as goal

pub returns-in_err-shape : goal.returns-in_err-shape
returns-in_err-shape g c =
    let p = err_from_is_err_and c.from_residual.result c.from_residual.ensures.1 in
    rw (p.1, p.2)
    (file_answers c.args.file.now c.args.machine c.args.out.now c.args.out.now _ _ (sym c.in_err-shape.ensures.table_after) (record { answer = refl; list_after = refl }))

pub invariant_of-list_checked : goal.invariant_of-list_checked
invariant_of-list_checked g c =
    let d = c.in_ok-shape.ensures in
    record { ready = d.ready; limits = decoded_limits c.args.file.now c.in_ok-shape.shape _ d.table_after }

pub returns : goal.returns
returns g c = file_answers c.args.file.now c.args.machine c.args.out.now _ _ _ (sym c.in_ok-shape.ensures.table_after) (c.list_checked.ensures _)
