-- `confirm_in` meets its contract: faults of the file and of the list are handed on, and otherwise the sums are looked through.
use Rattle.std.proofs.Common.{◌∙◌, sym, arith}
use Rattle.decoding.proofs.DecodedLaws.{decoded_limits}
use Rattle.cycle_sets.proofs.ConfirmingLaws.{sums_answer}
use Rattle.cycle_sets.proofs.confirm_in.Goals as goal

pub invariant_of-decoded : goal.invariant_of-decoded
invariant_of-decoded g c = let d = c.in_ok-shape.ensures in record { ready = d.ready; limits = decoded_limits c.args.file.now c.in_ok-shape.shape _ d.table_after }

pub returns : goal.returns
returns g c =
    let d = c.in_ok-shape.ensures in
    c.lowest_negative.ensures
    ∙ sums_answer c.args.file.now c.args.set.now _ _ (sym d.table_after) c.in_ok-sums.sums _ c.from.ensures (omega (arith, c.from.ensures, d.ready.sound.few_types)) c.in_ok-sums.ensures
