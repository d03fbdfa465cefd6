-- `first_numbers` meets its contract: each number stands where the one before it ends.
use Rattle.std.proofs.Common.{ℕ, get_or, ap, ◌∙◌, sym, arith}
use Rattle.plant.proofs.Exits.{handed_on}
use Rattle.set_numbers.proofs.NumberLaws.{number_read, no_machine, no_repeats, count_next}
use Rattle.set_numbers.proofs.first_numbers.Goals as goal

pub returns-in_err-machine-clause-rows : goal.returns-in_err-machine-clause-rows
returns-in_err-machine-clause-rows c =
    rw (handed_on _ c.from_residual.ensures.1) (no_machine _ _ _ _ _ (sym c.in_err-machine.ensures))

pub returns-in_err-repeats-clause-rows : goal.returns-in_err-repeats-clause-rows
returns-in_err-repeats-clause-rows c =
    rw (handed_on _ c.from_residual-in_err-repeats.ensures.1) (no_repeats _ _ _ _ _ (sym c.in_ok-machine.ensures) _ _ (sym c.in_err-repeats.ensures))

pub returns-in_err-rows-clause-rows : goal.returns-in_err-rows-clause-rows
returns-in_err-rows-clause-rows c =
    rw (handed_on _ c.from_residual-in_err-rows.ensures.1) (c.in_err-rows.ensures ∙ count_next _ _ _ _ _ (sym c.in_ok-machine.ensures) _ _ (sym c.in_ok-repeats.ensures))

pub returns-clause-rows : goal.returns-clause-rows
returns-clause-rows c = c.in_ok-rows.ensures ∙ count_next _ _ _ _ _ (sym c.in_ok-machine.ensures) _ _ (sym c.in_ok-repeats.ensures)

pub returns-clause-head : goal.returns-clause-head
returns-clause-head c =
    let set = c.args.set.now in
    let machine = number_read _ _ set _ _ _ (sym c.in_ok-machine.ensures) in
    let repeats = number_read _ _ set _ _ _ (sym c.in_ok-repeats.ensures) in
    let rows = number_read _ _ set _ _ _ (sym c.in_ok-rows.ensures) in
    record {
      machine_is = machine.is;
      repeats_are = rw machine.next_is at repeats.is;
      rows_are = rows.is ∙ ap (λ (i : ℕ). get_or set i 0) (omega (arith, machine.next_is, repeats.next_is));
    }
