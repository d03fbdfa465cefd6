-- `write_plant` meets its contract: two counts are judged and stored, then the machines, and then the list ends.
use mathlib.Core.Path.{sym}
use native.Mathlib.Omega.{arith}
use Rattle.std.proofs.Common.{rules}
use Rattle.plant.proofs.Exits.{handed_on}
use Rattle.plant_lists.proofs.NumberLaws.{found_inside, below_end}
use Rattle.writing.proofs.PlantLaws.{no_machine_count, no_type_count, no_machine, no_end, plant_is}
use Rattle.writing.proofs.write_plant.Goals as goal

pub returns-in_err-machines-clause-plant_stored : goal.returns-in_err-machines-clause-plant_stored
returns-in_err-machines-clause-plant_stored c =
    rw (handed_on _ c.from_residual.ensures.1) (no_machine_count c.args.numbers.now _ _ _ (sym c.in_err-machines.ensures))

pub returns-in_err-types-clause-plant_stored : goal.returns-in_err-types-clause-plant_stored
returns-in_err-types-clause-plant_stored c =
    rw (handed_on _ c.from_residual-in_err-types.ensures.1) (no_type_count c.args.numbers.now _ _ _ _ (sym c.in_ok-machines.ensures) _ (sym c.in_err-types.ensures))

pub put-requires : goal.put-requires
put-requires c =
    let first = found_inside _ _ _ _ _ (sym c.in_ok-machines.ensures) in
    let second = found_inside _ _ _ _ _ (sym c.in_ok-types.ensures) in
    omega (arith, first.1, second.0, c.requires.0)

pub put-requires-2 : goal.put-requires-2
put-requires-2 c =
    let first = found_inside _ _ _ _ _ (sym c.in_ok-machines.ensures) in
    let second = found_inside _ _ _ _ _ (sym c.in_ok-types.ensures) in
    omega (arith, first.1, second.0, c.put.ensures.upper_bound, c.put.ensures.long, c.requires.0)

pub write_machines-requires : goal.write_machines-requires
write_machines-requires c =
    let first = found_inside _ _ _ _ _ (sym c.in_ok-machines.ensures) in
    let second = found_inside _ _ _ _ _ (sym c.in_ok-types.ensures) in (
      omega (arith, below_end 0 65 _ _ _ _ (sym c.in_ok-types.ensures)),
      record {
        space = omega (arith, c.requires.0, c.put.ensures.long, c.put-2.ensures.long);
        inside = omega (arith, second.0, second.1);
        behind = omega (arith, first.1, second.1, c.put.ensures.upper_bound, c.put-2.ensures.upper_bound);
        within =
            omega (arith, c.from-n.ensures, below_end 1 17 _ _ _ _ (sym c.in_ok-machines.ensures), c.put.ensures.upper_bound, c.put-2.ensures.upper_bound);
      },
      c.requires.1,
    )

pub returns-in_err-end-clause-plant_stored : goal.returns-in_err-end-clause-plant_stored
returns-in_err-end-clause-plant_stored c =
    rw (handed_on _ c.from_residual-in_err-end.ensures.1) (no_machine c.args.numbers.now _ _ _ _ (sym c.in_ok-machines.ensures) _ _ (sym c.in_ok-types.ensures) _ _ _ _ _
    (rw c.from-n.ensures at c.in_err-end.ensures.machines_stored))

pub returns-in_err-list_end-clause-plant_stored : goal.returns-in_err-list_end-clause-plant_stored
returns-in_err-list_end-clause-plant_stored c =
    rw (handed_on _ c.from_residual-in_err-list_end.ensures.1) (no_end c.args.numbers.now _ _ _ _ (sym c.in_ok-machines.ensures) _ _ (sym c.in_ok-types.ensures) _ _ _ _ _
    (rw c.from-n.ensures at c.in_ok-end.ensures.machines_stored) _ c.in_err-list_end.ensures)

pub returns-clause-plant_stored : goal.returns-clause-plant_stored
returns-clause-plant_stored c =
    plant_is c.args.numbers.now _ _ _ _ (sym c.in_ok-machines.ensures) _ _ (sym c.in_ok-types.ensures) _ _ _ _ _
    (rw c.from-n.ensures at c.in_ok-end.ensures.machines_stored) _ _ c.put.ensures.stored c.put-2.ensures.stored c.in_ok-list_end.ensures (search rules)

pub returns-clause-near : goal.returns-clause-near
returns-clause-near c =
    let near = c.in_ok-end.ensures.near in (
      omega (arith, near),
      omega (arith, near, c.from-n.ensures, below_end 1 17 _ _ _ _ (sym c.in_ok-machines.ensures), c.put.ensures.upper_bound, c.put-2.ensures.upper_bound),
    )
