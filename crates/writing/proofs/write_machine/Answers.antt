-- `write_machine` meets its contract: two counts are judged and stored, and then the rows.
use Rattle.std.proofs.Common.{◌≡◌, ◌+◌, ◌-◌, ◌*◌, refl, sym}
use native.Mathlib.Omega.{arith}
use Rattle.std.specs.Prelude.{Ok}
use Rattle.livelock.specs.Plants.{machine_count}
use Rattle.plant.specs.Limits.{most_row_bytes}
use Rattle.plant.specs.Reading.{with_machine}
use Rattle.plant.proofs.Exits.{handed_on}
use Rattle.plant.proofs.MachineRows.{rows_in_next}
use Rattle.plant_lists.proofs.NumberLaws.{found_inside, below_end, few_rows}
use Rattle.writing.proofs.MachineLaws.{near_more, no_states, no_rows, machine_is}
use Rattle.writing.proofs.write_machine.Goals as goal

pub returns-in_err-states-clause-machine_stored : goal.returns-in_err-states-clause-machine_stored
returns-in_err-states-clause-machine_stored c =
    let a = c.args in
    let f = a.file.now in
    rw (handed_on _ c.from_residual.ensures.1) (λ q t u numbered. no_states a.numbers.now a.before.at q _ _ f.end f.end a.before.rows u _ (sym c.in_err-states.ensures))

pub returns-in_err-count-clause-machine_stored : goal.returns-in_err-count-clause-machine_stored
returns-in_err-count-clause-machine_stored c =
    let a = c.args in
    let f = a.file.now in
    rw (handed_on _ c.from_residual-in_err-count.ensures.1) (λ q t u numbered. no_rows a.numbers.now a.before.at q _ _ f.end f.end a.before.rows u _ _ (sym c.in_ok-states.ensures) _ (sym c.in_err-count.ensures))

pub put-requires : goal.put-requires
put-requires c =
    let first = found_inside _ _ _ _ _ (sym c.in_ok-states.ensures) in
    let second = found_inside _ _ _ _ _ (sym c.in_ok-count.ensures) in
    omega (arith, first.1, second.0, c.requires.2.space, c.requires.2.behind, c.requires.2.within)

pub put-requires-2 : goal.put-requires-2
put-requires-2 c =
    let first = found_inside _ _ _ _ _ (sym c.in_ok-states.ensures) in
    let second = found_inside _ _ _ _ _ (sym c.in_ok-count.ensures) in
    omega (arith, first.1, second.0, c.put.ensures.upper_bound, c.put.ensures.long, c.requires.2.space, c.requires.2.behind, c.requires.2.within)

pub write_rows-requires : goal.write_rows-requires
write_rows-requires c =
    let a = c.args in
    let first = found_inside _ _ _ _ _ (sym c.in_ok-states.ensures) in
    let second = found_inside _ _ _ _ _ (sym c.in_ok-count.ensures) in
    let few = few_rows a.before.rows a.numbers.now _ _ _ (sym c.in_ok-count.ensures) in
    let n = c.from-n.ensures in (
      omega (arith, below_end 1 65 _ _ _ _ (sym c.in_ok-states.ensures)),
      c.requires.0,
      record {
        space = omega (arith, c.requires.2.space, c.put.ensures.long, c.put-2.ensures.long);
        inside = omega (arith, second.0, second.1);
        behind = omega (arith, first.1, second.1, c.put.ensures.upper_bound, c.put-2.ensures.upper_bound, c.requires.2.behind);
        within = omega (arith, n, few.1, c.put.ensures.upper_bound, c.put-2.ensures.upper_bound, c.requires.2.within);
      },
      omega (arith, n, few.0),
      c.requires.3,
    )

pub returns-in_err-at-clause-machine_stored : goal.returns-in_err-at-clause-machine_stored
returns-in_err-at-clause-machine_stored c =
    let a = c.args in
    rw (handed_on _ c.from_residual-in_err-at.ensures.1) (λ q t u numbered. machine_is a.numbers.now a.before.at q _ _ a.file.now.end _ a.before.rows u _ _ (sym c.in_ok-states.ensures) _ _ (sym c.in_ok-count.ensures) _ _ _ _ _ _ refl
    c.put.ensures.stored c.put-2.ensures.stored (rw c.from-n.ensures at (c.in_err-at.ensures.by_index (machine_count q) (with_machine q c.in_ok-states.states.value) t (rows_in_next q numbered))))

pub returns-clause-machine_stored : goal.returns-clause-machine_stored
returns-clause-machine_stored c =
    let a = c.args in
    let used = a.before.rows in
    let total : used + c.from-n.result ≡ used + c.in_ok-count.count.value = omega (arith, c.from-n.ensures) in
    λ q t u numbered. machine_is a.numbers.now a.before.at q _ _ a.file.now.end _ used u _ _ (sym c.in_ok-states.ensures) _ _ (sym c.in_ok-count.ensures) _ _ _ _ _ _ total
    c.put.ensures.stored c.put-2.ensures.stored
    (rw c.from-n.ensures at (c.in_ok-at.ensures.by_index (machine_count q) (with_machine q c.in_ok-states.states.value) t (rows_in_next q numbered)))

pub returns-clause-near : goal.returns-clause-near
returns-clause-near c =
    let a = c.args in
    let n = c.in_ok-count.count.value in
    let used = a.before.rows in
    let few = few_rows used a.numbers.now _ _ _ (sym c.in_ok-count.ensures) in
    let total : used + c.from-n.result ≡ used + n = omega (arith, c.from-n.ensures) in (
      omega arith,
      omega (arith, few.1, total),
      near_more a.numbers.now (c.put-2.new.self.end + most_row_bytes * n) (a.file.now.end + 2 + most_row_bytes * (used + c.from-n.result - used)) c.write_rows.new.file.end (Ok c.in_ok-at.at)
          (omega (arith, total, c.put.ensures.upper_bound, c.put-2.ensures.upper_bound)) (rw c.from-n.ensures at c.in_ok-at.ensures.near),
    )
