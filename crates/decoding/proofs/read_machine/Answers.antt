-- `read_machine` meets its contract: what its rows gave, put together by the laws of `read_machine`.
use Rattle.std.proofs.Common.{rules}
use Rattle.std.proofs.lemmas.Result.{err_from_is_err_and}
use mathlib.Core.Path.{◌≡◌, sym, ap, ◌∙◌}
use native.Mathlib.Omega.{arith}
use lib.ListN.{length, length-drop}
use Rattle.plant.specs.Found.{found}
use Rattle.plant.specs.Reading.{rows_byte}
use Rattle.plant.proofs.Bounds.{each_found, byte_in_each, rows_byte_each}
use Rattle.plant.proofs.MachineLaws.{no_states, no_rows, part_is}
use Rattle.plant.proofs.Gives.{given_found}
use Rattle.plant.proofs.Takes.{byte_takes, rows_byte_takes}
use Rattle.decoding.proofs.MachineReadLaws.{part_within, fault_within, machine_faulted, machine_held}
use Rattle.decoding.proofs.read_machine.Goals as goal
use Rattle.decoding.proofs.read_machine.Goals.{After-from-n}

-- The count of rows, as it is handed on.
count_read : (g : _) (c : After-from-n g) → rows_byte c.args.used c.args.file.now c.in_ok-states.states.next ≡ found c.from-n.result c.in_ok-count.count.next
count_read g c = rw c.from-n.ensures (sym c.in_ok-count.ensures)

pub returns-in_err-states-clause-machine : goal.returns-in_err-states-clause-machine
returns-in_err-states-clause-machine g c =
    let e = err_from_is_err_and c.from_residual.result c.from_residual.ensures.1 in
    λ p t u m numbered held. rw (e.1, e.2) (no_states _ _ p _ _ (sym c.in_err-states.ensures))

pub returns-in_err-count-clause-machine : goal.returns-in_err-count-clause-machine
returns-in_err-count-clause-machine g c =
    let r = c.from_residual-in_err-count in
    let e = err_from_is_err_and r.result r.ensures.1 in
    λ p t u m numbered held. rw (e.1, e.2) (no_rows _ _ p _ _ _ u (sym c.in_ok-states.ensures) _ _ (sym c.in_err-count.ensures))

pub slice_bounds-read_any_rows-count : goal.slice_bounds-read_any_rows-count
slice_bounds-read_any_rows-count g c = (each_found _ _ (rows_byte_each _ _ _) (sym c.in_ok-count.ensures)).0.inside

pub slice_bounds-read_any_rows-start : goal.slice_bounds-read_any_rows-start
slice_bounds-read_any_rows-start g c = (each_found _ _ (rows_byte_each _ _ _) (sym c.in_ok-count.ensures)).0.inside

pub read_any_rows-requires : goal.read_any_rows-requires
read_any_rows-requires g c =
    let file = c.args.file.now in
    let from = c.in_ok-count.count.next in
    let e = count_read g (goal.at.read_any_rows-requires g c).After-from-n in
    let r = each_found _ _ (rows_byte_each _ _ _) e in
    let s = given_found _ _ (byte_takes file c.args.at 1 65 3 (omega arith) (omega arith)) (sym c.in_ok-states.ensures) in
    let t = given_found _ _ (rows_byte_takes file _ _) e in
    let long = ap length (part_is file from) ∙ length-drop from file in
    let h = c.requires.room_for in (
      search rules,
      ((omega (arith, h.0, h.2, s.0, t.0, t.1, long), r.1.1, h.3), (r.1.0, omega (arith, c.requires.room_for_keys, long))),
    )

pub overflow_add-next : goal.overflow_add-next
overflow_add-next g c =
    let q = each_found _ _ (byte_in_each _ _ 1 65 3 (omega arith) (omega arith)) (sym c.in_ok-states.ensures) in
    let r = each_found _ _ (rows_byte_each _ _ _) (sym c.in_ok-count.ensures) in
    omega (arith, part_within _ _ _ _ c.in_ok-count.count.next c.args.file.now q.1.0 _ _ _ _ c.in-Ok.ensures.rows, r.0.inside, c.well_formed.0.0)

pub moved_fault-requires : goal.moved_fault-requires
moved_fault-requires g c =
    let q = each_found _ _ (byte_in_each _ _ 1 65 3 (omega arith) (omega arith)) (sym c.in_ok-states.ensures) in
    let r = each_found _ _ (rows_byte_each _ _ _) (sym c.in_ok-count.ensures) in
    omega (arith, fault_within _ _ _ _ c.in_ok-count.count.next c.args.file.now q.1.0 _ c.in-Err.ensures.rows, r.0.inside, c.well_formed.0.0)

pub returns-in-Err-clause-machine : goal.returns-in-Err-clause-machine
returns-in-Err-clause-machine g c =
    let n = count_read g (goal.at.returns-in-Err-clause-machine g c).After-from-n in
    λ p t u m numbered held.
    machine_faulted _ _ p _ _ _ u (sym c.in_ok-states.ensures) _ _ _ _ n t m numbered _ _ c.in-Err.ensures.rows c.moved_fault.ensures

pub returns-clause-machine : goal.returns-clause-machine
returns-clause-machine g c =
    let n = count_read g (goal.at.returns-clause-machine g c).After-from-n in
    λ p t u m numbered held. machine_held _ _ p _ _ _ u (sym c.in_ok-states.ensures) _ _ _ _ n t m numbered _ _ _ c.in-Ok.ensures.rows held

pub returns-clause-few_rows : goal.returns-clause-few_rows
returns-clause-few_rows g c = (each_found _ _ (rows_byte_each _ _ _) (count_read g (goal.at.returns-clause-few_rows g c).After-from-n)).1.1
