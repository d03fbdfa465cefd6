-- `read_with` meets its contract: what its parts found, put together by the laws of `read_plant`.
use Rattle.std.proofs.Common.{rules}
use Rattle.std.proofs.lemmas.Result.{err_from_is_err_and}
use mathlib.Core.Path.{◌≡◌, sym, ap, ◌∙◌}
use native.Mathlib.Omega.{arith}
use Rattle.livelock.specs.Plants.{Plant}
use Rattle.plant.specs.Found.{Found, found, and_then}
use Rattle.plant.specs.Reading.{count_byte, read_machines, no_machines, file_end, read_plant}
use Rattle.plant.proofs.Bounds.{each_found, byte_in_each}
use Rattle.plant.proofs.PlantLaws.{no_machine_count, no_type_count, file_read}
use Rattle.decoding.proofs.PlantReadLaws.{plant_faulted, plant_read}
use Rattle.decoding.proofs.read_with.Goals as goal
use Rattle.decoding.proofs.read_with.Goals.{After-from-n}

-- After both counts the machines decide, and then whether the file ends behind them.
file_is : (g : _) (c : After-from-n g)
    → and_then (read_machines c.from-n.result c.args.file.now c.in_ok-types.types.next (no_machines c.in_ok-types.types.value)) (file_end c.args.file.now)
    ≡ read_plant c.args.file.now
file_is g c =
    let m : count_byte 1 16 2 c.args.file.now 0 ≡ found c.from-n.result c.in_ok-machines.machines.next = rw c.from-n.ensures (sym c.in_ok-machines.ensures) in
    file_read _ _ _ m _ _ (sym c.in_ok-types.ensures)

pub returns-in_err-machines-clause-plant : goal.returns-in_err-machines-clause-plant
returns-in_err-machines-clause-plant g c =
    let r = c.from_residual in
    let p = err_from_is_err_and r.result r.ensures.1 in
    rw (p.1, p.2) (no_machine_count _ _ _ (sym c.in_err-machines.ensures))

pub returns-in_err-types-clause-plant : goal.returns-in_err-types-clause-plant
returns-in_err-types-clause-plant g c =
    let r = c.from_residual-in_err-types in
    let p = err_from_is_err_and r.result r.ensures.1 in
    rw (p.1, p.2) (no_type_count _ _ _ (sym c.in_ok-machines.ensures) _ _ (sym c.in_err-types.ensures))

pub read_machines-requires : goal.read_machines-requires
read_machines-requires g c =
    let m = each_found _ _ (byte_in_each _ _ 1 17 2 (omega arith) (omega arith)) (sym c.in_ok-machines.ensures) in
    let t = each_found _ _ (byte_in_each _ _ 0 65 2 (omega arith) (omega arith)) (sym c.in_ok-types.ensures) in
    let p = c.requires in
    (search rules, ((p.room_for.0, omega (arith, t.1.1), omega (arith, m.1.1, c.from-n.ensures), t.0.inside, p.room_for.1), p.no_rows))

pub returns-in_err-read-clause-plant : goal.returns-in_err-read-clause-plant
returns-in_err-read-clause-plant g c =
    let r = c.from_residual-in_err-read in
    let p = err_from_is_err_and r.result r.ensures.1 in
    rw (p.1, p.2)
    (ap (λ (y : Found Plant). and_then y (file_end c.args.file.now)) c.in_err-read.ensures.machines ∙ file_is g (goal.at.returns-in_err-read-clause-plant g c).After-from-n)

pub returns-in_err-ends_at-clause-plant : goal.returns-in_err-ends_at-clause-plant
returns-in_err-ends_at-clause-plant g c =
    let r = c.from_residual-in_err-ends_at in
    let p = err_from_is_err_and r.result r.ensures.1 in
    rw (p.1, p.2)
    (plant_faulted _ _ _ c.in_ok-read.ensures.machines (file_is g (goal.at.returns-in_err-ends_at-clause-plant g c).After-from-n) _ c.in_err-ends_at.ensures)

pub returns-clause-plant : goal.returns-clause-plant
returns-clause-plant g c =
    plant_read _ _ _ c.in_ok-read.ensures.machines (file_is g (goal.at.returns-clause-plant g c).After-from-n) _ c.in_ok-ends_at.ensures
