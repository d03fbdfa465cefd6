-- `weigh_in` meets its contract: a fault of the file, of the weights or of the lent list is handed on, and the machines of a file without one are weighed.
use Rattle.plant.proofs.Exits.{handed_on}
use native.Mathlib.Omega.{arith}
use lib.ListN.{length}
use mathlib.Core.Path.{◌≡◌, ap, ◌∙◌}
use Rattle.plant.specs.Found.{found}
use Rattle.decoding.specs.Tables.{plant_of}
use Rattle.decoding.specs.declared.decoded.Decoded.{Decoded}
use Rattle.decoding.proofs.DecodedLaws.{decoded_limits}
use Rattle.std.specs.Prelude.{Ok, Err}
use Rattle.weight_checks.specs.Checks.{judged}
use Rattle.weighing.proofs.WeighingLaws.{file_unweighed, checks_judged, judged_weighable, refusal, owed_same}
use Rattle.weighing.proofs.weigh_in.Goals as goal
use Rattle.weighing.proofs.weigh_in.Given.{Over}
use Rattle.weighing.proofs.weigh_in.Goals.{In_ok-check_weighing}

-- Without a fault the plant of the table is what is judged.
plant_judged : (g : Over) (c : In_ok-check_weighing g) → found (plant_of c.in_ok-shape.shape c.decode.new.table) (length c.args.file.now) ≡ judged c.args.file.now c.args.weights.now (length c.args.cycle.now)
plant_judged g c =
    checks_judged c.in_ok-shape.shape c.decode.new.table c.args.file.now c.args.weights.now (length c.args.cycle.now) _ c.in_ok-shape.ensures.table_after (Ok c.in_ok-check_weighing.field-0) _ c.in_ok-check_weighing.ensures c.from.ensures

pub returns-in_err-shape : goal.returns-in_err-shape
returns-in_err-shape g c =
    rw (handed_on _ c.from_residual.ensures.1) (refusal c.args.weights.now c.args.cycle.now _ _ _ (file_unweighed _ _ _ _ _ c.in_err-shape.ensures.table_after))

pub returns-in_err-check_weighing : goal.returns-in_err-check_weighing
returns-in_err-check_weighing g c =
    let same = checks_judged c.in_ok-shape.shape c.decode.new.table c.args.file.now c.args.weights.now (length c.args.cycle.now) _ c.in_ok-shape.ensures.table_after (Err c.in_err-check_weighing.field-0.0) _ c.in_err-check_weighing.ensures c.from.ensures in
    rw (handed_on _ c.from_residual-in_err-check_weighing.ensures.1) (refusal c.args.weights.now c.args.cycle.now _ _ _ same)

pub invariant_of-new : goal.invariant_of-new
invariant_of-new g c =
    let d = c.in_ok-shape.ensures in
    record { ready = d.ready; limits = decoded_limits c.args.file.now c.in_ok-shape.shape _ d.table_after }

pub new-plant-requires : goal.new-plant-requires
new-plant-requires g c =
    let same = plant_judged g (goal.at.new-plant-requires g c).In_ok-check_weighing in
    let good = judged_weighable c.in_ok-shape.ensures.ready c.args.file.now c.args.weights.now _ _ same in
    (good.0.one_each, good.0.light)

pub weigh_table-requires : goal.weigh_table-requires
weigh_table-requires g c =
    let same = plant_judged g (goal.at.weigh_table-requires g c).In_ok-check_weighing in
    let good = judged_weighable c.in_ok-shape.ensures.ready c.args.file.now c.args.weights.now _ _ same in
    (omega (arith, ap (λ (d : Decoded). length d.table.now) c.new-plant.ensures.decoded), good.1)

pub returns : goal.returns
returns g c =
    let same = plant_judged g (goal.at.returns g c).In_ok-check_weighing in
    let plant = ap (λ (d : Decoded). found (plant_of d.shape d.table.now) (length c.args.file.now)) c.new-plant.ensures.decoded in
    owed_same c.args.weights.now c.args.cycle.now _ _ _ _ (plant ∙ same) (rw c.new-plant.ensures.weights at (c.weigh_table.ensures (length c.args.file.now)))
