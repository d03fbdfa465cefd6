-- `judge_in` meets its contract: a fault of the file or of the weights is handed on, and the machines of a file without one are judged.
use Rattle.plant.proofs.Exits.{handed_on}
use lib.ListN.{length}
use mathlib.Core.Path.{◌≡◌, ap, ◌∙◌, subst}
use Rattle.plant.specs.Found.{found}
use Rattle.decoding.specs.Tables.{plant_of}
use Rattle.decoding.specs.declared.decoded.Decoded.{Decoded}
use Rattle.decoding.proofs.DecodedLaws.{decoded_limits}
use Rattle.std.specs.Prelude.{Ok, Err}
use Rattle.weighing.specs.Weighing.{OwedVerdict}
use Rattle.weight_checks.specs.Checks.{judged_weights}
use Rattle.weighing.proofs.WeighingLaws.{file_refused, weights_judged, weights_weighable, verdict_refusal}
use Rattle.weighing.proofs.judge_in.Goals as goal
use Rattle.weighing.proofs.judge_in.Given.{Over}
use Rattle.weighing.proofs.judge_in.Goals.{In_ok-check_weights}

-- Without a fault the plant of the table is what is judged.
plant_judged : (g : Over) (c : In_ok-check_weights g) → found (plant_of c.in_ok-shape.shape c.decode.new.table) (length c.args.file.now) ≡ judged_weights c.args.file.now c.args.weights.now
plant_judged g c =
    weights_judged c.in_ok-shape.shape c.decode.new.table c.args.file.now c.args.weights.now _ c.in_ok-shape.ensures.table_after (Ok c.in_ok-check_weights.field-0) _ c.in_ok-check_weights.ensures c.from.ensures

pub returns-in_err-shape : goal.returns-in_err-shape
returns-in_err-shape g c =
    rw (handed_on _ c.from_residual.ensures.1) (verdict_refusal c.args.weights.now _ _ _ (file_refused _ _ _ _ c.in_err-shape.ensures.table_after))

pub returns-in_err-check_weights : goal.returns-in_err-check_weights
returns-in_err-check_weights g c =
    let same = weights_judged c.in_ok-shape.shape c.decode.new.table c.args.file.now c.args.weights.now _ c.in_ok-shape.ensures.table_after (Err c.in_err-check_weights.field-0.0) _ c.in_err-check_weights.ensures c.from.ensures in
    rw (handed_on _ c.from_residual-in_err-check_weights.ensures.1) (verdict_refusal c.args.weights.now _ _ _ same)

pub invariant_of-new : goal.invariant_of-new
invariant_of-new g c =
    let d = c.in_ok-shape.ensures in
    record { ready = d.ready; limits = decoded_limits c.args.file.now c.in_ok-shape.shape _ d.table_after }

pub new-plant-requires : goal.new-plant-requires
new-plant-requires g c =
    let same = plant_judged g (goal.at.new-plant-requires g c).In_ok-check_weights in
    let good = weights_weighable c.in_ok-shape.ensures.ready c.args.file.now c.args.weights.now _ same in
    (good.one_each, good.light)

pub returns : goal.returns
returns g c =
    let same = plant_judged g (goal.at.returns g c).In_ok-check_weights in
    let plant = ap (λ (d : Decoded). found (plant_of d.shape d.table.now) (length c.args.file.now)) c.new-plant.ensures.decoded in
    subst (OwedVerdict c.args.weights.now _) (plant ∙ same) (rw c.new-plant.ensures.weights at (c.judge_table.ensures (length c.args.file.now)))
