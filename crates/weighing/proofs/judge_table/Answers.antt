use Rattle.machines.proofs.TurnLaws.{weighable}
use Rattle.weighing.proofs.WeighingLaws.{none_fails, failing_verdict, passing_verdict}
use Rattle.weighing.proofs.judge_table.Goals as goal

-- `judge_table` meets its contract: the weights pass exactly where no machine fails.
pub returns-in-None : goal.returns-in-None
returns-in-None c =
    let w = c.args.plant.now in
    let ok = weighable w in
    passing_verdict _ _ _ ok w.figures w.figures_are (none_fails _ _ _ ok c.in-None.ensures)

pub returns-in-Some : goal.returns-in-Some
returns-in-Some c = failing_verdict _ _ _ (weighable c.args.plant.now) _ c.in-Some.ensures
