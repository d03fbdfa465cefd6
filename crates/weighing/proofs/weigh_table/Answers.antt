use Rattle.machines.proofs.TurnLaws.{weighable}
use Rattle.weighing.proofs.WeighingLaws.{none_fails, shown_owed, passing_owed}
use Rattle.weighing.proofs.weigh_table.Goals as goal

-- `weigh_table` meets its contract: where no machine fails, the figures are owed, and else the shortest cycle that is shown.
pub returns-in-None : goal.returns-in-None
returns-in-None c =
    let w = c.args.plant.now in
    let ok = weighable w in
    passing_owed _ _ _ ok w.figures w.figures_are (none_fails _ _ _ ok c.in-None.ensures) _

pub returns-in-Some : goal.returns-in-Some
returns-in-Some c = shown_owed _ _ _ (weighable c.args.plant.now) c.show.ensures
