-- `edges` meets its contract: they are within the limits, since they were listed from the rows of the machine.
use Rattle.machines.proofs.TurnLaws.{failing_edges}
use Rattle.machines.proofs.Failing.edges.Goals as goal

pub invariant_of-result : goal.invariant_of-result
invariant_of-result c = record { within = rw c.states_of.ensures (failing_edges c.args.plant.now c.args.self c.requires) }
