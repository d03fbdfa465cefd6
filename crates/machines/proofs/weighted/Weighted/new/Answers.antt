-- `new` meets its contract: the figures of the counts of states are the plant's.
use mathlib.Core.Path.{sym}
use Rattle.decoding.specs.Tables.{plant_of}
use Rattle.figures.proofs.FigureLaws.{states_limit}
use Rattle.machines.proofs.weighted.Weighted.new.Goals as goal

pub figures_of-requires : goal.figures_of-requires
figures_of-requires c =
    let limits = c.args.decoded.limits in
    rw c.states.ensures (limits.some_machine, limits.few_machines, λ m l. (states_limit _ limits m l).0)

pub invariant_of-result : goal.invariant_of-result
invariant_of-result c =
    record { one_each = c.requires.0; light = c.requires.1; figures_are = c.figures_of.ensures (plant_of c.args.decoded.shape c.args.decoded.table.now) (sym c.states.ensures) (sym c.requires.0) }
