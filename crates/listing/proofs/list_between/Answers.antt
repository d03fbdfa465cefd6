use mathlib.Core.Path.{refl}
use native.Mathlib.Omega.{arith}
use Rattle.machine_graphs.proofs.GraphLaws.{none_of_states}
use Rattle.listing.specs.Inner.Machines.{entries_between}
use Rattle.listing.proofs.TableCycles.{entries_are}
use Rattle.listing.proofs.AnswerLaws.{too_short, enough}
use Rattle.listing.proofs.list_between.Goals as goal

pub add_rows-requires : goal.add_rows-requires
add_rows-requires c = (c.requires, none_of_states _ _ c.without_rows-graph.ensures)

-- `list_between` meets its contract: the entries are counted, and stored if they fit.
pub returns-then-needed-room : goal.returns-then-needed-room
returns-then-needed-room c =
    let a = c.args in
    let graph = c.add_rows.ensures in
    let pass = c.count_rows-needed in
    λ end. too_short _ (entries_between a.table.now a.first a.last) a.out.now (entries_are a.table.now a.first a.last c.requires _ _ graph.copied) pass.result pass.ensures end (omega (arith, c.if-needed-room.true)) _ refl

pub returns : goal.returns
returns c =
    let a = c.args in
    let graph = c.add_rows.ensures in
    let pass = c.count_rows-needed in
    λ end. enough _ (entries_between a.table.now a.first a.last) a.out.now (entries_are a.table.now a.first a.last c.requires _ _ graph.copied) pass.result pass.ensures end (omega (arith, c.if-needed-room.false)) c.list_rows.ensures _ c.ok_or.ensures.value
