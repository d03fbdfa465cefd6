-- `Watcher::open` meets its contract: by the answer of quoting.
use Rattle.watchers.proofs.OpeningLaws.{passing, lengths, opens_refused, opens_quoted}
use Rattle.watchers.proofs.Watcher.open.Goals as goal

pub figures_for-requires : goal.figures_for-requires
figures_for-requires c =
    let a = c.args in
    passing a.file.now a.weights.now a.contents.now _ _ c.in-Ok.ensures

pub begun-requires : goal.begun-requires
begun-requires c =
    let a = c.args in
    lengths a.file.now a.weights.now a.contents.now _ _ c.in-Ok.ensures

pub returns-in-Err : goal.returns-in-Err
returns-in-Err c =
    let a = c.args in
    opens_refused a.file.now a.weights.now a.contents.now _ _ _ c.unopened.ensures c.in-Err.ensures

pub returns-in-Ok : goal.returns-in-Ok
returns-in-Ok c =
    let a = c.args in
    opens_quoted a.file.now a.weights.now a.contents.now _ _ c.in-Ok.ensures _ c.figures_for.ensures _ c.begun.ensures
