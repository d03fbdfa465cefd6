-- `row_can` meets its contract: by its two tests.
use mathlib.Core.Bool.{false≢true}
use Rattle.std.proofs.Common.{sym, ◌∙◌}
use Rattle.configurations.proofs.RowLaws.{other_state, right_state}
use Rattle.configurations.proofs.row_can.Goals as goal

pub returns-then-is_in : goal.returns-then-is_in
returns-then-is_in c =
    let a = c.args in
    right_state a.row a.states.now a.contents.now (c.is_in.ensures.0 c.if-is_in.true) _ c.is_there.ensures

pub returns-else-is_in : goal.returns-else-is_in
returns-else-is_in c =
    let a = c.args in
    rw c.if-is_in.false (other_state a.row a.states.now a.contents.now (λ h. false≢true (sym c.if-is_in.false ∙ c.is_in.ensures.1 h)))
