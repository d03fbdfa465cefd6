-- `keep` meets its contract: by whether the key is kept.
use Rattle.std.proofs.Common.{rules}
use Rattle.twins.proofs.KeptLaws.{row_twin, row_fresh}
use Rattle.twins.proofs.Keys.keep.Goals as goal

pub returns-then-is_kept : goal.returns-then-is_kept
returns-then-is_kept g c =
    let a = c.args in
    row_twin a.self.now a.row (search rules) (search rules) a.place _ c.key_of-key.ensures _ (rw (← c.as_slice.ensures.value) c.is_kept.ensures) c.if-is_kept.true

pub returns : goal.returns
returns g c =
    let a = c.args in
    row_fresh a.self.now a.row (search rules) (search rules) a.place _ c.key_of-key.ensures _ (rw (← c.as_slice.ensures.value) c.is_kept.ensures)
    c.if-is_kept.false _ c.push.ensures.items c.with_state-self.ensures
