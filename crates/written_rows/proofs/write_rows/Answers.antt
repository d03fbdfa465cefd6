use Rattle.std.proofs.Common.{refl, sym, ◌∙◌}
use Prim.Native.Nat.{zero-le}
use native.Mathlib.Omega.{arith}
use Rattle.plant_rows.specs.Rows.{fields_row}
use Rattle.plant.proofs.Exits.{handed_on}
use Rattle.plant_lists.proofs.RowSaid.{row_inside}
use Rattle.written_rows.proofs.RowsLaws.{rows_begin, row_next, row_is_twin, rows_finish, rows_stop}
use Rattle.written_rows.proofs.write_rows.Goals as goal

pub loop-i-init : goal.loop-i-init
loop-i-init c =
    let p = c.requires.2 in (
      refl,
      record {
        going = λ m q t none. rows_begin _ m _ _ _ q _ _ _ none;
        within = zero-le;
        reached = omega arith;
        inside = p.inside;
        behind = p.behind;
        near = omega arith;
        long = refl;
        keys_long = refl;
      },
    )

pub returns-in_err-row-clause-by_index : goal.returns-in_err-row-clause-by_index
returns-in_err-row-clause-by_index c =
    let a = c.args in
    let l = c.loop-i in
    rw (handed_on _ c.from_residual.ensures.1) (λ m p t none. rows_stop a.n m a.states a.start a.numbers.now p a.file.now.bytes.now a.file.now.end l.i l.at l.file.bytes.now l.file.end l.implied l.keys l.left (l.invariant.1.going m p t none) (omega (arith, c.loop-i-test.true)) _ (rw t (sym (c.in_err-row.ensures m))))

pub keep_row-requires : goal.keep_row-requires
keep_row-requires c =
    let a = c.args in
    let l = c.loop-i in
    let there = row_inside 0 a.states a.types a.numbers.now l.at _ _ (sym (c.in_ok-row.ensures 0)) in
    omega (arith, there, l.invariant.1.reached, l.invariant.1.keys_long, c.requires.3, c.requires.4, c.loop-i-test.true)

pub returns-in_default-clause-by_index : goal.returns-in_default-clause-by_index
returns-in_default-clause-by_index c =
    let a = c.args in
    let l = c.loop-i in
    let row = c.in_ok-row.row in
    λ m p t none. row_is_twin a.n m a.states a.start a.numbers.now p a.file.now.bytes.now a.file.now.end l.i l.at l.file.bytes.now l.file.end l.implied l.keys l.left (l.invariant.1.going m p t none) (omega (arith, c.loop-i-test.true)) row.value (fields_row m row.value) row.next _ refl
    (rw t (sym (c.in_ok-row.ensures m))) c.in_default.ensures

pub put_row-requires : goal.put_row-requires
put_row-requires c =
    let a = c.args in
    let l = c.loop-i in
    let room = c.requires.2 in
    let there = row_inside 0 a.states a.types a.numbers.now l.at _ _ (sym (c.in_ok-row.ensures 0)) in
    omega (arith, there, c.loop-i-test.true, l.invariant.1.behind, l.invariant.1.near, l.invariant.1.long, room.space, room.within)

pub loop-i-preserved : goal.loop-i-preserved
loop-i-preserved c =
    let a = c.args in
    let l = c.loop-i in
    let i = l.invariant.1 in
    let there = row_inside 0 a.states a.types a.numbers.now l.at _ _ (sym (c.in_ok-row.ensures 0)) in
    let row = c.in_ok-row.row in
    let put = c.put_row.ensures in (
      put.same_list ∙ l.invariant.0,
      record {
        going =
            λ m p t none.
            rw c.from-implied.ensures
            (row_next a.n m a.states a.start a.numbers.now p a.file.now.bytes.now a.file.now.end l.i l.at l.file.bytes.now l.file.end l.implied l.keys l.left (i.going m p t none) (omega (arith, c.loop-i-test.true)) row.value (fields_row m row.value) row.next _ _ _ _ refl refl
            (rw t (sym (c.in_ok-row.ensures m))) c.in-Some.ensures (put.by_index m));
        within = omega (arith, c.loop-i-test.true);
        reached = omega (arith, there, i.reached);
        inside = there.1;
        behind = omega (arith, there, put.upper_bound, i.behind);
        near = omega (arith, put.upper_bound, i.near);
        long = put.long ∙ i.long;
        keys_long = c.keep_row.ensures.long ∙ i.keys_long;
      },
    )

pub returns-clause-by_index : goal.returns-clause-by_index
returns-clause-by_index c =
    let a = c.args in
    let l = c.loop-i in
    let i = l.invariant.1 in
    λ m p t none. rows_finish a.n m a.states a.start a.numbers.now p a.file.now.bytes.now a.file.now.end l.i l.at l.file.bytes.now l.file.end l.implied l.keys l.left (i.going m p t none) i.within (omega (arith, c.loop-i-test.false))
