use Rattle.std.proofs.Common.{rules}
use Rattle.std.proofs.lemmas.Result.{err_from_is_err_and}
use mathlib.Core.Path.{refl, sym, ◌∙◌}
use native.Mathlib.Omega.{arith}
use Rattle.plant.proofs.Gives.{given_found}
use Rattle.plant.proofs.Takes.{row_takes}
use Rattle.decoding.proofs.RowReadLaws.{rows_begin, rows_stop, rows_twin, rows_go_on, rows_end}
use Rattle.decoding.proofs.read_rows.Goals as goal

pub loop-i-init : goal.loop-i-init
loop-i-init g c =
    (record { within = search rules; count = c.clear.ensures.none; behind = search rules; rest = λ p t none. rows_begin _ _ _ _ _ _ _ p _ t (c.clear.ensures.kept _ _ none) }, refl, refl)

pub returns-in_err-row-clause-rows : goal.returns-in_err-row-clause-rows
returns-in_err-row-clause-rows g c =
    let e = err_from_is_err_and c.from_residual.result c.from_residual.ensures.1 in
    λ p t none.
    rw (e.1, e.2) (rows_stop _ _ _ _ _ _ _ p _ _ _ _ _ (c.loop-i.invariant.0.rest p t none) c.loop-i-test.true _ (sym (c.in_err-row.ensures c.args.head.machine)))

pub keep-requires : goal.keep-requires
keep-requires g c =
    let h = c.loop-i.invariant.0 in
    let t = given_found _ _ (row_takes c.args.s.now 0 c.args.head.states c.args.types _ _) (sym (c.in_ok-row.ensures 0)) in
    omega (arith, t.0, t.1, h.behind, h.count, c.requires.room_for_keys.0, c.requires.room_for_keys.1, c.loop-i-test.true)

pub returns-in_err-keep-clause-rows : goal.returns-in_err-keep-clause-rows
returns-in_err-keep-clause-rows g c =
    let r = c.from_residual-in_err-keep in
    let e = err_from_is_err_and r.result r.ensures.1 in
    λ p t none.
    rw (e.1, e.2)
    (rows_twin _ _ _ _ _ _ _ p _ _ _ _ _ (c.loop-i.invariant.0.rest p t none) _ _ (sym (c.in_ok-row.ensures c.args.head.machine)) _ c.loop-i-test.true _ c.in_err-keep.ensures)

pub store_row-requires : goal.store_row-requires
store_row-requires g c =
    let h = c.loop-i.invariant in
    let t = given_found _ _ (row_takes c.args.s.now 0 c.args.head.states c.args.types _ _) (sym (c.in_ok-row.ensures 0)) in
    omega (arith, t.0, t.1, h.0.behind, h.1, c.requires.room_for.0, c.requires.room_for.1, c.loop-i-test.true)

pub loop-i-preserved : goal.loop-i-preserved
loop-i-preserved g c =
    let a = c.args in
    let h = c.loop-i.invariant in
    let k = c.in_ok-keep.ensures in
    let t = given_found _ _ (row_takes a.s.now 0 a.head.states a.types _ _) (sym (c.in_ok-row.ensures 0)) in (
      record {
        within = omega (arith, c.loop-i-test.true);
        count = omega (arith, k.count, h.0.count);
        behind = omega (arith, t.0, h.0.behind);
        rest =
            λ p t none.
            rows_go_on _ _ _ _ _ _ _ p _ _ _ _ _ (h.0.rest p t none) _ _ (sym (c.in_ok-row.ensures a.head.machine)) _ c.loop-i-test.true _ k _ c.store_row.ensures.kept;
      },
      c.store_row.ensures.same_room ∙ h.1,
      c.store_row.ensures.same_lists ∙ h.2,
    )

pub returns-clause-rows : goal.returns-clause-rows
returns-clause-rows g c =
    λ p t none.
    let h = c.loop-i.invariant.0 in rows_end _ _ _ _ _ _ _ p _ _ _ _ _ (h.rest p t none) h.within c.loop-i-test.false
