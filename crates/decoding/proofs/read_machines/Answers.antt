use Rattle.std.proofs.lemmas.Result.{err_from_is_err_and}
use Prim.Native.Nat.{◌+◌, ◌<◌, zero-le}
use mathlib.Core.Path.{refl, ◌∙◌}
use native.Mathlib.Omega.{arith}
use lib.ListN.{length-set}
use Rattle.decoding.proofs.MachinesReadLaws.{machines_begin, machines_stop, machines_go_on, machines_end}
use Rattle.decoding.proofs.read_machines.Goals as goal

pub loop-i-init : goal.loop-i-init
loop-i-init g c =
    let p = c.requires in (
      record {
        within = zero-le;
        states_room = refl;
        first_room = refl;
        few_rows = zero-le;
        left = machines_begin _ _ _ _ _ _ _ refl refl p.no_rows p.room_for.3;
      },
      refl,
      refl,
    )

pub returns-in_err-machine-clause-machines : goal.returns-in_err-machine-clause-machines
returns-in_err-machine-clause-machines g c =
    let e = err_from_is_err_and c.from_residual.result c.from_residual.ensures.1 in
    let h = c.loop-i.invariant.0 in
    let few : c.loop-i.i < 16 = omega (arith, c.loop-i-test.true, c.requires.room_for.2) in
    rw (e.1, e.2) (machines_stop _ _ _ _ _ _ _ _ _ _ h.left (omega (arith, few, h.states_room)) few c.loop-i-test.true _ c.in_err-machine.ensures.machine)

pub loop-i-preserved : goal.loop-i-preserved
loop-i-preserved g c =
    let l = c.loop-i in
    let h = l.invariant in
    let r = c.in_ok-machine.ensures in
    let few : l.i < 16 = omega (arith, c.loop-i-test.true, c.requires.room_for.2) in (
      record {
        within = omega (arith, c.loop-i-test.true);
        states_room = length-set l.states l.i _ ∙ h.0.states_room;
        first_room = length-set l.first (l.i + 1) _ ∙ h.0.first_room;
        few_rows = r.few_rows;
        left = machines_go_on _ _ _ _ _ _ _ _ _ _ h.0.left (omega (arith, few, h.0.states_room)) few c.loop-i-test.true _ _ r.machine;
      },
      r.same_room ∙ h.1,
      r.same_lists ∙ h.2,
    )

pub returns-clause-machines : goal.returns-clause-machines
returns-clause-machines g c =
    let h = c.loop-i.invariant.0 in
    let p = c.requires.room_for in
    machines_end _ _ _ _ _ _ _ _ _ _ h.left h.within c.loop-i-test.false p.1 p.2 h.few_rows h.states_room
