use mathlib.Core.Path.{refl, ◌∙◌}
use Prim.Native.Nat.{zero-le}
use native.Mathlib.Omega.{arith}
use Rattle.plant.proofs.Exits.{handed_on}
use Rattle.writing.proofs.MachineLaws.{machines_begin, machines_next, machines_stop, machines_finish}
use Rattle.writing.proofs.write_machines.Goals as goal

pub loop-machine-init : goal.loop-machine-init
loop-machine-init c =
    let room = c.requires.1 in
    (refl, record { going = machines_begin _ _ _ _ _ _; few = zero-le; inside = room.inside; behind = room.behind; near = omega arith; long = refl; keys_long = refl })

pub write_machine-requires : goal.write_machine-requires
write_machine-requires c =
    let l = c.loop-machine.invariant.1 in (
      c.requires.0,
      l.few,
      record {
        space = omega (arith, c.requires.1.space, l.long);
        inside = l.inside;
        behind = l.behind;
        within = omega (arith, c.loop-machine-test.true, l.near, c.requires.1.within);
      },
      omega (arith, c.requires.2, l.keys_long),
    )

pub returns-in_err-walked-clause-machines_stored : goal.returns-in_err-walked-clause-machines_stored
returns-in_err-walked-clause-machines_stored c =
    let a = c.args in
    let l = c.loop-machine in
    let g = l.invariant.1.going in
    rw (handed_on _ c.from_residual.ensures.1) (machines_stop a.n a.start a.numbers.now a.types a.file.now.bytes.now a.file.now.end l._machine _ l.file.bytes.now _ _ g (omega (arith, c.loop-machine-test.true)) _ _ _
    (c.in_err-walked.ensures.machine_stored g.q g.few g.total g.numbered))

pub loop-machine-preserved : goal.loop-machine-preserved
loop-machine-preserved c =
    let a = c.args in
    let l = c.loop-machine in
    let i = l.invariant.1 in
    let g = i.going in
    let w = c.in_ok-walked.ensures in (
      w.same_list ∙ l.invariant.0,
      record {
        going = machines_next a.n a.start a.numbers.now a.types a.file.now.bytes.now a.file.now.end l._machine _ l.file.bytes.now _ _ g (omega (arith, c.loop-machine-test.true)) c.in_ok-walked.walked _ _
            (w.machine_stored g.q g.few g.total g.numbered);
        few = w.near.1;
        inside = w.near.2.0;
        behind = w.near.2.1;
        near = omega (arith, w.near, i.near);
        long = w.long ∙ i.long;
        keys_long = omega (arith, i.keys_long);
      },
    )

pub returns-clause-machines_stored : goal.returns-clause-machines_stored
returns-clause-machines_stored c =
    let a = c.args in
    let l = c.loop-machine in
    machines_finish a.n a.start a.numbers.now a.types a.file.now.bytes.now a.file.now.end l._machine _ l.file.bytes.now _ _ l.invariant.1.going (omega arith) (omega (arith, c.loop-machine-test.false))
