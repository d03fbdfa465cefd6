use native.Mathlib.Omega.{arith}
use mir.Syntax.{w64}
use mir.Facts.{to_z_pos, to_z-of_z}
use Rattle.deciding.proofs.SignLaws.{along_fits, greater}
use Rattle.deciding.proofs.relaxing.raised.Goals as goal

pub overflow_add-along : goal.overflow_add-along
overflow_add-along c =
    rw (to_z_pos w64 {n = c.args.next} (omega (arith, c.requires.1)), to_z-of_z c.ranges.length)
    (along_fits c.args.next c.args.length c.requires.1 c.requires.2 c.requires.3)

pub overflow_cast-result : goal.overflow_cast-result
overflow_cast-result c =
    let a = c.args in
    let p = c.requires in
    let m = greater a.next a.length p.1 p.2 p.3 a.at p.0 c.ranges.length _ (record { sfits = c.max.type_inv }) c.max.ensures.value in
    (m.0, record { fits = omega (arith, m.1, p.0, p.1, p.2) })

pub returns : goal.returns
returns c =
    let a = c.args in
    let p = c.requires in
    (greater a.next a.length p.1 p.2 p.3 a.at p.0 c.ranges.length _ (record { sfits = c.max.type_inv }) c.max.ensures.value).1
