use Prim.Native.Nat.{◌+◌}
use native.Mathlib.Omega.{arith}
use lib.IntN.{pos, ◌+ℤ◌}
use mir.Syntax.{w64}
use mir.Facts.{to_z_pos, to_z-of_z}
use Rattle.edge_lists.specs.Signs.{rise, fall}
use Rattle.deciding.proofs.SignLaws.{difference_test, difference_sum_of, along_fits, along_is}
use Rattle.deciding.proofs.relaxing.rises.Goals as goal

pub overflow_add-result : goal.overflow_add-result
overflow_add-result c =
    rw (to_z_pos w64 {n = c.args.next} (omega (arith, c.requires.1)), to_z-of_z c.ranges.length)
    (along_fits c.args.next c.args.length c.requires.1 c.requires.2 c.requires.3)

pub returns : goal.returns
returns c =
    let a = c.args in
    let e = along_is a.next a.length c.requires.1 c.requires.2 c.requires.3 c.ranges.length in
    rw (e, to_z_pos w64 {n = a.at} (omega (arith, c.requires.0)))
    (difference_test (pos a.next +ℤ a.length) (rise a.length + a.next) (fall a.length) a.at (difference_sum_of a.next a.length))
