use Prim.Native.Nat.{ℕ, ◌+◌, ◌*◌, ◌≤◌}
use native.Mathlib.Nat.{mul-le-mul_left}
use native.Mathlib.Omega.{arith}
use lib.Dec.{lit≤}
use lib.IntN.{ℤ, pos, ◌+ℤ◌, ◌*ℤ◌}
use mir.Syntax.{w64}
use mir.Val.{SFits}
use mir.Facts.{to_z_pos, to_z-of_z}
use Rattle.livelock.proofs.Differences.{difference_times}
use Rattle.edge_lists.specs.Signs.{rise, fall}
use Rattle.deciding.proofs.SignLaws.{rise_fall, difference_fits, difference_length}
use Rattle.deciding.proofs.row_length.Goals as goal

-- `row_length` meets its contract: no product or sum overflows.
-- The product and the sum fit 64 bits, so the code's numbers are these.
module _ (n : ℕ) (z : ℤ) (few : n ≤ 64) (up : rise z ≤ 65535) (down : fall z ≤ 65535) where
  small : n * rise z + n * fall z ≤ 8388480
  small = omega (arith, mul-le-mul_left n up, mul-le-mul_left n down)

  product_fits : SFits w64 (pos n *ℤ z)
  product_fits = difference_fits (pos n *ℤ z) (n * rise z) (n * fall z) (difference_times n z (rise z) (fall z) (rise_fall z)) (omega (arith, small))

  sum_fits : (first : ℕ) → first ≤ 1 → SFits w64 (pos first +ℤ pos n *ℤ z)
  sum_fits first l =
      difference_fits (pos first +ℤ pos n *ℤ z) (first + n * rise z) (n * fall z) (difference_length first n z) (omega (arith, small))

pub overflow_mul-result : goal.overflow_mul-result
overflow_mul-result c =
    rw (to_z_pos w64 {n = c.args.n} (omega (arith, c.requires.0)), to_z-of_z c.ranges.weight)
    (product_fits c.args.n c.args.weight c.requires.0 c.requires.1 c.requires.2)

pub overflow_add-result : goal.overflow_add-result
overflow_add-result c =
    rw
    (to_z_pos w64 {n = c.args.n} (omega (arith, c.requires.0)), to_z-of_z c.ranges.weight, to_z-of_z (product_fits c.args.n c.args.weight c.requires.0 c.requires.1 c.requires.2))
    (sum_fits c.args.n c.args.weight c.requires.0 c.requires.1 c.requires.2 _ (lit≤ tt))

pub returns : goal.returns
returns c =
    rw
    (to_z_pos w64 {n = c.args.n} (omega (arith, c.requires.0)), to_z-of_z c.ranges.weight, to_z-of_z (product_fits c.args.n c.args.weight c.requires.0 c.requires.1 c.requires.2))
    (to_z-of_z (sum_fits c.args.n c.args.weight c.requires.0 c.requires.1 c.requires.2 _ (lit≤ tt)))
