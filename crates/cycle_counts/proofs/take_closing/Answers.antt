-- `take_closing` meets its contract: as many rows as stand in the table, each with the rows of the path and the row count.
use Prim.Native.Nat.{◌+◌, ◌≤◌}
use native.Mathlib.Nat.{mul-le-mul_left}
use native.Mathlib.Omega.{arith}
use Rattle.cycle_counts.proofs.take_closing.Goals as goal

pub overflow_mul-rows : goal.overflow_mul-rows
overflow_mul-rows c =
    let few : c.between_of-rows.result ≤ 1024 = omega (arith, c.between_of-rows.ensures, c.requires.3) in
    let short : c.args.depth + 2 ≤ 26 = omega (arith, c.requires.2) in
    record { fits = omega (arith, few, mul-le-mul_left c.between_of-rows.result short) }
