-- `rows_byte` meets its contract: what `byte_at` found, and its one test; a byte is at most 255.
use Rattle.std.proofs.Common.{rules, arith, sym}
use Rattle.plant.proofs.Exits.{handed_on}
use Prim.Native.Nat.{◌+◌}
use borrow.Author.Tests.{le-leb, lt-leb}
use Rattle.plant.specs.Reading.{rows_byte}
use Rattle.plant.proofs.ByteLaws.{byte_missing, byte_passes, byte_fails}
use Rattle.plant.proofs.rows_byte.Goals as goal

pub returns-in_err-count : goal.returns-in_err-count
unfolding rows_byte
returns-in_err-count c =
    rw (handed_on _ c.from_residual.ensures.1) (byte_missing _ _ _ _ _ _ (sym c.in_err-count.ensures))

pub returns-then-used-from-le1024 : goal.returns-then-used-from-le1024
unfolding rows_byte
returns-then-used-from-le1024 c =
    let used = c.args.used in
    let n = c.in_ok-count.count.value in
    byte_passes _ _ _ _ _ _ (sym c.in_ok-count.ensures) (rw (le-leb n 255 (search rules), le-leb (used + n) 1024 (omega arith)))

pub returns : goal.returns
unfolding rows_byte
returns c =
    let used = c.args.used in
    let n = c.in_ok-count.count.value in
    byte_fails _ _ _ _ _ _ (sym c.in_ok-count.ensures) (rw (le-leb n 255 (search rules), lt-leb (used + n) 1024 (omega arith)))
