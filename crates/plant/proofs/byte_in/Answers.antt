-- `byte_in` meets its contract: what `byte_at` found, and its two tests.
use Rattle.std.proofs.Common.{sym}
use Rattle.plant.proofs.Exits.{handed_on}
use borrow.Author.Tests.{le-leb, lt-leb, lt-ltb, le-ltb}
use Rattle.plant.specs.Reading.{byte_in}
use Rattle.plant.proofs.ByteLaws.{byte_missing, byte_passes, byte_fails}
use Rattle.plant.proofs.byte_in.Goals as goal
use Rattle.plant.proofs.byte_in.Goals.{else-low-byte-via-then-low-byte+else-byte-end, else-low-byte-via-else-low-byte}

pub returns-in_err-byte : goal.returns-in_err-byte
unfolding byte_in
returns-in_err-byte c =
    rw (handed_on _ c.from_residual.ensures.1) (byte_missing _ _ _ _ _ _ (sym c.in_err-byte.ensures))

pub returns-then-byte-end : goal.returns-then-byte-end
unfolding byte_in
returns-then-byte-end c = byte_passes _ _ _ _ _ _ (sym c.in_ok-byte.ensures) (rw (le-leb _ _ c.if-low-byte.true, lt-ltb _ _ c.if-byte-end.true))

pub returns : goal.returns
unfolding byte_in
returns c =
    byte_fails _ _ _ _ _ _ (sym c.in_ok-byte.ensures)
    (elim c.else-low-byte.branch [
      | else-low-byte-via-then-low-byte+else-byte-end w ↦ rw (le-leb _ _ w.if-low-byte.true, le-ltb _ _ w.if-byte-end.false)
      | else-low-byte-via-else-low-byte w ↦ rw (lt-leb _ _ w.if-low-byte.false)
    ])
