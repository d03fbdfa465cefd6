-- The bytes of a row, one field behind the other.
use mathlib.Core.Path.{◌≡◌}
use mathlib.Core.Bool.{true}
use mathlib.Core.List.{List}
use Prim.Native.Nat.{ℕ}
use Rattle.livelock.specs.Plants.{Row}
use Rattle.plant_files.specs.Files.{byte_if, type_bytes, differs, shortest_map, row_bytes}
use Rattle.plant_files.proofs.RowReads.{shortest_bits}
use Rattle.row_bytes.specs.Stores.{Stored}
use Rattle.row_bytes.proofs.StoreLaws.{stored_then}

-- The bytes of a row, stored one behind the other, are the row.
pub row_stored : (implied : ℕ) (r : Row) {b0 b1 b2 b3 b4 b5 : List ℕ} {pos byte e1 e2 e3 e4 e5 : ℕ} → byte ≡ shortest_map implied r
    → Stored b0 b1 pos (byte_if true byte) e1 → Stored b1 b2 e1 (byte_if (differs r.left implied) r.left) e2
    → Stored b2 b3 e2 (byte_if (differs r.entered r.left) r.entered) e3 → Stored b3 b4 e3 (type_bytes r.sent) e4 → Stored b4 b5 e4 (type_bytes r.taken) e5
    → Stored b0 b5 pos (row_bytes implied r) e5
unfolding row_bytes
row_stored implied r {b0} {b1} {b2} {b3} {b4} {b5} {pos} {byte} {e1} {e2} {e3} {e4} {e5} is map left entered sent taken =
    let b = shortest_bits implied r in
    rw (b.left, b.entered, ← is)
    (stored_then b0 b1 b5 pos e1 e5 _ _ map
    (stored_then b1 b2 b5 e1 e2 e5 _ _ left
    (stored_then b2 b3 b5 e2 e3 e5 _ _ entered
    (stored_then b3 b4 b5 e3 e4 e5 _ _ sent taken))))
