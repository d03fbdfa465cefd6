-- "What the writer wrote reads as the list's rows": the shortest file of a plant within the limits reads as that plant.
use mathlib.Core.Path.{◌≡◌, refl, ap}
use mathlib.Core.Logic.{◌↔◌}
use mathlib.Core.Bool.{◌&&◌}
use mathlib.Core.List.{List, [], ◌∷◌, ◌++◌}
use Prim.Native.Nat.{ℕ, ◌+◌, ◌≤◌, zero-le}
use native.Mathlib.Omega.{arith}
use lib.ListN.{length, drop, length-drop}
use lib.Dec.{leb}
use borrow.Author.Tests.{le-ltb, le-leb}
use Rattle.livelock.specs.Lists.{All, Distinct}
use Rattle.livelock.specs.Plants.{Row, Plant, row_count, machine_count}
use Rattle.plant.specs.Found.{found}
use Rattle.plant.specs.Limits.{WithinLimits}
use Rattle.plant.specs.Reading.{with_machine, read_row, read_rows, rows_byte, read_machine, read_machines, read_plant}
use Rattle.plant.proofs.Bounds.{RowIn}
use Rattle.plant.proofs.FileBounds.{within_limits}
use Rattle.plant_files.specs.Files.{row_bytes, rows_bytes, file_of}
use Rattle.plant_files.specs.Inner.Parts.{with_rows}
use Rattle.plant_files.proofs.Remainders.{Leaves, leaves, leaves_then, leaves_moved, leaves_nothing, byte_that_leaves, byte_in_leaves}
use Rattle.plant_files.proofs.RowReads.{row_reads}
use Rattle.plant_files.proofs.Readers.{RowReader, rows_read, MachineReader, machines_read}

-- The reader of a machine's rows in a file,
unfoldable pub file_rows : ℕ → ℕ → RowReader
unfolding read_rows rows_bytes
file_rows m states =
    record {
      row = row_bytes;
      all = rows_bytes;
      one = λ types implied s at. read_row m states types implied s at;
      many = λ n implied s at p. read_rows n m states implied s at p;
      all_none = λ implied. refl;
      all_more = λ implied r rs. refl;
      many_none = λ implied s at p. refl;
      many_more = λ n implied s at p. refl;
    }

-- and that of its machines.
unfoldable pub file_machines : MachineReader
unfolding read_machines
file_machines = record { rows = rows_bytes 0; one = read_machine; many = read_machines; many_none = λ s at p. refl; many_more = λ n s at p. refl }

rows_byte_leaves : (used n : ℕ) (s : List ℕ) (at : ℕ) (t : List ℕ) → drop at s ≡ n ∷ t → (n ≤ 255) × (used + n ≤ 1024) → Leaves s n t (rows_byte used s at)
unfolding rows_byte
rows_byte_leaves used n s at t e few =
    byte_that_leaves s at n t e (λ n. leb n 255 && leb (used + n) 1024) 7 (rw (le-leb n 255 few.0, le-leb (used + n) 1024 few.1))

machine_reads : (p : Plant) (states : ℕ) (rs : List Row) → (1 ≤ states) × (states ≤ 64) → (length rs ≤ 255) × (row_count p + length rs ≤ 1024)
    → All (RowIn (machine_count p) states p.types) rs → Distinct (p.rows ++ rs)
    → (s : List ℕ) (at : ℕ) (t : List ℕ) → drop at s ≡ states ∷ (length rs ∷ (rows_bytes 0 rs ++ t)) → Leaves s (with_rows (with_machine p states) rs) t (read_machine s at p)
unfolding read_machine file_rows
machine_reads p states rs size few own fresh s at t e =
    leaves_then _ (byte_in_leaves s at states (length rs ∷ (rows_bytes 0 rs ++ t)) e 1 65 3 size.0 (omega (arith, size.1))) λ a la ea.
    leaves_then _ (rows_byte_leaves (row_count p) (length rs) s a (rows_bytes 0 rs ++ t) ea few) λ b lb eb.
    leaves_moved s b lb
    (rows_read (file_rows (machine_count p) states) (machine_count p) states (row_reads (machine_count p) states) rs (with_machine p states) own fresh 0 (drop b s) 0 t zero-le eb)

module _ (p : Plant) (w : WithinLimits p) where
  file_leaves : (s : List ℕ) → s ≡ file_of p → Leaves s p [] (read_plant s)
  unfolding read_plant file_machines
  file_leaves s is =
      leaves_then _ (byte_in_leaves s 0 (machine_count p) _ is 1 17 2 w.some_machine (omega (arith, w.few_machines))) λ a la ea.
      leaves_then _ (byte_in_leaves s a p.types _ ea 0 65 2 zero-le (omega (arith, w.few_types))) λ b lb eb.
      leaves_then _ (machines_read file_machines p w machine_reads s b lb eb) λ end le ee.
      let over : length s ≤ end = omega (arith, length-drop end s, ap length ee) in
      rw (le-ltb end (length s) over) (leaves end le ee)

  -- The shortest file of a plant reads as the plant, to its last byte.
  pub file_reads : read_plant (file_of p) ≡ found p (length (file_of p))
  file_reads = leaves_nothing (file_of p) p (read_plant (file_of p)) (file_leaves (file_of p) refl)

-- So a plant is within the limits exactly if some file reads as it.
pub readable_iff : (p : Plant) → WithinLimits p ↔ ((file : List ℕ) × ((end : ℕ) × (read_plant file ≡ found p end)))
readable_iff p = (λ w. (file_of p, (length (file_of p), file_reads p w)), λ x. within_limits x.0 p x.1.0 x.1.1)
