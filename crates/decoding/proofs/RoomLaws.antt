-- A file has room for fewer rows than it has bytes.
use mathlib.Core.Path.{◌≡◌}
use mathlib.Core.List.{List, [], ◌∷◌}
use Prim.Native.Nat.{ℕ, zero, suc, ◌+◌, ◌≤◌}
use native.Mathlib.Omega.{arith}
use lib.ListN.{length, drop, length-drop, length-append}
use Rattle.livelock.specs.Plants.{Plant, row_count, machine_count}
use Rattle.plant.specs.Reading.{with_row, with_machine, read_rows, read_machine}
use Rattle.plant.proofs.Gives.{Gives, value, gives_then, gives_weaken, gives_moved, gives_unless}
use Rattle.plant.proofs.Takes.{Between, byte_takes, rows_byte_takes, row_takes}

-- n rows take n bytes at least.
rows_take : (s : List ℕ) (m states : ℕ) (n implied at : ℕ) (p : Plant) → at ≤ length s
    → Gives (λ q next. (row_count q ≡ row_count p + n) × Between (at + n) s next) (read_rows n m states implied s at p)
unfolding read_rows
rows_take s m states zero implied at p l = value {a = p} {next = at} (omega arith, (omega arith, l))
rows_take s m states (suc n) implied at p l =
    gives_then (gives_unless p.rows at (row_takes s m states p.types implied at)) λ r next h.
    gives_weaken (λ q end g. (omega (arith, g.0, length-append p.rows (r ∷ [])), (omega (arith, g.1.0, h.0.0), g.1.1))) (rows_take s m states n r.left next (with_row p r) h.0.1)

-- There are no more rows than bytes, after a machine too.
pub machine_takes : (s : List ℕ) (at : ℕ) (p : Plant) → row_count p ≤ at → Gives (λ q next. Between (row_count q) s next) (read_machine s at p)
unfolding read_machine
machine_takes s at p l =
    gives_then (byte_takes s at 1 65 3 (omega arith) (omega arith)) λ states a ha.
    gives_then (rows_byte_takes s a (row_count p)) λ n b hb.
    gives_moved b (rows_take (drop b s) (machine_count p) states n 0 0 (with_machine p states) (omega arith))
    (λ q next h. (omega (arith, h.0, h.1.0, ha.0, hb.0), omega (arith, h.1.1, hb.1, length-drop b s)))
