use mathlib.Core.Path.{◌≡◌}
use mathlib.Core.List.{List, []}
use Prim.Native.Nat.{ℕ, ◌+◌, ◌*◌, ◌≤◌}
use lib.ListN.{length}
use Rattle.livelock.specs.Plants.{Plant}
use Rattle.plant.specs.Limits.{most_row_bytes, rows_in}
use Rattle.written_rows.specs.Steps.{RowsGoing}
use Rattle.written_rows.proofs.write_rows.Given as goal

-- `write_rows` meets its contract: each row is judged, held against those before it and stored behind them, until one does not pass or none is left.
pub record Inv (numbers : List ℕ) (n states types : ℕ) (file₀ keys₀ : List ℕ) (from start : ℕ) (file keys : List ℕ) (at end implied left i : ℕ) : Type 0 where
  pub going : (m : ℕ) (p : Plant) → p.types ≡ types → rows_in m p.rows ≡ [] → RowsGoing n m states from numbers p file₀ start i at file end implied keys left
  pub within : i ≤ n
  pub reached : at ≡ from + 6 * i
  pub inside : at ≤ length numbers
  pub behind : end ≤ at
  pub near : end ≤ start + most_row_bytes * i
  pub long : length file ≡ length file₀
  pub keys_long : length keys ≡ length keys₀

abbrev pub invariant-loop-i : goal.invariant-loop-i
invariant-loop-i l =
    (l.file.bytes.ghost_name ≡ l.initial.file.bytes.ghost_name)
    × Inv l.numbers l.n l.states l.types l.initial.file.bytes.now l.initial.keys l.initial.at l.initial.file.end l.file.bytes.now l.keys l.at l.file.end l.implied l.left l.i
