-- The sums of a set, one for each type, and what adding rows to them gives.
use Rattle.std.specs.Prelude.{◌≡◌, List, ℕ, ◌+◌, ◌*◌, ◌≤◌, length, get_or, ℤ, pos, nat_abs, ◌+ℤ◌, Option, None, Some}
use Rattle.std.proofs.Math.ListN as Cells
use Rattle.livelock.specs.Lists.{count}
use Rattle.livelock.specs.Plants.{Row}
use Rattle.livelock.specs.Cycles.{is_of_type}
use Rattle.livelock.specs.Differences.{Difference}
use Rattle.tables.specs.Tables.{row_in}

-- The sums with z added to that of a type; without a type no sum changes.
abbrev pub raised : List ℤ → Option ℕ → ℤ → List ℤ
raised sums None z = sums
raised sums (Some x) z = Cells.set sums x (get_or sums x (pos 0) +ℤ z)

-- Each sum is at most x either way.
abbrev pub Within : ℕ → List ℤ → Type 0
Within x sums = (i : ℕ) → nat_abs (get_or sums i (pos 0)) ≤ x

-- How many of the rows of a table have type t in a field.
abbrev pub having : (Row → Option ℕ) → List ℕ → ℕ → List ℕ → ℕ
having field table t rows = count (λ k. is_of_type (field (row_in table k)) t) rows

-- To the sum of each type the rows add what they send and take from it what they take, so many times; a row changes no sum by more than 2,000,000.
pub record Added (table : List ℕ) (repeats : ℕ) (rows : List ℕ) (before after : List ℤ) : Type 0 where
  pub room : length after ≡ 64
  pub sums : (t a b : ℕ) → Difference (get_or before t (pos 0)) a b
      → Difference (get_or after t (pos 0)) (a + repeats * having (λ r. r.sent) table t rows) (b + repeats * having (λ r. r.taken) table t rows)
  pub within : (x : ℕ) → Within x before → Within (x + length rows * 2000000) after
