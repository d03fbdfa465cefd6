-- A count of rows as a number of a range.
use mathlib.Core.Path.{◌≡◌, ap}
use mathlib.Core.Bool.{Bool, ◌&&◌, cond}
use mathlib.Core.List.{List}
use Prim.Native.Nat.{ℕ, ◌+◌, ◌-◌, ◌≤◌, min, zero-le}
use native.Mathlib.Decide.{dec_le}
use native.Mathlib.Omega.{arith}
use lib.ListN.{length, get_or}
use lib.Dec.{ltb, leb}
use borrow.Author.Tests.{lt-ltb, le-ltb, le-leb, lt-leb}
use Rattle.plant.specs.Found.{found, fault}
use Rattle.plant.specs.Reading.{in_range}
use Rattle.plant_lists.specs.Lists.{number_that, number_in, rows_number}

-- A count of rows is within the limits if it is below the lesser of 256 and what 1,025 leaves.
rows_range : (used n : ℕ) → used ≤ 1024 → in_range 0 (min 256 (1025 - used)) n ≡ (leb n 255 && leb (used + n) 1024)
rows_range used n h = go (dec_le n 255) (dec_le (used + n) 1024)
  where
    go : Dec (n ≤ 255) → Dec (used + n ≤ 1024) → in_range 0 (min 256 (1025 - used)) n ≡ (leb n 255 && leb (used + n) 1024)
    go (yes l) (yes m) = rw (lt-ltb n (min 256 (1025 - used)) (omega arith), le-leb 0 n zero-le, le-leb n 255 l, le-leb (used + n) 1024 m)
    go (yes l) (no m) = rw (le-ltb n (min 256 (1025 - used)) (omega arith), le-leb 0 n zero-le, le-leb n 255 l, lt-leb (used + n) 1024 (omega arith))
    go (no l) m = rw (le-ltb n (min 256 (1025 - used)) (omega arith), le-leb 0 n zero-le, lt-leb n 255 (omega arith))

pub rows_in_range : (used : ℕ) (s : List ℕ) (at : ℕ) → used ≤ 1024 → number_in 0 (min 256 (1025 - used)) s at ≡ rows_number used s at
unfolding number_that
rows_in_range used s at h = ap (λ (b : Bool). cond (ltb at (length s)) (cond b (found (get_or s at 0) (at + 1)) (fault 24 at)) (fault 23 at)) (rows_range used (get_or s at 0) h)
