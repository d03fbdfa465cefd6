-- The six numbers of a row, judged together: whether all of them pass, the row that they say, and the fault at the first that does not.
use Rattle.std.specs.Prelude.{Bool, ◌&&◌, cond, List, ℕ, ◌+◌, ◌≤◌, ◌<◌, length, get_or, ltb, eqb}
use Rattle.livelock.specs.Plants.{Row, row_with}
use Rattle.plant.specs.Found.{Found, fault}
use Rattle.plant_lists.specs.Lists.{sent_by, taken_by, types_for, sent_types_for}

-- The list has a number here, and it is below the end of its values.
abbrev pub number_passes : ℕ → List ℕ → ℕ → Bool
number_passes end s at = ltb at (length s) && ltb (get_or s at 0) end

-- All six numbers of a row pass.
abbrev pub row_passes : ℕ → ℕ → List ℕ → ℕ → Bool
row_passes states types s at =
    number_passes states s at
    && (number_passes states s (at + 1)
    && (number_passes 4 s (at + 2)
    && (number_passes (types_for (get_or s (at + 2) 0) types) s (at + 3)
    && (number_passes 2 s (at + 4)
    && number_passes (sent_types_for (get_or s (at + 2) 0) types) s (at + 5)))))

-- The row of machine m that they say.
abbrev pub row_listed : ℕ → List ℕ → ℕ → Row
row_listed m s at =
    row_with
    m
    (get_or s at 0)
    (get_or s (at + 1) 0)
    (sent_by (get_or s (at + 2) 0) (get_or s (at + 3) 0) (get_or s (at + 5) 0))
    (taken_by (get_or s (at + 2) 0) (get_or s (at + 3) 0))
    (eqb (get_or s (at + 4) 0) 1)

-- What is known of six numbers that pass: they are there, and small.
pub record RowThere (s : List ℕ) (at : ℕ) : Type 0 where
  pub inside : at + 6 ≤ length s
  pub left : get_or s at 0 < 256
  pub entered : get_or s (at + 1) 0 < 256
  pub kind : get_or s (at + 2) 0 < 4
  pub type : get_or s (at + 3) 0 < 64
  pub progress : get_or s (at + 4) 0 < 2
  pub sent : get_or s (at + 5) 0 < 64

-- The fault at a number that does not pass: 24 where there is one, and 23 where it is missing.
abbrev pub number_fault : {A : Type 0} → List ℕ → ℕ → Found A
number_fault s at = fault (cond (ltb at (length s)) 24 23) at
