-- What holds of every plant that a file reads as (document 01, "The plant file").
use Rattle.std.specs.Prelude.{cond, List, [], ◌∷◌, ℕ, ◌+◌, ◌*◌, ◌≤◌, ◌<◌, eqb}
use Rattle.livelock.specs.Lists.{All, Distinct, count}
use Rattle.livelock.specs.Plants.{Row, Plant, row_count, machine_count, WellFormed}

-- "A row is a map byte, then one byte for each field whose bit stands": the most bytes of a row, with two states and two types ("Bits 2 and
-- 3 may stand together": document 02, L5).
abbrev pub most_row_bytes : ℕ
most_row_bytes = 5

-- Two counts, two bytes for each of 16 machines, and 1,024 rows: the most bytes of a file that reads.
abbrev pub longest_file : ℕ
longest_file = 2 + 2 * 16 + most_row_bytes * 1024

-- "row numbers run through the whole file": rows stand in ascending order of their machines.
unfoldable pub Ascending : List Row → Type 0
Ascending [] = Unit {0}
Ascending (r ∷ rs) = All (λ q. r.machine ≤ q.machine) rs × Ascending rs

-- The rows of machine m, in their order.
unfoldable pub rows_in : ℕ → List Row → List Row
rows_in m [] = []
rows_in m (r ∷ rs) = cond (eqb r.machine m) (r ∷ rows_in m rs) (rows_in m rs)

-- How many rows machine m has.
abbrev pub rows_of : Plant → ℕ → ℕ
rows_of p m = count (λ r. eqb r.machine m) p.rows

-- "Machines … are numbered from 0": every row is of a machine that the plant has.
abbrev pub Numbered : Plant → Type 0
Numbered p = All (λ r. r.machine < machine_count p) p.rows

-- A well-formed plant that keeps to the limits of the plant file.
pub record WithinLimits (p : Plant) : Type 0 where
  pub formed : WellFormed p
  -- "the count of machines, 1 to 16"
  pub some_machine : 1 ≤ machine_count p
  pub few_machines : machine_count p ≤ 16
  -- "the count of message types, 0 to 64"
  pub few_types : p.types ≤ 64
  -- "one byte of states (1 to 64)"
  pub states : All (λ n. (1 ≤ n) × (n ≤ 64)) p.states
  -- "one byte of rows (0 to 255)"
  pub rows_each : (m : ℕ) → rows_of p m ≤ 255
  -- "All machines together have at most 1,024 rows."
  pub rows_in_all : row_count p ≤ 1024
  pub ascending : Ascending p.rows
  -- "A row equal to an earlier row of its machine … is no longer accepted" (document 02, L4): no two rows are equal.
  pub no_twins : Distinct p.rows

-- "the file ends before it: file length", and the place of every other fault, 2 to 8 and 26, is a byte of the file: a fault in a file of n
-- bytes.
pub data Placed (n : ℕ) : ℕ → ℕ → Type 0 where
  at_the_end : Placed n 1 n
  within : {number place : ℕ} → 2 ≤ number → number ≤ 8 → place < n → Placed n number place
  at_twin : {place : ℕ} → place < n → Placed n 26 place
