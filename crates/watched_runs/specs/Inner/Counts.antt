-- What the private functions that test and count events give.
use Rattle.std.specs.Prelude.{◌≡◌, List, Bool, ◌&&◌, ℕ, ◌-◌, ◌^◌, min, ltb}
use Rattle.configurations.specs.Configurations.{content_in}
use Rattle.watched_runs.specs.Keeping.{rows_in, types_in, left_in, progress_in, doublings_in}

-- The lists have a row of this number, and a table has room for it.
abbrev pub row_held : (sizes : List ℕ) → ℕ → Bool
row_held sizes k = ltb k (rows_in sizes) && ltb k 1024

-- The lists have a type of this number, with room for its content, and a message of it.
abbrev pub message_held : (sizes contents : List ℕ) → ℕ → Bool
message_held sizes contents t = ltb t (types_in sizes) && (ltb t 64 && ltb 0 (content_in contents t))

-- A sum in 64 bits: the largest number where it is above that. In the lists of a watcher no sum is.
abbrev pub capped : ℕ → ℕ
capped n = min n (2 ^ 64 - 1)

-- So many quiet rows are left, and there were so many progress rows and doublings.
pub record CountsAre (left progress doublings : ℕ) (counts : List ℕ) : Type 0 where
  pub left_is : left_in counts ≡ left
  pub progress_is : progress_in counts ≡ progress
  pub doublings_is : doublings_in counts ≡ doublings
