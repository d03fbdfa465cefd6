-- The rounds from table to table.
use Rattle.std.specs.Prelude.{◌≡◌, List, [], ℕ, ◌≤◌, ◌<◌, length, get_or}
use Rattle.livelock.specs.Lists.{below, greatest}
use Rattle.livelock.specs.Graphs.{Graph, via}
use Rattle.closed_walks.specs.ClosedWalks.{heaviest, entry}

-- The number for state s in a table.
abbrev pub number : List ℕ → ℕ → ℕ
number walks s = get_or walks s 0

-- No number of the table is above 2 ^ 41: there is room for one edge more.
abbrev pub Low : List ℕ → Type 0
Low walks = (s : ℕ) → s < length walks → number walks s ≤ 2199023255552

-- Each number of the table is 0.
abbrev pub Zeros : List ℕ → Type 0
Zeros walks = (s : ℕ) → number walks s ≡ 0

-- So many rows of as many bytes.
pub record Square (size : ℕ) (noted : List (List ℕ)) : Type 0 where
  pub rows : length noted ≡ size
  pub long : (j : ℕ) → j < size → length (get_or noted j []) ≡ size

-- What round k asks: numbers that leave room for one edge more, in the table `shorter`, zeros in the table `longer`, and rows for `size` states.
pub record RoundReady (size k : ℕ) (shorter longer : List ℕ) (noted : List (List ℕ)) : Type 0 where
  pub low : Low shorter
  pub zeros : Zeros longer
  pub few : k < length shorter
  pub room : length longer ≡ length shorter
  pub within : length shorter ≤ size
  pub square : Square size noted

-- From each state, going along one of the first i edges and on as far as the table `shorter` says: the table `longer` has the greatest weight, and where
-- it is not 0, an edge that attains it is noted in row k. The rows before were kept.
pub record Round (g : Graph) (size i k : ℕ) (shorter longer : List ℕ) (before after : List (List ℕ)) : Type 0 where
  pub same_length : length longer ≡ length shorter
  pub square : Square size after
  pub relaxed : (s : ℕ) → s < length shorter → number longer s ≡ greatest (via g (number shorter) s) (below i)
  pub noted_in : (s : ℕ) → s < length shorter → 0 < number longer s → entry after k s < i
  pub attained : (s : ℕ) → s < length shorter → 0 < number longer s → number longer s ≡ via g (number shorter) s (entry after k s)
  pub rows_kept : (j : ℕ) → j < k → get_or after j [] ≡ get_or before j []

-- The table has the greatest weights of walks of exactly k edges.
abbrev pub Exactly : Graph → ℕ → ℕ → List ℕ → Type 0
Exactly g start k walks = (s : ℕ) → s < length walks → number walks s ≡ heaviest g start k s
