-- What a watcher keeps in its lists, and which run they hold.
use Rattle.std.specs.Prelude.{◌≡◌, List, ℕ, ◌+◌, ◌≤◌, ◌<◌, get_or, take}
use Rattle.livelock.specs.Plants.{Plant, row_at, row_count}
use Rattle.livelock.specs.Runs.{Configuration}
use Rattle.livelock.specs.Figures.{per_progress, per_doubling, Bounded}
use Rattle.plant.specs.Found.{Found, found, fault}
use Rattle.plant.specs.Reading.{read_plant}
use Rattle.tables.specs.Tables.{row_in}
use Rattle.quoting.specs.Quoting.{largest_ceiling}
use Rattle.configurations.specs.Configurations.{configuration_in}
use Rattle.watched_runs.specs.WatchedRuns.{WatchedRun, reached, quiet_so_far, progress_so_far, doublings_so_far, ceiling_from, ceiling_so_far}

-- The lists of a watcher: the copy of the file and the table of its rows; five sizes and three counts; the states and the contents.
pub record Kept : Type 0 where
  pub copy : List ℕ
  pub table : List ℕ
  pub sizes : List ℕ
  pub states : List ℕ
  pub contents : List ℕ
  pub counts : List ℕ

-- The first of the five sizes: how many bytes of the copy are the file's.
abbrev pub length_in : List ℕ → ℕ
length_in sizes = get_or sizes 0 0

-- The second: how many rows the plant has.
abbrev pub rows_in : List ℕ → ℕ
rows_in sizes = get_or sizes 1 0

-- The third: how many types it has.
abbrev pub types_in : List ℕ → ℕ
types_in sizes = get_or sizes 2 0

-- The fourth: "G", which a progress row adds to what is left.
abbrev pub per_progress_in : List ℕ → ℕ
per_progress_in sizes = get_or sizes 3 0

-- The fifth: "n × w", which a doubling adds.
abbrev pub per_doubling_in : List ℕ → ℕ
per_doubling_in sizes = get_or sizes 4 0

-- The first of the three counts: how many quiet rows are left.
abbrev pub left_in : List ℕ → ℕ
left_in counts = get_or counts 0 0

-- The second: "the progress rows … so far".
abbrev pub progress_in : List ℕ → ℕ
progress_in counts = get_or counts 1 0

-- The third: "[the] doublings so far".
abbrev pub doublings_in : List ℕ → ℕ
doublings_in counts = get_or counts 2 0

-- The configuration that is kept.
abbrev pub configuration_of : Kept → Configuration
configuration_of s = configuration_in s.states s.contents

-- The lists hold the plant: its rows, its types, and G and n × w of the weights.
pub record HoldsPlant (s : Kept) (ws : List ℕ) (P : Plant) : Type 0 where
  pub rows : rows_in s.sizes ≡ row_count P
  pub each_row : (k : ℕ) → k < row_count P → row_in s.table k ≡ row_at P k
  pub types : types_in s.sizes ≡ P.types
  pub per_progress : per_progress_in s.sizes ≡ per_progress P ws
  pub per_doubling : per_doubling_in s.sizes ≡ per_doubling P ws

-- The lists hold the run: the states and contents that it reached, what is left of the ceiling, and its counts.
pub record HoldsRun (s : Kept) (w : WatchedRun) (P : Plant) : Type 0 where
  pub now : configuration_of s ≡ reached P w
  pub left : left_in s.counts + quiet_so_far P w ≡ ceiling_so_far P w
  pub progress : progress_in s.counts ≡ progress_so_far P w
  pub doublings : doublings_in s.counts ≡ doublings_so_far P w

-- The run is one that quoting's checks let by: it is bounded, its contents were small, its counts are within the limits, and so no ceiling of it is above the
-- largest.
pub record Limited (w : WatchedRun) (P : Plant) : Type 0 where
  pub bounded : Bounded P w.weights
  pub small : (t : ℕ) → w.opening.content t ≤ 1000000
  pub few_progress : progress_so_far P w ≤ 1000000
  pub few_doublings : doublings_so_far P w ≤ 1000000
  pub fits : ceiling_from P w.weights w.opening 1000000 1000000 ≤ largest_ceiling

-- A watcher on a plant holds all of this; one on the empty copy, which reads as no plant, has no rows and no types.
pub data Inside (s : Kept) (w : WatchedRun) : Found Plant → Type 0 where
  no_plant : {number place : ℕ} → rows_in s.sizes ≡ 0 → types_in s.sizes ≡ 0 → Inside s w (fault number place)
  a_plant : {P : Plant} {end : ℕ} → HoldsPlant s w.weights P → HoldsRun s w P → Limited w P → Inside s w (found P end)

-- The lists are those of a watcher of this run.
pub record Holds (s : Kept) (w : WatchedRun) : Type 0 where
  pub few : length_in s.sizes ≤ 8192
  pub copy : take (length_in s.sizes) s.copy ≡ w.file
  pub inside : Inside s w (read_plant w.file)
