-- What the private functions of opening give.
use Rattle.std.specs.Prelude.{◌≡◌, List, ℕ, ◌≤◌, ◌<◌, get_or, take, length, replicate}
use Rattle.livelock.specs.Plants.{Plant, row_at, row_count}
use Rattle.livelock.specs.Weights.{Passes}
use Rattle.livelock.specs.Figures.{figures_of}
use Rattle.plant.specs.Found.{found}
use Rattle.plant.specs.Reading.{read_plant}
use Rattle.tables.specs.Tables.{row_in}
use Rattle.figures.specs.FigureSums.{figures_in}
use Rattle.figures.specs.declared.Figures.{Figures}
use Rattle.weight_checks.specs.Checks.{judged_weights}
use Rattle.watched_runs.specs.Keeping.{Kept, length_in, rows_in, types_in, per_progress_in, per_doubling_in}
use Rattle.watched_runs.specs.Inner.Counts.{CountsAre}

-- The first n numbers of a list, and zeros behind them.
pub record Widened (xs wide : List ℕ) (n : ℕ) : Type 0 where
  pub front : (t : ℕ) → t < n → get_or wide t 0 ≡ get_or xs t 0
  pub behind : (t : ℕ) → n ≤ t → get_or wide t 0 ≡ 0

-- The weights pass in the plant that a file reads as,
abbrev pub Passing : (file ws : List ℕ) → Type 0
Passing file ws = (P : Plant) × (end : ℕ) × (judged_weights file ws ≡ found P end) × Passes P ws

-- and a file reads as a plant.
abbrev pub Readable : List ℕ → Type 0
Readable file = (P : Plant) × (end : ℕ) × (read_plant file ≡ found P end)

-- The figures of weights that pass.
abbrev pub FiguresFor : (file ws : List ℕ) → Figures → Type 0
FiguresFor file ws f = (P : Plant) (end : ℕ) → judged_weights file ws ≡ found P end → Passes P ws → figures_in f ≡ figures_of P ws

-- The rows and types of the plant that a file reads as.
pub record Tabled (s : Kept) (P : Plant) : Type 0 where
  pub rows : rows_in s.sizes ≡ row_count P
  pub each_row : (k : ℕ) → k < row_count P → row_in s.table k ≡ row_at P k
  pub types : types_in s.sizes ≡ P.types

-- Lists with nothing counted.
pub record Begun (file contents : List ℕ) (ceiling : ℕ) (f : Figures) (s : Kept) : Type 0 where
  pub length_is : length_in s.sizes ≡ length file
  pub copy : take (length file) s.copy ≡ file
  pub tabled : (P : Plant) (end : ℕ) → read_plant file ≡ found P end → Tabled s P
  pub per_progress : per_progress_in s.sizes ≡ f.per_progress
  pub per_doubling : per_doubling_in s.sizes ≡ f.per_doubling
  pub states : s.states ≡ replicate 16 0
  pub wide : Widened contents s.contents (length contents)
  pub counts : CountsAre ceiling 0 0 s.counts
