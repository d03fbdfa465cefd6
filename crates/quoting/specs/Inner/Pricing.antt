-- What the private functions of quoting ask and give.
use Rattle.std.specs.Prelude.{◌≡◌, Bool, true, false, List, [], ◌∷◌, ℕ, ◌≤◌, length, Option, Some, None}
use Rattle.livelock.specs.Plants.{Plant}
use Rattle.livelock.specs.Figures.{Figures, ceiling_of}
use Rattle.figures.specs.FigureSums.{figures_in}
use Rattle.figures.specs.declared.Figures as Judged
use Rattle.plant.specs.Found.{Found, found, fault}
use Rattle.quoting.specs.Answers.{Answer, quoted, refused}
use Rattle.price_classes.specs.Classes.{class_of}
use Rattle.contents.specs.Contents.{weight_of_contents}
use Rattle.contents.specs.Checks.{checked_passing}

-- The ceiling of these figures, and its class.
abbrev pub Priced : Figures → ℕ → ℕ → ℕ → Answer → Type 0
Priced f weight g d a = a ≡ quoted (ceiling_of f weight g d) (class_of (ceiling_of f weight g d))

-- Figures within the limits.
pub record FiguresFit (f : Figures) : Type 0 where
  pub base_limit : f.base ≤ 64513008
  pub most_limit : f.most_states ≤ 64
  pub per_progress_limit : f.per_progress ≤ 4096063
  pub per_doubling_limit : f.per_doubling ≤ 64000

-- What is said after weighing: the fault found, or the ceiling of the figures.
abbrev pub quoted_for : Figures → List ℕ → List ℕ → ℕ → ℕ → Found Plant → Answer
quoted_for f ws contents g d (fault number place) = refused number place
quoted_for f ws contents g d (found P end) =
    quoted (ceiling_of f (weight_of_contents ws contents) g d) (class_of (ceiling_of f (weight_of_contents ws contents) g d))

-- The answer is what is said, after the checks 20, 21 and 22, of every plant with a type for each weight.
abbrev pub OwedChecked : Bool → Figures → List ℕ → List ℕ → ℕ → ℕ → Answer → Type 0
OwedChecked passes f ws contents g d a =
    (P : Plant) (end : ℕ) → P.types ≡ length ws → a ≡ quoted_for f ws contents g d (checked_passing contents (g ∷ d ∷ []) passes P end)

-- It is said with the figures, if the weights have some; otherwise they do not pass, and no figures are in what is said.
abbrev pub OwedPassing : Option Judged.Figures → List ℕ → List ℕ → ℕ → ℕ → Answer → Type 0
OwedPassing (Some f) ws contents g d a = OwedChecked true (figures_in f) ws contents g d a
OwedPassing None ws contents g d a = (f : Figures) → OwedChecked false f ws contents g d a
