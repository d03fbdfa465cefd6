-- What quoting owes (document 01, "Quoting" and "Where each fault is found", 22; document 02, L6). How its input is judged stands in the crates `weight_checks` and `contents`.
use Rattle.std.specs.Prelude.{◌≡◌, List, [], ◌∷◌, ℕ, ◌+◌, ◌*◌, ◌≤◌, ◌<◌}
use Rattle.livelock.specs.Plants.{Plant}
use Rattle.livelock.specs.Runs.{Configuration, Event, quiet_rows, progress_rows, doublings}
use Rattle.livelock.specs.Weights.{Passes}
use Rattle.livelock.specs.Figures.{most_states, base, per_progress, figures_of, contents_weight, ceiling_of}
use Rattle.plant.specs.Found.{Found, found, fault, and_then}
use Rattle.weight_checks.specs.Checks.{judged_weights}
use Rattle.contents.specs.Contents.{content, checked_contents}
use Rattle.quoting.specs.Answers.{Answer, quoted, refused}
use Rattle.price_classes.specs.Classes.{class_of}

-- "quoting 9, 10, 20, 21": the weights are judged as weighing judges them, and then the contents, g and d. The plant to quote for, or the fault.
abbrev pub judged : List ℕ → List ℕ → List ℕ → ℕ → ℕ → Found Plant
judged file ws contents g d = and_then (judged_weights file ws) (checked_contents contents (g ∷ d ∷ []))

-- The ceiling is "F + n × W + G × g + n × w × d".
abbrev pub ceiling_for : Plant → List ℕ → List ℕ → ℕ → ℕ → ℕ
ceiling_for P ws contents g d = ceiling_of (figures_of P ws) (contents_weight P ws (content contents)) g d

-- A run opens with these contents; its states are any.
abbrev pub OpensWith : Plant → List ℕ → Configuration → Type 0
OpensWith P contents c = (t : ℕ) → t < P.types → c.content t ≡ content contents t

-- What a ceiling means: no run that opens with these contents, from any states, with at most g progress rows and "at most d doublings",
-- has more quiet rows.
abbrev pub IsCeiling : Plant → List ℕ → ℕ → ℕ → ℕ → Type 0
IsCeiling P contents g d ceiling =
    (c : Configuration) (events : List Event) → OpensWith P contents c → progress_rows P c events ≤ g → doublings P c events ≤ d → quiet_rows P c events ≤ ceiling

-- The ceiling by the formula, its class, and what it means.
pub record OnPassing (P : Plant) (ws contents : List ℕ) (g d : ℕ) (a : Answer) : Type 0 where
  pub quote : a ≡ quoted (ceiling_for P ws contents g d) (class_of (ceiling_for P ws contents g d))
  pub bounds : IsCeiling P contents g d (ceiling_for P ws contents g d)

-- What is owed, by the input alone: for a fault its number and place; for a plant the ceiling, or "22 | the weights do not pass | 0".
pub data Owed (ws contents : List ℕ) (g d : ℕ) (a : Answer) : Found Plant → Type 0 where
  for_fault : {number place : ℕ} → a ≡ refused number place → Owed ws contents g d a (fault number place)
  for_plant : {P : Plant} {end : ℕ} → (Passes P ws → OnPassing P ws contents g d a) → ((Passes P ws → ⊥) → a ≡ refused 22 0)
      → Owed ws contents g d a (found P end)

-- The largest ceiling within the limits.
abbrev pub largest_ceiling : ℕ
largest_ceiling = 8256127513008

-- "quoting 9, 10, 20, 21", before there was a d: g is the last number.
abbrev pub former_judged : List ℕ → List ℕ → List ℕ → ℕ → Found Plant
former_judged file ws contents g = and_then (judged_weights file ws) (checked_contents contents (g ∷ []))

-- "the ceiling is F + n × W + G × g, W being the sum of weight times content", as document 01 has it.
abbrev pub former_ceiling : Plant → List ℕ → List ℕ → ℕ → ℕ
former_ceiling P ws contents g = base P ws + most_states P * contents_weight P ws (content contents) + per_progress P ws * g

-- "Old quotes are those with d zero": for every input the same plant or fault is found, number and place, and for every plant the ceiling is the same.
pub record OldQuotes : Type 0 where
  pub same_input : (file ws contents : List ℕ) (g : ℕ) → judged file ws contents g 0 ≡ former_judged file ws contents g
  pub same_ceiling : (P : Plant) (ws contents : List ℕ) (g : ℕ) → ceiling_for P ws contents g 0 ≡ former_ceiling P ws contents g
