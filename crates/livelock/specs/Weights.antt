-- Weights (document 01, "Cycles and weighing").
use Rattle.std.specs.Prelude.{List, ℕ, ◌≤◌, length, get_or, ℤ, pos, ◌*ℤ◌, ◌<ℤ◌, ◌≤ℤ◌, Option, None, Some}
use Rattle.livelock.specs.Lists.{below, sumℤ}
use Rattle.livelock.specs.Plants.{Plant}
use Rattle.livelock.specs.Cycles.{SimpleCycle, Quiet, effect}

-- "Weights: one whole number, zero or more, for each message type": the weight of type t.
abbrev pub weight : List ℕ → ℕ → ℕ
weight ws t = get_or ws t 0

-- "A cycle's weight is a signed number: the sum over types of weight times effect."
unfoldable pub cycle_weight : Plant → List ℕ → List ℕ → ℤ
cycle_weight P ws c = sumℤ (λ t. pos (weight ws t) *ℤ effect P c t) (below P.types)

-- "They pass exactly when every quiet simple cycle weighs below zero; with no quiet cycle any weights pass."
abbrev pub Passes : Plant → List ℕ → Type 0
Passes P ws = (m : ℕ) (c : List ℕ) → SimpleCycle P m c → Quiet P c → cycle_weight P ws c <ℤ pos 0

-- "Otherwise the rows of one quiet simple cycle weighing zero or more" are shown: c is such a cycle.
pub record FailingCycle (P : Plant) (ws c : List ℕ) : Type 0 where
  pub machine : ℕ
  pub simple : SimpleCycle P machine c
  pub quiet : Quiet P c
  pub weighs : pos 0 ≤ℤ cycle_weight P ws c

-- "the cycle shown has the fewest rows of all quiet simple cycles weighing zero or more. Every other such cycle has at least as many."
abbrev pub FewestRows : Plant → List ℕ → List ℕ → Type 0
FewestRows P ws rows = (c : List ℕ) → FailingCycle P ws c → length rows ≤ length c

-- The weight of a message; 0 where there is none.
abbrev pub message_weight : List ℕ → Option ℕ → ℕ
message_weight ws None = 0
message_weight ws (Some t) = weight ws t
