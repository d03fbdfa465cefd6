-- The figures F, n, G and n × w of demand 3, the ceiling (document 01, "Quoting"; document 02, L6) and the bound.
use Rattle.std.specs.Prelude.{List, ℕ, ◌+◌, ◌-◌, ◌*◌, ◌≤◌}
use Rattle.livelock.specs.Lists.{below, sum, greatest}
use Rattle.livelock.specs.Plants.{Plant, machine_count, state_count}
use Rattle.livelock.specs.Runs.{Configuration, Event, quiet_rows, progress_rows, doublings}
use Rattle.livelock.specs.Weights.{weight}

-- "S sums each machine's states less one".
abbrev pub states_less_one : Plant → ℕ
states_less_one P = sum (λ m. state_count P m - 1) (below (machine_count P))

-- "n is the most states in one machine".
abbrev pub most_states : Plant → ℕ
most_states P = greatest (state_count P) (below (machine_count P))

-- "w is the largest weight", and "w is 0 with no types".
abbrev pub largest_weight : Plant → List ℕ → ℕ
largest_weight P ws = greatest (weight ws) (below P.types)

-- "F = S + n × w × S".
abbrev pub base : Plant → List ℕ → ℕ
base P ws = states_less_one P + most_states P * largest_weight P ws * states_less_one P

-- "G = n − 1 + n × n × w".
abbrev pub per_progress : Plant → List ℕ → ℕ
per_progress P ws = (most_states P - 1) + most_states P * most_states P * largest_weight P ws

-- "n × w", which "Weighing also hands back" (document 02, L6).
abbrev pub per_doubling : Plant → List ℕ → ℕ
per_doubling P ws = most_states P * largest_weight P ws

-- "F, n and G" and n × w as one value; F is the base, to which n times W, G for each progress row and n × w for each doubling are added. The
-- fields have the names of the struct in code.
pub record Figures : Type 0 where
  pub base : ℕ
  pub most_states : ℕ
  pub per_progress : ℕ
  pub per_doubling : ℕ

-- "these F, n and G", and n × w: the figures of a plant and its weights.
abbrev pub figures_of : Plant → List ℕ → Figures
figures_of P ws = record { base = base P ws; most_states = most_states P; per_progress = per_progress P ws; per_doubling = per_doubling P ws }

-- "W sums weight times opening content over the types".
abbrev pub contents_weight : Plant → List ℕ → (ℕ → ℕ) → ℕ
contents_weight P ws content = sum (λ t. weight ws t * content t) (below P.types)

-- "F + n × W + G × g + n × w × d", "W being the sum of weight times content": of these figures, with contents of weight W.
abbrev pub ceiling_of : Figures → ℕ → ℕ → ℕ → ℕ
ceiling_of f W g d = f.base + f.most_states * W + f.per_progress * g + f.per_doubling * d

-- "quiet rows stay within F + n × W + G × g + n × w × d", for every list of events, from any states and any contents: by these figures.
abbrev pub BoundedBy : Plant → List ℕ → Figures → Type 0
BoundedBy P ws f =
    (c : Configuration) (events : List Event)
    → quiet_rows P c events ≤ ceiling_of f (contents_weight P ws c.content) (progress_rows P c events) (doublings P c events)

-- Demand 3: the bound by the plant's own figures.
abbrev pub Bounded : Plant → List ℕ → Type 0
Bounded P ws = BoundedBy P ws (figures_of P ws)
