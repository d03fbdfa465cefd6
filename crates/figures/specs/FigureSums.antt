-- The figures of every plant with these counts of states.
use Rattle.std.specs.Prelude.{◌≡◌, List, ℕ, ◌≤◌, ◌<◌, length, get_or}
use Rattle.livelock.specs.Plants.{Plant}
use Rattle.livelock.specs.Figures.{figures_of}
use Rattle.livelock.specs.Figures as Theory
use Rattle.figures.specs.declared.Figures.{Figures}

-- The figures of the theory that a struct holds.
abbrev pub figures_in : Figures → Theory.Figures
figures_in f = record { base = f.base; most_states = f.most_states; per_progress = f.per_progress; per_doubling = f.per_doubling }

-- "it hands back exactly these F, n and G", and "also hands back n × w": the figures of a plant with these counts of states and a weight for each of its types.
abbrev pub FiguresOf : List ℕ → List ℕ → Figures → Type 0
FiguresOf states ws f = (P : Plant) → P.states ≡ states → P.types ≡ length ws → figures_in f ≡ figures_of P ws

-- "one byte of states (1 to 64)": each machine has a state.
abbrev pub SomeStates : List ℕ → Type 0
SomeStates states = (m : ℕ) → m < length states → 1 ≤ get_or states m 0
