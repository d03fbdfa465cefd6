-- The answers of weighing, in document 01's numbers and values.
use Rattle.std.specs.Prelude.{◌≡◌, ℕ, Option, Some, None, Result, Ok, Err}
use Rattle.livelock.specs.Figures.{Figures}
use Rattle.figures.specs.FigureSums.{figures_in}
use Rattle.figures.specs.declared.Figures as Judged
use Rattle.plant.specs.Refusals.{number_of}
use Rattle.plant.specs.declared.Fault.{Fault}
use Rattle.weighing.specs.declared.Weighed.{Weighed}
use Rattle.weighing.specs.declared.Weighed.TheVariants as Variants

-- "Passing hands back F, n and G", and "also … n × w"; otherwise "their count is handed back"; or "its number and a place". Different answers are different here.
pub data Answer : Type 0 where
  passed : Figures → Answer
  cycle : ℕ → Answer
  refused : ℕ → ℕ → Answer

-- What weighing finds,
abbrev pub weighed_answer : Weighed → Answer
weighed_answer (Variants.Passed f) = passed (figures_in f)
weighed_answer (Variants.Cycle rows) = cycle rows

-- and what an answer of `weigh` says.
abbrev pub answer_of : Result Weighed Fault → Answer
answer_of (Ok w) = weighed_answer w
answer_of (Err f) = refused (number_of f.refusal) f.place

-- The answer hands back figures.
abbrev pub HasFigures : Answer → Type 0
HasFigures a = (f : Figures) × (a ≡ passed f)

-- Without a cycle: "Passing hands back F, n and G", and "also … n × w"; or that the weights do not pass; or "its number and a place".
pub data Judgement : Type 0 where
  passing : Figures → Judgement
  failing : Judgement
  refusing : ℕ → ℕ → Judgement

-- What judging finds,
abbrev pub judgement : Option Judged.Figures → Judgement
judgement (Some f) = passing (figures_in f)
judgement None = failing

-- and what an answer of `judge` says.
abbrev pub judgement_of : Result (Option Judged.Figures) Fault → Judgement
judgement_of (Ok v) = judgement v
judgement_of (Err f) = refusing (number_of f.refusal) f.place
