-- The answers of the calls on a watcher, in document 02's numbers and values.
use Rattle.std.specs.Prelude.{ℕ, Result, Ok, Err}
use Rattle.plant.specs.Refusals.{number_of}
use Rattle.plant.specs.declared.Fault.{Fault}

-- "the ceiling for the progress rows and doublings so far, less the quiet rows so far"; or "its number and a place". Different answers are different here.
pub data Answer : Type 0 where
  remaining : ℕ → Answer
  refused : ℕ → ℕ → Answer

-- What an answer of a call says.
abbrev pub answer_of : Result ℕ Fault → Answer
answer_of (Ok left) = remaining left
answer_of (Err f) = refused (number_of f.refusal) f.place
