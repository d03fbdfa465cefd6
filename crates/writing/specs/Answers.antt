-- The answers of writing, in the documents' numbers and values.
use Rattle.std.specs.Prelude.{ℕ, Result, Ok, Err}
use Rattle.plant.specs.Refusals.{number_of}
use Rattle.plant.specs.declared.Fault.{Fault}

-- "Its length is handed back"; or "its number and a place". Different answers are different here.
pub data Answer : Type 0 where
  wrote : ℕ → Answer
  refused : ℕ → ℕ → Answer

-- What an answer of `write` says.
abbrev pub answer_of : Result ℕ Fault → Answer
answer_of (Ok length) = wrote length
answer_of (Err f) = refused (number_of f.refusal) f.place
