-- The answers of listing, in document 01's numbers and values.
use Rattle.std.specs.Prelude.{ℕ, Result, Ok, Err}
use Rattle.plant.specs.Refusals.{number_of}
use Rattle.plant.specs.declared.Fault.{Fault}

-- "the entries used are handed back"; or "its number and a place". Different answers are different here.
pub data Answer : Type 0 where
  entries : ℕ → Answer
  refused : ℕ → ℕ → Answer

-- What an answer of `list` says.
abbrev pub answer_of : Result ℕ Fault → Answer
answer_of (Ok used) = entries used
answer_of (Err f) = refused (number_of f.refusal) f.place
