-- The answers of quoting, in document 01's numbers and values.
use Rattle.std.specs.Prelude.{ℕ, Result, Ok, Err}
use Rattle.plant.specs.Refusals.{number_of}
use Rattle.plant.specs.declared.Fault.{Fault}
use Rattle.quoting.specs.declared.Quoted.{Quoted}

-- "the ceiling" and "its price class"; or "its number and a place". Different answers are different here.
pub data Answer : Type 0 where
  quoted : ℕ → ℕ → Answer
  refused : ℕ → ℕ → Answer

-- What a quote says,
abbrev pub quoted_answer : Quoted → Answer
quoted_answer q = quoted q.ceiling q.class

-- and what an answer of `quote` says.
abbrev pub answer_of : Result Quoted Fault → Answer
answer_of (Ok q) = quoted_answer q
answer_of (Err f) = refused (number_of f.refusal) f.place
