-- The answers of confirming, in document 01's numbers and values.
use Rattle.std.specs.Prelude.{ℕ, ℤ, Result, Ok, Err}
use Rattle.plant.specs.Refusals.{number_of}
use Rattle.plant.specs.declared.Fault.{Fault}
use Rattle.cycle_sets.specs.declared.Confirmation.{Confirmation}
use Rattle.cycle_sets.specs.declared.Confirmation.TheVariants as Variants

-- "The set is confirmed"; "otherwise the lowest type with a negative sum, and that signed sum"; or "its number and a place".
-- Different answers are different here.
pub data Answer : Type 0 where
  confirmed : Answer
  negative : ℕ → ℤ → Answer
  refused : ℕ → ℕ → Answer

-- What an answer of `confirm` says.
abbrev pub answer_of : Result Confirmation Fault → Answer
answer_of (Ok Variants.Confirmed) = confirmed
answer_of (Ok (Variants.Negative message sum)) = negative message sum
answer_of (Err f) = refused (number_of f.refusal) f.place
