-- The answers of the call that only reads, in document 01's numbers.
use Rattle.std.specs.Prelude.{ℕ, Result, Ok, Err}
use Rattle.livelock.specs.Plants.{Plant, row_count, machine_count}
use Rattle.plant.specs.Found.{Found, found, fault}
use Rattle.plant.specs.Refusals.{number_of}
use Rattle.plant.specs.declared.Fault.{Fault}
use Rattle.reading.specs.declared.Counts.{Counts}

-- "hands back the counts of machines, types and rows", or "its number and a place": different answers are different here.
pub data Answer : Type 0 where
  counts : ℕ → ℕ → ℕ → Answer
  refused : ℕ → ℕ → Answer

-- The answer that is owed for what a file reads as.
abbrev pub counts_of : Found Plant → Answer
counts_of (found p next) = counts (machine_count p) p.types (row_count p)
counts_of (fault number place) = refused number place

-- What an answer of `read` says.
abbrev pub answer_of : Result Counts Fault → Answer
answer_of (Ok c) = counts c.machines c.types c.rows
answer_of (Err f) = refused (number_of f.refusal) f.place
