-- The two files of the program `ceiling`, and what it owes for them (document 01, "The program `ceiling`").
use Rattle.std.specs.Prelude.{◌≡◌, cond, List, ℕ, ◌%◌, length, take, replicate, eqb}
use Rattle.livelock.specs.Plants.{Plant}
use Rattle.plant.specs.Found.{Found, fault, and_then}
use Rattle.plant.specs.Reading.{read_plant}
use Rattle.weight_files.specs.WeightFiles.{weights_of}
use Rattle.weight_checks.specs.Checks.{checked_weights}
use Rattle.weighing.specs.Answers.{Answer}
use Rattle.weighing.specs.Weighing.{Owed}
use Rattle.answer_line.specs.Lines.{line_of}

-- "an odd length is 9 at place 0", then the checks 9 and 10 of the weights. The program's own list has room for a cycle, so that check 11 finds nothing.
unfoldable pub checked_bytes : List ℕ → Plant → ℕ → Found Plant
checked_bytes weights P end = cond (eqb (length weights % 2) 1) (fault 9 0) (checked_weights (weights_of weights) P end)

-- "reads plant.bin and weights.bin": the plant to weigh, or the first fault, the plant's own faults first.
abbrev pub judged_files : List ℕ → List ℕ → Found Plant
judged_files plant weights = and_then (read_plant plant) (checked_bytes weights)

-- "It prints one line": the line of an answer that is owed for the two files.
pub record Printed (plant weights line : List ℕ) : Type 0 where
  pub answer : Answer
  pub after : List ℕ
  pub owed : Owed (weights_of weights) (replicate 64 0) after answer (judged_files plant weights)
  pub line_is : line ≡ line_of answer after

-- The first n bytes of a buffer are a file, or as many of its first bytes as the buffer holds.
abbrev pub Holds : List ℕ → ℕ → List ℕ → Type 0
Holds buffer n file = take n buffer ≡ take (length buffer) file

-- The line is that of the two files, whatever files they are whose first bytes the two buffers hold.
abbrev pub PrintedOf : List ℕ → ℕ → List ℕ → ℕ → List ℕ → Type 0
PrintedOf plant n weights m line = (plant_file weights_file : List ℕ) → Holds plant n plant_file → Holds weights m weights_file → Printed plant_file weights_file line
