-- What the writer owes for a list and a lent buffer (document 02, L2).
use Rattle.std.specs.Prelude.{◌≡◌, cond, List, ◌++◌, ℕ, length, take, drop, ltb}
use Rattle.livelock.specs.Plants.{Plant}
use Rattle.plant.specs.Found.{Found, found, fault}
use Rattle.plant_files.specs.Files.{file_of, Shortest}
use Rattle.plant_lists.specs.Lists.{listed_plant}
use Rattle.writing.specs.Answers.{Answer, wrote, refused}

-- "and last with 25 an output buffer that is too short, at 0": the answer for a file and a buffer of so many bytes,
abbrev pub written : List ℕ → ℕ → Answer
written file room = cond (ltb room (length file)) (refused 25 0) (wrote (length file))

-- and the buffer afterwards: "buffer bytes past it are kept".
abbrev pub buffer_with : List ℕ → List ℕ → List ℕ
buffer_with file buffer = cond (ltb (length buffer) (length file)) buffer (file ++ drop (length file) buffer)

-- The answer that is owed for what a list says and a buffer of so many bytes,
abbrev pub answer_for : Found Plant → ℕ → Answer
answer_for (found p next) room = written (file_of p) room
answer_for (fault number place) room = refused number place

-- and the buffer afterwards: "lent lists keep their contents" with a refusal.
abbrev pub buffer_for : Found Plant → List ℕ → List ℕ
buffer_for (found p next) buffer = buffer_with (file_of p) buffer
buffer_for (fault number place) buffer = buffer

-- A file is a shortest one of the plant that a list says.
pub record SaysShortest (numbers file : List ℕ) : Type 0 where
  pub plant : Plant
  pub says : listed_plant numbers ≡ found plant (length numbers)
  pub shortest : Shortest plant file

-- "What the writer wrote reads as the list's rows", and "every other file that reads as the same types, machines and rows has at least
-- as many" bytes: what is in the front of the buffer when a length was handed back.
abbrev pub WritesShortest : List ℕ → List ℕ → Answer → Type 0
WritesShortest numbers after (wrote length) = SaysShortest numbers (take length after)
WritesShortest numbers after (refused number place) = Unit {0}
