-- What confirming owes (document 01, "Cycle sets"; demand 2).
use Rattle.std.specs.Prelude.{◌≡◌, cond, List, ℕ, zero, suc, ◌+◌, ℤ, pos}
use Rattle.std.specs.Int.Signed.{lt_z}
use Rattle.livelock.specs.Plants.{Plant}
use Rattle.livelock.specs.CycleSets.{Entry, Balanced, set_effect}
use Rattle.plant.specs.Found.{Found, found, fault}
use Rattle.plant.specs.Reading.{read_plant}
use Rattle.cycle_sets.specs.Answers.{Answer, confirmed, negative, refused}
use Rattle.set_entries.specs.Sets.{read_set}

-- "confirmed when no sum is below zero; otherwise the lowest type with a negative sum, and that signed sum": for n types from t on.
unfoldable pub lowest_negative : (ℕ → ℤ) → ℕ → ℕ → Answer
lowest_negative sums t zero = confirmed
lowest_negative sums t (suc n) = cond (lt_z (sums t) (pos 0)) (negative t (sums t)) (lowest_negative sums (t + 1) n)

-- "Effects times repeats are added for each type", or the fault of the list.
abbrev pub set_answer : Plant → Found (List Entry) → Answer
set_answer P (found es end) = lowest_negative (set_effect P es) 0 P.types
set_answer P (fault number place) = refused number place

-- "File first": the answer that is owed for what the file reads as.
abbrev pub owed : Found Plant → List ℕ → Answer
owed (found P end) set = set_answer P (read_set P set)
owed (fault number place) set = refused number place

-- The file reads as a plant, and the list as a balanced set of it.
pub record ReadsBalanced (file set : List ℕ) : Type 0 where
  pub plant : Plant
  pub file_end : ℕ
  pub entries : List Entry
  pub set_end : ℕ
  pub file_reads : read_plant file ≡ found plant file_end
  pub set_reads : read_set plant set ≡ found entries set_end
  pub balanced : Balanced plant entries
