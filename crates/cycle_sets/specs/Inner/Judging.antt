-- What the private functions of confirming give.
use Rattle.std.specs.Prelude.{◌≡◌, List, ℕ, get_or, ℤ, pos, Result, Ok, Err}
use Rattle.livelock.specs.Plants.{Plant}
use Rattle.livelock.specs.CycleSets.{Entry, set_effect}
use Rattle.plant.specs.Found.{Found, found}
use Rattle.plant.specs.Steps.{fault_found}
use Rattle.plant.specs.declared.Fault.{Fault}

-- The sums are those of the entries.
abbrev pub SumsOf : Plant → List Entry → List ℤ → Type 0
SumsOf P es sums = (t : ℕ) → get_or sums t (pos 0) ≡ set_effect P es t

-- Where a list reads as entries, the sums are those of the entries; else it is the fault.
pub data JudgedAs (P : Plant) : Result (List ℤ) Fault → Found (List Entry) → Type 0 where
  entries_read : {sums : List ℤ} {es : List Entry} {next : ℕ} → SumsOf P es sums → JudgedAs P (Ok sums) (found es next)
  fault_met : {f : Fault} → JudgedAs P (Err f) (fault_found f)
