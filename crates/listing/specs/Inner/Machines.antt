-- What the private functions of listing ask and give.
use Rattle.std.specs.Prelude.{◌≡◌, List, ℕ, ◌-◌, length, Result}
use Rattle.plant.specs.Found.{Found}
use Rattle.plant.specs.declared.Fault.{Fault}
use Rattle.tables.specs.Tables.{row_in}
use Rattle.decoding.specs.Tables.{plant_of}
use Rattle.decoding.specs.declared.Shape.{Shape}
use Rattle.cycle_paths.specs.Cycles.{cycles_through}
use Rattle.cycle_paths.specs.Listings.{flattened}
use Rattle.cycle_paths.specs.Rows.{up_from}
use Rattle.listing.specs.Answers.{answer_of}
use Rattle.listing.specs.Listing.{checked_room, checked, answered, filled}

-- The answer and the list after it are those of what was found.
pub record Answers (x : Found (List ℕ)) (before after : List ℕ) (r : Result ℕ Fault) : Type 0 where
  pub answer : answer_of r ≡ answered x
  pub list_after : after ≡ filled x before

-- The entries of the cycles of the rows of a table from `first` up to, and not including, `last`.
abbrev pub entries_between : List ℕ → ℕ → ℕ → List ℕ
entries_between table first last =
    flattened (cycles_through 24 (λ k. (row_in table k).left) (λ k. (row_in table k).entered) (up_from first (last - first)))

-- What is answered for them, wherever the file ended.
abbrev pub AnswersRows : List ℕ → ℕ → ℕ → List ℕ → List ℕ → Result ℕ Fault → Type 0
AnswersRows table first last before after r = (end : ℕ) → Answers (checked_room (length before) (entries_between table first last) end) before after r

-- What is answered for a machine, after the checks 12 and 13.
abbrev pub AnswersChecked : Shape → List ℕ → ℕ → List ℕ → List ℕ → Result ℕ Fault → Type 0
AnswersChecked s table m before after r = (end : ℕ) → Answers (checked m (length before) (plant_of s table) end) before after r
