-- How the input of weighing is judged (document 01, "Where each fault is found", 9 to 11), and what the functions that check it give.
use Rattle.std.specs.Prelude.{◌≡◌, cond, List, [], ◌∷◌, ℕ, suc, ◌≤◌, ◌<◌, length, eqb, ltb, Option, MatchOption, Result}
use Rattle.livelock.specs.Plants.{Plant}
use Rattle.plant.specs.Found.{Found, found, fault, and_then}
use Rattle.plant.specs.Reading.{read_plant}
use Rattle.plant.specs.Checks.{check_found}
use Rattle.plant.specs.declared.Fault.{Fault}

-- The index of the first number above a limit, or the length if none is.
unfoldable pub first_above : ℕ → List ℕ → ℕ
first_above limit [] = 0
first_above limit (x ∷ xs) = cond (ltb limit x) 0 (suc (first_above limit xs))

-- What a search for a number above a limit gives: the index of the first, or nothing if none is.
abbrev pub FirstAbove : ℕ → List ℕ → Option ℕ → Type 0
FirstAbove limit xs r = MatchOption r (length xs ≤ first_above limit xs) (λ i. (i ≡ first_above limit xs) × (i < length xs))

-- "weights | 10 | above 1,000 | index".
unfoldable pub checked_sizes : List ℕ → Plant → ℕ → Found Plant
checked_sizes ws P end = cond (ltb (first_above 1000 ws) (length ws)) (fault 10 (first_above 1000 ws)) (found P end)

-- "weights | 9 | not one for each type | 0", then 10: a plant for which the weights are good.
unfoldable pub checked_weights : List ℕ → Plant → ℕ → Found Plant
checked_weights ws P end = cond (eqb (length ws) P.types) (checked_sizes ws P end) (fault 9 0)

-- "File first, then downward as each call reads its parts": the plant for which the weights are good, or the fault.
abbrev pub judged_weights : List ℕ → List ℕ → Found Plant
judged_weights file ws = and_then (read_plant file) (checked_weights ws)

-- "lent cycle list (weighing) | 11 | shorter than 64 | 0".
unfoldable pub checked_room : ℕ → Plant → ℕ → Found Plant
checked_room room P end = cond (ltb room 64) (fault 11 0) (found P end)

-- "weighing checks 9, 10, 11": the plant to weigh, or the fault.
abbrev pub judged : List ℕ → List ℕ → ℕ → Found Plant
judged file ws room = and_then (judged_weights file ws) (checked_room room)

-- For every plant with so many types, wherever reading ended: the checks 9 and 10.
abbrev pub WeightsChecked : ℕ → List ℕ → Result (Unit {0}) Fault → Type 0
WeightsChecked types ws r = (P : Plant) (end : ℕ) → P.types ≡ types → check_found r P end ≡ checked_weights ws P end

-- For every plant, wherever reading ended: check 11.
abbrev pub RoomChecked : ℕ → Result (Unit {0}) Fault → Type 0
RoomChecked room r = (P : Plant) (end : ℕ) → check_found r P end ≡ checked_room room P end

-- For every plant with so many types, wherever reading ended: the checks 9, 10 and 11.
abbrev pub WeighingChecked : ℕ → List ℕ → ℕ → Result (Unit {0}) Fault → Type 0
WeighingChecked types ws room r = (P : Plant) (end : ℕ) → P.types ≡ types → check_found r P end ≡ and_then (checked_weights ws P end) (checked_room room)
