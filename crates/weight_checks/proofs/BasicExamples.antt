-- Checks 9, 10 and 11 that the checker computes by the definitions alone, on plant A of document 01.
use mathlib.Core.Path.{◌≡◌, refl}
use mathlib.Core.List.{List, [], ◌∷◌}
use Prim.Native.Nat.{ℕ}
use Rattle.livelock.specs.Plants.{Plant}
use Rattle.livelock.proofs.BasicExamples.{panel_and_probe, plant_a}
use Rattle.plant.specs.Found.{Found, found, fault, and_then}
use Rattle.weight_checks.specs.Checks.{first_above, checked_sizes, checked_weights, checked_room}

-- The checks of plant A, whose file has 20 bytes.
abbrev checked_a : List ℕ → ℕ → Found Plant
checked_a ws room = and_then (checked_weights ws plant_a 20) (checked_room room)

-- Weights 2 and 1 with a list of 64 entries: no fault.
weighable : checked_a (2 ∷ 1 ∷ []) 64 ≡ found plant_a 20
unfolding panel_and_probe first_above checked_sizes checked_weights checked_room
weighable = refl

-- Number 9: a weight too few, and one too many, whatever else is wrong.
weight_missing : checked_a (1001 ∷ []) 0 ≡ fault 9 0
unfolding panel_and_probe first_above checked_sizes checked_weights checked_room
weight_missing = refl

weight_too_many : checked_a (2 ∷ 1 ∷ 0 ∷ []) 64 ≡ fault 9 0
unfolding panel_and_probe first_above checked_sizes checked_weights checked_room
weight_too_many = refl

-- Number 10: 1,000 is a weight, and 1,001 is none; it comes before number 11.
weight_1000 : checked_a (1000 ∷ 0 ∷ []) 64 ≡ found plant_a 20
unfolding panel_and_probe first_above checked_sizes checked_weights checked_room
weight_1000 = refl

weight_1001 : checked_a (1000 ∷ 1001 ∷ []) 0 ≡ fault 10 1
unfolding panel_and_probe first_above checked_sizes checked_weights checked_room
weight_1001 = refl

-- Number 11: 63 entries are too few.
short_list : checked_a (2 ∷ 1 ∷ []) 63 ≡ fault 11 0
unfolding panel_and_probe first_above checked_sizes checked_weights checked_room
short_list = refl
