-- Checks 20 and 21 that the checker computes by the definitions alone, on plant A of document 01.
use mathlib.Core.Path.{◌≡◌, refl}
use mathlib.Core.List.{List, [], ◌∷◌}
use Prim.Native.Nat.{ℕ}
use Rattle.livelock.specs.Plants.{Plant}
use Rattle.livelock.proofs.BasicExamples.{panel_and_probe, plant_a}
use Rattle.plant.specs.Found.{Found, found, fault}
use Rattle.weight_checks.specs.Checks.{first_above}
use Rattle.contents.specs.Contents.{checked_amounts, checked_contents}

-- The checks of plant A, whose file has 20 bytes.
abbrev checked_a : (contents : List ℕ) → (g d : ℕ) → Found Plant
checked_a contents g d = checked_contents contents (g ∷ d ∷ []) plant_a 20

-- Number 20: a content too few, and one too many, before number 21.
content_missing : checked_a (1000001 ∷ []) 1000001 1000001 ≡ fault 20 0
unfolding panel_and_probe first_above checked_amounts checked_contents
content_missing = refl

content_too_many : checked_a (3 ∷ 4 ∷ 1000001 ∷ []) 1 0 ≡ fault 20 0
unfolding panel_and_probe first_above checked_amounts checked_contents
content_too_many = refl

-- Number 21: 1,000,000 is a content, a g and a d, and 1,000,001 is none.
amounts_1000000 : checked_a (1000000 ∷ 1000000 ∷ []) 1000000 1000000 ≡ found plant_a 20
unfolding panel_and_probe first_above checked_amounts checked_contents
amounts_1000000 = refl

-- A content is refused at its index, g at the type count and d one past it; the first decides.
content_1000001 : checked_a (1000000 ∷ 1000001 ∷ []) 1000001 1000001 ≡ fault 21 1
unfolding panel_and_probe first_above checked_amounts checked_contents
content_1000001 = refl

g_1000001 : checked_a (1000000 ∷ 1000000 ∷ []) 1000001 1000001 ≡ fault 21 2
unfolding panel_and_probe first_above checked_amounts checked_contents
g_1000001 = refl

d_1000001 : checked_a (1000000 ∷ 1000000 ∷ []) 1000000 1000001 ≡ fault 21 3
unfolding panel_and_probe first_above checked_amounts checked_contents
d_1000001 = refl
