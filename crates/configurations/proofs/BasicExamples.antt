-- Examples of a message added where there is no room for it.
use mathlib.Core.Path.{◌≡◌, refl, ap}
use mathlib.Core.List.{List, [], ◌∷◌}
use Rattle.std.specs.Prelude.{Some}
use Prim.Native.Nat.{ℕ, ◌-◌, ◌^◌}
use native.Mathlib.Omega.{arith}
use lib.ListN.{get_or}
use Rattle.configurations.specs.Configurations.{Adds, AddsWithRoom}

-- As many messages as 64 bits count.
abbrev full : List ℕ
full = (2 ^ 64 - 1) ∷ []

-- With one more there may be any number by `AddsWithRoom`,
pub left_open : (v : ℕ) → AddsWithRoom (Some 0) full (v ∷ [])
left_open v = record { adds = λ room is. absurd (omega (arith, room 0)); behind = λ beyond. absurd (omega (arith, beyond 0 refl)); long = refl }

-- and by `Adds` there are as many as before.
pub stops : (v : ℕ) → Adds (Some 0) full (v ∷ []) → v ≡ 2 ^ 64 - 1
stops v a = omega (arith, ap (λ (l : List ℕ). get_or l 0 0) (a.capped 0 refl (omega arith)))
