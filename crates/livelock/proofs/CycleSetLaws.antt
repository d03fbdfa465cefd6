-- Laws of cycle sets.
use mathlib.Core.Logic.{◌↔◌}
use mathlib.Core.List.{List, [], ◌∷◌}
use Prim.Native.Nat.{ℕ, ◌*◌, ◌≤◌, ◌<◌}
use native.Mathlib.Omega.{arith}
use lib.ListN.{length}
use lib.IntN.{pos, ◌*ℤ◌}
use lib.Signed.{◌≤ℤ◌}
use Rattle.livelock.specs.Lists.{sum, All}
use Rattle.livelock.specs.Plants.{Plant}
use Rattle.livelock.specs.Cycles.{messages_sent, messages_taken, effect}
use Rattle.livelock.specs.CycleSets.{Entry, set_effect}
use Rattle.livelock.specs.Differences.{Difference}
use Rattle.livelock.proofs.Differences.{difference_times, difference_sum, not_negative_iff}
use Rattle.livelock.proofs.CycleWeights.{effect_difference}

-- What a set sends of type t, and what it takes, each cycle as often as it is repeated.
abbrev pub set_sent : Plant → List Entry → ℕ → ℕ
set_sent P es t = sum (λ e. e.repeats * messages_sent P e.cycle t) es

abbrev pub set_taken : Plant → List Entry → ℕ → ℕ
set_taken P es t = sum (λ e. e.repeats * messages_taken P e.cycle t) es

-- The sum of a type is what the set sends of it less what it takes,
pub set_difference : (P : Plant) (es : List Entry) (t : ℕ) → Difference (set_effect P es t) (set_sent P es t) (set_taken P es t)
unfolding set_effect
set_difference P es t =
    difference_sum
    (λ e. pos e.repeats *ℤ effect P e.cycle t)
    (λ e. e.repeats * messages_sent P e.cycle t)
    (λ e. e.repeats * messages_taken P e.cycle t)
    (λ e. difference_times e.repeats (effect P e.cycle t) _ _ (effect_difference P e.cycle t))
    es

-- so it is not below zero where the set "sends at least what it takes".
pub none_consumed_iff : (P : Plant) (es : List Entry) (t : ℕ) → (pos 0 ≤ℤ set_effect P es t) ↔ (set_taken P es t ≤ set_sent P es t)
none_consumed_iff P es t = not_negative_iff (set_effect P es t) (set_sent P es t) (set_taken P es t) (set_difference P es t)

-- Where each entry is repeated, inequality (2) says that "it is not empty".
pub some_repeated_iff : (es : List Entry) → All (λ e. 0 < e.repeats) es → (0 < sum (λ e. e.repeats) es) ↔ (0 < length es)
unfolding sum All
some_repeated_iff [] h = (λ l. l, λ l. l)
some_repeated_iff (e ∷ es) h = (λ l. omega arith, λ l. omega (arith, h.0))
