-- A type that was read is below the count of types.
use Rattle.std.proofs.Common.{◌≡◌, sym, Bool, true, false, List, ℕ, ◌≤◌, ◌<◌, length}
use Rattle.std.specs.Prelude.{Option, Some, None}
use Rattle.std.specs.Option.{ForSome}
use Rattle.std.proofs.lemmas.Option.{none-some, same_Some}
use native.Mathlib.Omega.{arith}
use Rattle.plant.specs.Found.{found}
use Rattle.plant.specs.Reading.{type_field}
use Rattle.plant.proofs.Bounds.{Each, got, each_found, each_then, byte_in_each}

module _ (types : ℕ) (few : types ≤ 64) (s : List ℕ) (at : ℕ) where
  type_each : (stands : Bool) → Each (λ o next. ForSome o (λ t. t < 64)) (length s) (type_field stands types s at)
  unfolding type_field
  type_each true =
      each_then (byte_in_each s at 0 types 6 (omega arith) (omega arith))
      (λ b next h. got {a = Some b} (λ t e. omega (arith, few, h.1.1, same_Some b t e)))
  type_each false = got {a = None} (λ t e. absurd (none-some t e))

  -- So it is below 64, where there are at most 64 types.
  pub type_below : (stands : Bool) (o : Option ℕ) (next : ℕ) → found o next ≡ type_field stands types s at → ForSome o (λ t. t < 64)
  type_below stands o next e = each_found o next (type_each stands) (sym e)
