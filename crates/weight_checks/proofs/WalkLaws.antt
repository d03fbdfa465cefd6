-- The first number above a limit, found by going from number to number: what is known once the numbers before i were passed over.
use mathlib.Core.Path.{◌≡◌}
use mathlib.Core.List.{List}
use Prim.Native.Nat.{ℕ, ◌+◌, ◌≤◌, ◌<◌}
use native.Mathlib.Numerals.{add-one}
use native.Mathlib.Omega.{arith}
use lib.ListN.{length, get_or, drop, drop_of_length-le}
use lib.Seq.{drop-cons}
use borrow.Author.Tests.{lt-ltb, le-ltb}
use Rattle.weight_checks.specs.Checks.{first_above}

module _ (limit : ℕ) (ws : List ℕ) (i x : ℕ) (rest : i + first_above limit (drop i ws) ≡ x) where
  -- A number above the limit is the first one,
  pub above_stops : i < length ws → limit < get_or ws i 0 → i ≡ x
  unfolding first_above
  above_stops b a = omega (arith, rw (drop-cons ws i 0 b, lt-ltb limit (get_or ws i 0) a) at rest)

  -- one that is not is passed over,
  pub above_goes_on : i < length ws → get_or ws i 0 ≤ limit → i + 1 + first_above limit (drop (i + 1) ws) ≡ x
  unfolding first_above
  above_goes_on b a = let e = rw (drop-cons ws i 0 b, le-ltb limit (get_or ws i 0) a) at rest in rw (add-one i) (omega (arith, e))

  -- and after the last there is none.
  pub above_ends : length ws ≤ i → i ≡ x
  unfolding first_above
  above_ends b = omega (arith, rw (drop_of_length-le ws b) at rest)
