-- The size of signed numbers, and what fits 64 bits.
use mathlib.Core.Path.{◌≡◌}
use Prim.Native.Nat.{ℕ, zero, suc, ◌+◌, ◌^◌, ◌≤◌, ◌<◌, max}
use native.Mathlib.Omega.{arith}
use lib.IntN.{ℤ, pos, negsuc, neg_ℤ, nat_abs, ◌+ℤ◌, ◌-ℤ◌, +ℤ_idl}
use mir.Syntax.{w64}
use mir.Val.{SFits, to_z, of_z}
use mir.Facts.{to_z-of_z}
use Rattle.livelock.specs.Differences.{Difference}
use Rattle.livelock.proofs.Differences.{difference_plus}

-- A difference is at most the greater of the two numbers either way.
pub size_at_most : (z : ℤ) (a b : ℕ) → Difference z a b → nat_abs z ≤ max a b
size_at_most (pos d) a b i = omega arith
size_at_most (negsuc d) a b i = omega arith

-- A sum is at most the sizes together either way,
pub size_plus : (y z : ℤ) → nat_abs (y +ℤ z) ≤ nat_abs y + nat_abs z
size_plus (pos a) (pos b) = omega (arith, size_at_most (pos a +ℤ pos b) _ _ (difference_plus (pos a) (pos b) a 0 b 0 (omega arith) (omega arith)))
size_plus (pos a) (negsuc b) = omega (arith, size_at_most (pos a +ℤ negsuc b) _ _ (difference_plus (pos a) (negsuc b) a 0 0 (suc b) (omega arith) (omega arith)))
size_plus (negsuc a) (pos b) = omega (arith, size_at_most (negsuc a +ℤ pos b) _ _ (difference_plus (negsuc a) (pos b) 0 (suc a) b 0 (omega arith) (omega arith)))
size_plus (negsuc a) (negsuc b) = omega (arith, size_at_most (negsuc a +ℤ negsuc b) _ _ (difference_plus (negsuc a) (negsuc b) 0 (suc a) 0 (suc b) (omega arith) (omega arith)))

-- and a number taken from 0 is of its size.
pub size_neg : (n : ℕ) → nat_abs (neg_ℤ (pos n)) ≡ n
size_neg zero = omega arith
size_neg (suc n) = omega arith

-- A number of small size fits 64 bits.
pub size_fits : (z : ℤ) → nat_abs z < 2 ^ 63 → SFits w64 z
size_fits (pos d) h = record { sfits = h }
size_fits (negsuc d) h = record { sfits = omega arith }

-- A number comes back from 64 bits where it is small.
back : (z : ℤ) → nat_abs z < 2 ^ 63 → to_z w64 (of_z w64 z) ≡ z
back z h = to_z-of_z (size_fits z h)

-- A number of repeats as 64 bits hold it, and the same below zero.
module _ (z : ℤ) (repeats : ℕ) (is : z ≡ pos repeats) (few : repeats ≤ 1000000) where
  -- It is itself,
  pub times_is : to_z w64 (of_z w64 z) ≡ pos repeats
  times_is = rw is (back (pos repeats) (omega arith))

  -- and so it is where it was taken from 0.
  pub less_is : to_z w64 (of_z w64 (pos 0 -ℤ to_z w64 (of_z w64 z))) ≡ neg_ℤ (pos repeats)
  less_is = rw (times_is, +ℤ_idl (neg_ℤ (pos repeats))) (back (neg_ℤ (pos repeats)) (omega (arith, size_neg repeats)))
