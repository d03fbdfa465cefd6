-- Laws of signed numbers, for code that keeps them in 64 bits.
use mathlib.Core.Path.{◌≡◌, sym, ap, refl}
use mathlib.Core.Bool.{true, false, false≢true}
use Prim.Native.Nat.{ℕ, ◌+◌, ◌-◌, ◌*◌, ◌^◌, ◌≤◌, ◌<◌, max}
use native.Mathlib.Omega.{arith}
use lib.Dec.{T, ltb}
use Rattle.std.specs.Int.{int_max}
use mathlib.Core.Bool.{Bool}
use lib.IntN.{ℤ, pos, negsuc, nat_abs, ◌+ℤ◌, ◌-ℤ◌, ◌*ℤ◌}
use lib.Signed.{le_z, lt_z, non_neg}
use mir.Syntax.{w64}
use mir.Val.{SFits, to_z, of_z}
use mir.Facts.{to_z_pos, to_z-of_z}
use borrow.Author.Tests.{leb-true, leb-false, le-ltb}
use Rattle.livelock.specs.Differences.{Difference}
use Rattle.livelock.proofs.Differences.{difference_shift, difference_minus, difference_plus, difference_times}
use Rattle.edge_lists.specs.Signs.{rise, fall}

-- A signed number is its rise less its fall.
pub rise_fall : (z : ℤ) → Difference z (rise z) (fall z)
unfolding rise fall
rise_fall (pos d) = omega arith
rise_fall (negsuc d) = omega arith

-- The rise is the least that a difference can be taken from, and the fall the least that can be taken.
pub rise_at_most : (z : ℤ) (a b : ℕ) → Difference z a b → rise z ≤ a
unfolding rise
rise_at_most (pos d) a b i = omega arith
rise_at_most (negsuc d) a b i = omega arith

pub fall_at_most : (z : ℤ) (a b : ℕ) → Difference z a b → fall z ≤ b
unfolding fall
fall_at_most (pos d) a b i = omega arith
fall_at_most (negsuc d) a b i = omega arith

-- Two ways to write one difference.
pub difference_same : (z : ℤ) (a b c d : ℕ) → Difference z a b → Difference z c d → a + d ≡ c + b
difference_same (pos x) a b c d i j = omega arith
difference_same (negsuc x) a b c d i j = omega arith

-- What is the difference of two small numbers fits 64 bits.
pub difference_fits : (z : ℤ) (a b : ℕ) → Difference z a b → a + b < 2 ^ 63 → SFits w64 z
difference_fits (pos d) a b i h = record { sfits = omega arith }
difference_fits (negsuc d) a b i h = record { sfits = omega arith }

-- So does what is left of a small number when another is taken away.
pub minus_fits : (a b : ℕ) → a + b < 2 ^ 63 → SFits w64 (pos a -ℤ pos b)
minus_fits a b h = difference_fits (pos a -ℤ pos b) a b (difference_minus a b) h

-- a − b is at most n,
pub difference_at_most : (z : ℤ) (a b n : ℕ) → Difference z a b → le_z z (pos n) ≡ true → a ≤ n + b
difference_at_most (pos d) a b n i h = omega (arith, leb-true d n h)
difference_at_most (negsuc d) a b n i h = omega arith

-- or above it.
pub difference_above : (z : ℤ) (a b n : ℕ) → Difference z a b → le_z z (pos n) ≡ false → n + b < a
difference_above (pos d) a b n i h = omega (arith, leb-false d n h)
difference_above (negsuc d) a b n i h = absurd (false≢true (sym h))

-- The test in the code whether a − b is above n.
pub difference_test : (z : ℤ) (a b n : ℕ) → Difference z a b → lt_z (pos n) z ≡ ltb n (a - b)
difference_test (pos d) a b n i = let e : d ≡ a - b = omega arith in ap (ltb n) e
difference_test (negsuc d) a b n i = sym (le-ltb n (a - b) (omega arith))

-- The greater of n and a − b, in the code and in natural numbers.
pub difference_max : (z : ℤ) (a b n : ℕ) → Difference z a b → T (non_neg (int_max z (pos n))) × (nat_abs (int_max z (pos n)) ≡ max n (a - b))
difference_max z a b n i = go (lt_z (pos n) z) refl
  where
    go : (x : Bool) → lt_z (pos n) z ≡ x → T (non_neg (int_max z (pos n))) × (nat_abs (int_max z (pos n)) ≡ max n (a - b))
    go true q = grind arith
    go false q = grind arith

-- A difference that is not negative, as a natural number.
pub difference_natural : (z : ℤ) (a b : ℕ) → Difference z a b → b ≤ a → T (non_neg z) × (nat_abs z ≡ a - b)
difference_natural (pos d) a b i h = (tt, omega arith)
difference_natural (negsuc d) a b i h = absurd (omega arith)

-- A number and a signed one.
pub difference_sum_of : (n : ℕ) (z : ℤ) → Difference (pos n +ℤ z) (rise z + n) (fall z)
difference_sum_of n z =
    difference_shift (pos n +ℤ z) (n + rise z) (0 + fall z) (rise z + n) (fall z) (omega arith) (difference_plus (pos n) z n 0 (rise z) (fall z) (omega arith) (rise_fall z))

-- The sum of a height and a length fits 64 bits, so the code's number is the sum itself.
module _ (next : ℕ) (length : ℤ) (low : next ≤ 2199023255552) (up : rise length ≤ 4194304) (down : fall length ≤ 4194304) where
  pub along_fits : SFits w64 (pos next +ℤ length)
  along_fits = difference_fits (pos next +ℤ length) (rise length + next) (fall length) (difference_sum_of next length) (omega arith)

  pub along_is : SFits w64 length → to_z w64 (of_z w64 (to_z w64 next +ℤ to_z w64 (of_z w64 length))) ≡ pos next +ℤ length
  along_is fits = rw (to_z_pos w64 {n = next} (omega arith), to_z-of_z fits) (to_z-of_z along_fits)

  -- The greater of that sum and a height, in the code and in natural numbers.
  pub greater : (at : ℕ) → at ≤ 4398046511104 → SFits w64 length → (m : ℤ) → SFits w64 m → m ≡ int_max (to_z w64 (of_z w64 (to_z w64 next +ℤ to_z w64 (of_z w64 length)))) (to_z w64 at)
      → T (non_neg (to_z w64 (of_z w64 m))) × (nat_abs (to_z w64 (of_z w64 m)) ≡ max at ((rise length + next) - fall length))
  greater at small fits m m-fits is =
      rw (to_z-of_z m-fits, is, along_is fits, to_z_pos w64 {n = at} (omega arith))
      (difference_max (pos next +ℤ length) (rise length + next) (fall length) at (difference_sum_of next length))

-- A number and a multiple of a signed one.
pub difference_length : (first n : ℕ) (z : ℤ) → Difference (pos first +ℤ pos n *ℤ z) (first + n * rise z) (n * fall z)
difference_length first n z =
    difference_shift (pos first +ℤ pos n *ℤ z) (first + n * rise z) (0 + n * fall z) (first + n * rise z) (n * fall z) (omega arith)
    (difference_plus (pos first) (pos n *ℤ z) first 0 (n * rise z) (n * fall z) (omega arith) (difference_times n z (rise z) (fall z) (rise_fall z)))
