-- Laws of a byte that passes a test, for the functions that read one.
use mathlib.Core.Path.{◌≡◌}
use mathlib.Core.Bool.{Bool, true, false}
use mathlib.Core.List.{List}
use Prim.Native.Nat.{ℕ}
use lib.Dec.{ltb, leb-zero}
use Rattle.plant.specs.Found.{found, fault}
use Rattle.plant.specs.Reading.{byte_at, byte_that, in_range, byte_in}

module _ (passes : ℕ → Bool) (number : ℕ) (s : List ℕ) (at : ℕ) where
  -- Where the byte is missing, the fault is handed on;
  pub byte_missing : (n place : ℕ) → byte_at s at ≡ fault n place → fault n place ≡ byte_that passes number s at
  unfolding byte_that
  byte_missing n place e = rw e

  -- where it is there, its test decides.
  module _ (b next : ℕ) (e : byte_at s at ≡ found b next) where
    pub byte_passes : passes b ≡ true → found b next ≡ byte_that passes number s at
    unfolding byte_that
    byte_passes t = rw (e, t)

    pub byte_fails : passes b ≡ false → fault number at ≡ byte_that passes number s at
    unfolding byte_that
    byte_fails t = rw (e, t)

-- A byte of a range that begins at 0 is one below its end.
pub byte_below : (end number : ℕ) (s : List ℕ) (at : ℕ) → byte_in 0 end number s at ≡ byte_that (λ b. ltb b end) number s at
unfolding byte_in
byte_below end number s at = λ i. byte_that (λ b. below b i) number s at
  where
    below : (b : ℕ) → in_range 0 end b ≡ ltb b end
    below b = rw (leb-zero b)
