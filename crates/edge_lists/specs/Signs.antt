-- Signed numbers in two natural numbers.
use Rattle.std.specs.Prelude.{ℕ, suc, ℤ, pos, negsuc}

-- A signed number is its rise less its fall, of which one is 0: the rise is the number if it is not below zero,
unfoldable pub rise : ℤ → ℕ
rise (pos d) = d
rise (negsuc d) = 0

-- and the fall is its size if it is.
unfoldable pub fall : ℤ → ℕ
fall (pos d) = 0
fall (negsuc d) = suc d
