-- Signed numbers as differences of two natural numbers.
use Rattle.std.specs.Prelude.{◌≡◌, ℕ, suc, ◌+◌, ℤ, pos, negsuc}

-- z is a − b.
abbrev pub Difference : ℤ → ℕ → ℕ → Type 0
Difference (pos d) a b = a ≡ b + d
Difference (negsuc d) a b = b ≡ a + suc d
