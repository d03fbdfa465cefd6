-- Bytes stored in a buffer one behind the other: what the buffer holds up to an offset.
use Rattle.std.specs.Prelude.{◌≡◌, List, ◌++◌, ℕ, ◌+◌, length, take}

-- These bytes were stored from `pos` on, up to `end`. What the buffer holds behind `end` is not said.
pub record Stored (before after : List ℕ) (pos : ℕ) (bytes : List ℕ) (end : ℕ) : Type 0 where
  pub ends : end ≡ pos + length bytes
  pub front : take end after ≡ take pos before ++ bytes
