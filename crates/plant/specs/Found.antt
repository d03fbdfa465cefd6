-- What reading at an offset finds (document 01, "Where each fault is found").
use Rattle.std.specs.Prelude.{ℕ, ◌+◌}

-- A value and the offset after it, or "its number and a place".
pub data Found (A : Type 0) : Type 0 where
  found : A → ℕ → Found A
  fault : ℕ → ℕ → Found A

-- "The first fault met decides": what is read first and, unless that is a fault, what follows it.
abbrev pub and_then : {A B : Type 0} → Found A → (A → ℕ → Found B) → Found B
and_then (found a next) k = k a next
and_then (fault number place) k = fault number place

-- What a part of the file that begins at `base` gives, with its offsets counted from the start of the file.
abbrev pub moved_by : {A : Type 0} → ℕ → Found A → Found A
moved_by base (found a next) = found a (base + next)
moved_by base (fault number place) = fault number (base + place)
