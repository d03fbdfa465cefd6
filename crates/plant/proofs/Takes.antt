-- A row takes a byte of the file at least.
use mathlib.Core.Bool.{Bool, true, false}
use mathlib.Core.List.{List}
use Prim.Native.Nat.{ℕ, ◌+◌, ◌≤◌}
use native.Mathlib.Omega.{arith}
use lib.ListN.{length}
use Rattle.plant.specs.Found.{Found}
use Rattle.plant.specs.Reading.{byte_in, in_range, is_map, map_byte, has_bit, state_field, type_field, read_row, rows_byte}
use Rattle.plant.proofs.Bounds.{Each, got, stopped, byte_that_each}
use Rattle.plant.proofs.Gives.{Gives, value, no_value, gives_then}

gives_of : {A : Type 0} {P R : A → ℕ → Type 0} {n : ℕ} {x : Found A} → Each P n x → ((a : A) (next : ℕ) → P a next → R a next) → Gives R x
gives_of (got p) f = value (f _ _ p)
gives_of (stopped h) f = no_value

-- The offset after what was read is at least `from`, and in the file.
abbrev pub Between : ℕ → List ℕ → ℕ → Type 0
Between from s next = (from ≤ next) × (next ≤ length s)

-- A byte takes a byte.
pub byte_takes : (s : List ℕ) (at low end number : ℕ) → 2 ≤ number → number ≤ 8 → Gives (λ b next. Between (at + 1) s next) (byte_in low end number s at)
unfolding byte_in
byte_takes s at low end number l u = gives_of (byte_that_each s at (in_range low end) number l u) (λ b next h. (omega (arith, h.1), omega (arith, h.0, h.1)))

pub rows_byte_takes : (s : List ℕ) (at used : ℕ) → Gives (λ b next. Between (at + 1) s next) (rows_byte used s at)
unfolding rows_byte
rows_byte_takes s at used = gives_of (byte_that_each s at _ 7 (omega arith) (omega arith)) (λ b next h. (omega (arith, h.1), omega (arith, h.0, h.1)))

module _ (s : List ℕ) (from at : ℕ) (l : from ≤ at) (i : at ≤ length s) where
  state_takes : (stands : Bool) (absent states : ℕ) → Gives (λ b next. Between from s next) (state_field stands absent states s at)
  unfolding state_field byte_in
  state_takes true absent states = gives_of (byte_that_each s at (in_range 0 states) 5 (omega arith) (omega arith)) (λ b next h. (omega (arith, h.1), omega (arith, h.0, h.1)))
  state_takes false absent states = value (l, i)

  type_takes : (stands : Bool) (types : ℕ) → Gives (λ o next. Between from s next) (type_field stands types s at)
  unfolding type_field byte_in
  type_takes true types =
      gives_then
      (gives_of {R = λ b next. Between from s next} (byte_that_each s at (in_range 0 types) 6 (omega arith) (omega arith)) (λ b next h. (omega (arith, h.1), omega (arith, h.0, h.1))))
      (λ b next h. value h)
  type_takes false types = value (l, i)

-- A row takes a byte at least.
pub row_takes : (s : List ℕ) (m states types implied at : ℕ) → Gives (λ r next. Between (at + 1) s next) (read_row m states types implied s at)
unfolding read_row map_byte
row_takes s m states types implied at =
    gives_then
    (gives_of {R = λ map next. Between (at + 1) s next} (byte_that_each s at is_map 4 (omega arith) (omega arith)) (λ b next h. (omega (arith, h.1), omega (arith, h.0, h.1)))) λ map a ha.
    gives_then (state_takes s (at + 1) a ha.0 ha.1 (has_bit map 1) implied states) λ left b hb.
    gives_then (state_takes s (at + 1) b hb.0 hb.1 (has_bit map 2) left states) λ entered c hc.
    gives_then (type_takes s (at + 1) c hc.0 hc.1 (has_bit map 4) types) λ sent d hd.
    gives_then (type_takes s (at + 1) d hd.0 hd.1 (has_bit map 8) types) λ taken e he.
    value he
