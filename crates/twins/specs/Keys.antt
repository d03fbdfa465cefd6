-- Rows as numbers, and what is kept of the rows of a machine that were read, so that a twin is found among them. No definition of an answer rests on
-- these.
use Rattle.std.specs.Prelude.{◌≡◌, Bool, false, ◌||◌, cond, List, [], ◌∷◌, ◌++◌, map, ℕ, ◌+◌, ◌*◌, ◌/◌, ◌%◌, ◌^◌, ◌<◌, length, take, eqb, Option, None, Some}
use Rattle.std.specs.Prelude as Std
use Rattle.livelock.specs.Lists.{All}
use Rattle.livelock.specs.Plants.{Row, TypeIn}
use Rattle.plant.specs.Limits.{rows_in}
use Rattle.plant.specs.Twins.{has_twin}
use Rattle.plant_rows.specs.Rows.{fields_row}
use Rattle.plant_rows.specs.declared.RowFields.{RowFields}

-- The number of a type, or 64.
abbrev pub type_number : Option ℕ → ℕ
type_number None = 64
type_number (Some t) = t

-- The key of a row: its fields as the digits of one number, the state left lowest.
unfoldable pub key_of : Row → ℕ
key_of r =
    r.left + 256 * (r.entered + 256 * (type_number r.sent + 128 * (type_number r.taken + 128 * cond r.progress 1 0)))

-- A row whose fields are within these digits.
pub record Small (r : Row) : Type 0 where
  pub left : r.left < 256
  pub entered : r.entered < 256
  pub sent : TypeIn 64 r.sent
  pub taken : TypeIn 64 r.taken

-- A number is one of a list.
unfoldable pub is_in : ℕ → List ℕ → Bool
is_in x [] = false
is_in x (y ∷ ys) = eqb y x || is_in x ys

-- The bit of a state: that of its number modulo 64.
abbrev pub state_bit : ℕ → ℕ → ℕ
state_bit states state = states / 2 ^ (state % 64) % 2

-- What is kept of the n rows of machine m among these rows: the first n keys are theirs, and the bit of each state that they leave stands.
pub record RowsKept (m n : ℕ) (rows : List Row) (keys : List ℕ) (states : ℕ) : Type 0 where
  pub keys_are : take n keys ≡ map key_of (rows_in m rows)
  pub leave : All (λ r. state_bit states r.left ≡ 1) (rows_in m rows)
  pub small : All Small (rows_in m rows)

-- What is told of the next row of a machine, whatever the machine and the rows: none if it is a twin; and if it is no twin, it is kept as well, with the
-- states that the rows with it leave.
pub record RowKept (n : ℕ) (row : RowFields) (states : ℕ) (before after : List ℕ) (k : Std.Option ℕ) : Type 0 where
  pub long : length after ≡ length before
  pub told : (m : ℕ) (rows : List Row) → RowsKept m n rows before states → Std.is_none k ≡ has_twin (fields_row m row) rows
  pub kept : (m : ℕ) (rows : List Row) → RowsKept m n rows before states → (more : ℕ) → k ≡ Std.Some more
      → RowsKept m (n + 1) (rows ++ (fields_row m row ∷ [])) after more
