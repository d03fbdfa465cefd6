-- Plants: what a plant file says, as machines, message types and numbered rows (document 01, "The plant file").
use Rattle.std.specs.Prelude.{Bool, false, not, List, ℕ, ◌<◌, length, get_or, Option, None, Some}
use Rattle.livelock.specs.Lists.{All}

-- "Row: one step of one machine; it sends one message, takes one, or does neither", or both ("takes an order and sends its receipt in one step":
-- document 02, L5). The fields are those of the map byte.
pub record Row : Type 0 where
  pub machine : ℕ
  pub left : ℕ
  pub entered : ℕ
  pub sent : Option ℕ
  pub taken : Option ℕ
  pub progress : Bool

-- "Machines, states, types and rows are numbered from 0; row numbers run through the whole file."
-- `types` is the count of types, `states` has each machine's count of states, and a row's number is its place in `rows`.
pub record Plant : Type 0 where
  pub types : ℕ
  pub states : List ℕ
  pub rows : List Row

-- A row written out, as it stands in examples: its machine, the states left and entered, the types sent and taken, and whether it has progress.
abbrev pub row_with : (machine left entered : ℕ) → (sent taken : Option ℕ) → (progress : Bool) → Row
row_with machine left entered sent taken progress =
    record { machine = machine; left = left; entered = entered; sent = sent; taken = taken; progress = progress }

-- What `row_at` gives for a number that the plant lacks. Runs and cycles have only rows of the plant, so no promise speaks of it.
abbrev pub no_row : Row
no_row = row_with 0 0 0 None None false

-- A row "given by its number".
abbrev pub row_at : Plant → ℕ → Row
row_at P k = get_or P.rows k no_row

-- "the counts of machines, types and rows": the count of rows.
abbrev pub row_count : Plant → ℕ
row_count P = length P.rows

-- "the counts of machines, types and rows": the count of machines.
abbrev pub machine_count : Plant → ℕ
machine_count P = length P.states

-- "each machine: one byte of states": the count of states of machine m.
abbrev pub state_count : Plant → ℕ → ℕ
state_count P m = get_or P.states m 0

-- "Progress: the mark on rows that refresh the reading."
unfoldable pub has_progress : Row → Bool
has_progress r = r.progress

-- "Other rows are quiet."
abbrev pub is_quiet : Row → Bool
is_quiet r = not (has_progress r)

-- Not "not a type" (fault 6): the type of a message, if there is one, is below the count of types.
abbrev pub TypeIn : ℕ → Option ℕ → Type 0
TypeIn types None = Unit {0}
TypeIn types (Some t) = t < types

-- Not "not a state of the machine" (fault 5), and not fault 6: a row between two states of a machine that the plant has.
pub record RowFits (types : ℕ) (states : List ℕ) (r : Row) : Type 0 where
  pub machine : r.machine < length states
  pub left : r.left < get_or states r.machine 0
  pub entered : r.entered < get_or states r.machine 0
  pub sent : TypeIn types r.sent
  pub taken : TypeIn types r.taken

-- "Take any plant": its rows fit it, as they do in every plant that a file reads as.
abbrev pub WellFormed : Plant → Type 0
WellFormed P = All (RowFits P.types P.states) P.rows
