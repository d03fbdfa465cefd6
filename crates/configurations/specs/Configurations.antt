-- A configuration in lists of states and of contents, and what the functions over such lists give.
use Rattle.std.specs.Prelude.{◌≡◌, Bool, true, List, ℕ, ◌+◌, ◌-◌, ◌≤◌, ◌<◌, ◌^◌, min, length, get_or, set, Option}
use Rattle.std.specs.Option.{ForSome}
use Rattle.livelock.specs.Plants.{Plant, row_at, row_count}
use Rattle.livelock.specs.Runs.{Configuration, row, removed, added, can_happen, changed}
use Rattle.tables.specs.Tables.{row_of}
use Rattle.tables.specs.declared.TableRow.{TableRow}

-- "any state for each machine": what a list says of it, 0 behind the list's end.
abbrev pub state_in : List ℕ → ℕ → ℕ
state_in states m = get_or states m 0

-- "any whole number of messages … of each type": what a list says of it.
abbrev pub content_in : List ℕ → ℕ → ℕ
content_in contents t = get_or contents t 0

-- The configuration of two such lists.
abbrev pub configuration_in : (states contents : List ℕ) → Configuration
configuration_in states contents = record { state = state_in states; content = content_in contents }

-- One message more of any type is less than 2^64.
abbrev pub Room : List ℕ → Type 0
Room contents = (t : ℕ) → content_in contents t < 2 ^ 63

-- "removes its one message", if there is one.
pub record Removes (message : Option ℕ) (before after : List ℕ) : Type 0 where
  pub removes : content_in after ≡ removed (content_in before) message
  pub long : length after ≡ length before

-- "adds … its one message", if there is one, where there is room for it; a sum stops at 2^64 - 1, whatever the list holds; of a type without a place in
-- the list none is added.
pub record Adds (message : Option ℕ) (before after : List ℕ) : Type 0 where
  pub adds : Room before → ForSome message (λ t. t < length before) → content_in after ≡ added (content_in before) message
  pub capped : ForSome message (λ t. t < length before → after ≡ set before t (min (get_or before t 0 + 1) (2 ^ 64 - 1)))
  pub behind : ForSome message (λ t. length before ≤ t) → after ≡ before
  pub long : length after ≡ length before

-- The same, but for `capped`: it is left open what stands where there is no room.
pub record AddsWithRoom (message : Option ℕ) (before after : List ℕ) : Type 0 where
  pub adds : Room before → ForSome message (λ t. t < length before) → content_in after ≡ added (content_in before) message
  pub behind : ForSome message (λ t. length before ≤ t) → after ≡ before
  pub long : length after ≡ length before

-- "A row can happen": the test is that of every plant that has this row.
pub record RowCan (x : TableRow) (states contents : List ℕ) (can : Bool) : Type 0 where
  pub machine : can ≡ true → x.machine < 16
  pub same : x.machine < 16 → (P : Plant) (k : ℕ) → k < row_count P → row_of x ≡ row_at P k → can ≡ can_happen P (configuration_in states contents) (row k)

-- "The row moves its machine and adds or removes its one message", in every plant that has this row.
pub record RowMoves (x : TableRow) (states contents states' contents' : List ℕ) : Type 0 where
  pub moves : Room contents → (P : Plant) (k : ℕ) → row_of x ≡ row_at P k → configuration_in states' contents' ≡ changed P (configuration_in states contents) (row k)
  pub long_states : length states' ≡ length states
  pub long_contents : length contents' ≡ length contents
