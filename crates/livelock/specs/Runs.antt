-- Runs (document 01, "Runs"; document 02, L5 and L6).
use Rattle.std.specs.Prelude.{Bool, true, false, ◌&&◌, cond, List, [], ◌∷◌, ◌++◌, ℕ, ◌+◌, ◌-◌, ltb, eqb, Option, None, Some}
use Rattle.livelock.specs.Lists.{count}
use Rattle.livelock.specs.Plants.{Plant, row_at, row_count, has_progress, is_quiet}

-- "any state for each machine and any whole number of messages, zero or more, of each type"
pub record Configuration : Type 0 where
  pub state : ℕ → ℕ
  pub content : ℕ → ℕ

-- "An event is a row, given by its number, or a loss, given by its type", or a "doubling", by its type too (document 02, L6).
pub data Event : Type 0 where
  row : ℕ → Event
  loss : ℕ → Event
  doubling : ℕ → Event

-- The function f with the value v at k, and at other numbers as it was: "nothing else changes them".
abbrev pub update : (ℕ → ℕ) → ℕ → ℕ → ℕ → ℕ
update f k v i = cond (eqb i k) v (f i)

-- "if it takes a type, at least one message of that type is present anywhere"
abbrev pub present : (ℕ → ℕ) → Option ℕ → Bool
present content None = true
present content (Some t) = ltb 0 (content t)

-- "removes its one message", if there is one.
abbrev pub removed : (ℕ → ℕ) → Option ℕ → ℕ → ℕ
removed content None = content
removed content (Some t) = update content t (content t - 1)

-- "adds … its one message", if there is one.
abbrev pub added : (ℕ → ℕ) → Option ℕ → ℕ → ℕ
added content None = content
added content (Some t) = update content t (content t + 1)

-- "a type that is present": one of the plant's, with at least one message.
abbrev pub type_present : Plant → Configuration → ℕ → Bool
type_present P c t =
    ltb t P.types
    && present c.content (Some t)

-- "A row can happen when its machine is in the state left and, if it takes a type, at least one message of that type is present
-- anywhere", also if it sends one ("Such a row can happen when the type taken is present": document 02, L5); a loss and a doubling, when
-- their type "is present"; and none of them, when the plant lacks the row or type.
unfoldable pub can_happen : Plant → Configuration → Event → Bool
can_happen P c (row k) =
    ltb k (row_count P)
    && (eqb (c.state (row_at P k).machine) (row_at P k).left
    && present c.content (row_at P k).taken)
can_happen P c (loss t) = type_present P c t
can_happen P c (doubling t) = type_present P c t

-- "The row moves its machine and adds or removes its one message"; of two, "it takes first, then sends" (document 02, L5). "A loss removes
-- one message of a type that is present." A doubling "adds one message of a type that is present" (document 02, L6).
unfoldable pub changed : Plant → Configuration → Event → Configuration
changed P c (row k) =
    record {
      state = update c.state (row_at P k).machine (row_at P k).entered;
      content = added (removed c.content (row_at P k).taken) (row_at P k).sent;
    }
changed P c (loss t) =
    record {
      state = c.state;
      content = removed c.content (Some t);
    }
changed P c (doubling t) =
    record {
      state = c.state;
      content = added c.content (Some t);
    }

-- "An event that cannot happen at its turn, or whose row or type the plant lacks, changes nothing".
unfoldable pub after : Plant → Configuration → Event → Configuration
after P c e = cond (can_happen P c e) (changed P c e) c

-- "Each event works on the states and messages that the one before it left": what a whole list of events leaves.
unfoldable pub after_all : Plant → Configuration → List Event → Configuration
after_all P c [] = c
after_all P c (e ∷ es) = after_all P (after P c e) es

-- "The events that happen, in their order, are the run."
unfoldable pub run : Plant → Configuration → List Event → List Event
run P c [] = []
run P c (e ∷ es) = cond (can_happen P c e) (e ∷ []) [] ++ run P (after P c e) es

-- "quiet rows (those without progress)"
unfoldable pub is_quiet_row : Plant → Event → Bool
is_quiet_row P (row k) = is_quiet (row_at P k)
is_quiet_row P (loss t) = false
is_quiet_row P (doubling t) = false

-- "the run's other rows"
unfoldable pub is_progress_row : Plant → Event → Bool
is_progress_row P (row k) = has_progress (row_at P k)
is_progress_row P (loss t) = false
is_progress_row P (doubling t) = false

-- "doublings in a run": those among its events.
unfoldable pub is_doubling : Event → Bool
is_doubling (row k) = false
is_doubling (loss t) = false
is_doubling (doubling t) = true

-- "It counts the run's quiet rows": those of a whole list of events.
abbrev pub quiet_rows : Plant → Configuration → List Event → ℕ
quiet_rows P c es = count (is_quiet_row P) (run P c es)

-- "and, as g, the run's other rows": "g counts the progress rows that happen".
abbrev pub progress_rows : Plant → Configuration → List Event → ℕ
progress_rows P c es = count (is_progress_row P) (run P c es)

-- "With at most d doublings in a run": d counts the doublings that happen.
abbrev pub doublings : Plant → Configuration → List Event → ℕ
doublings P c es = count is_doubling (run P c es)
