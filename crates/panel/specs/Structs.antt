-- The answers of the watcher as structs of the C interface, and the lists that are lent. Fields that an answer does not use are 0.
use Rattle.std.specs.Prelude.{◌≡◌, List, ℕ}
use Rattle.watched_runs.specs.Answers.{Answer, remaining, refused}
use Rattle.watched_runs.specs.Keeping.{Kept}
use Rattle.panel.specs.declared.WatchAnswer.{WatchAnswer}

-- "the ceiling for the progress rows and doublings so far, less the quiet rows so far": kind 9; a refusal is kind 0.
abbrev pub watch_struct : Answer → WatchAnswer
watch_struct (remaining left) = record { kind = 9; number = 0; place = 0; left = left }
watch_struct (refused number place) = record { kind = 0; number = number; place = place; left = 0 }

-- The lists that are lent, as those of a watcher.
abbrev pub lent : (copy table sizes states contents counts : List ℕ) → Kept
lent copy table sizes states contents counts =
    record { copy = copy; table = table; sizes = sizes; states = states; contents = contents; counts = counts }

-- The struct is that of an answer with the property F, a contract of a call on a watcher.
pub record WatchedAs (F : Answer → Type 0) (r : WatchAnswer) : Type 0 where
  pub answer : Answer
  pub struct : r ≡ watch_struct answer
  pub owed : F answer
