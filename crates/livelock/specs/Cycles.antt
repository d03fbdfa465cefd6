-- Simple cycles and their effects (document 01, "Cycles and weighing").
use Rattle.std.specs.Prelude.{◌≡◌, Bool, false, List, [], ◌∷◌, map, ℕ, ◌<◌, length, get_or, eqb, ℤ, pos, ◌-ℤ◌, Option, None, Some}
use Rattle.livelock.specs.Lists.{All, Distinct, count}
use Rattle.livelock.specs.Plants.{Plant, row_at, row_count, has_progress}

-- A walk from s to t along es, where e leads from `src e` to `dst e`: "Each … enters the state that the next one leaves".
unfoldable pub Walk : (ℕ → ℕ) → (ℕ → ℕ) → ℕ → List ℕ → ℕ → Type 0
Walk src dst s [] t = s ≡ t
Walk src dst s (e ∷ es) t = (src e ≡ s) × Walk src dst (dst e) es t

-- "state left": the state that row k leaves.
abbrev pub leaves : Plant → ℕ → ℕ
leaves P k = (row_at P k).left

-- "state entered": the state that row k enters.
abbrev pub enters : Plant → ℕ → ℕ
enters P k = (row_at P k).entered

-- "rows of one machine": k is the number of a row of machine m.
abbrev pub RowOf : Plant → ℕ → ℕ → Type 0
RowOf P m k = (k < row_count P) × ((row_at P k).machine ≡ m)

-- "the state that the first leaves"
abbrev pub first_left : Plant → List ℕ → ℕ
first_left P c = leaves P (get_or c 0 0)

-- "A simple cycle is a non-empty list of rows of one machine. Each row enters the state that the next one leaves,
-- the last enters the state that the first leaves, and no state is left twice."
pub record SimpleCycle (P : Plant) (m : ℕ) (c : List ℕ) : Type 0 where
  pub non_empty : 0 < length c
  pub of_machine : All (RowOf P m) c
  pub closed : Walk (leaves P) (enters P) (first_left P c) c (first_left P c)
  pub once : Distinct (map (leaves P) c)

-- "A cycle is quiet when none of its rows has progress."
abbrev pub Quiet : Plant → List ℕ → Type 0
Quiet P c = All (λ k. has_progress (row_at P k) ≡ false) c

-- Whether a message, if there is one, is of type t.
abbrev pub is_of_type : Option ℕ → ℕ → Bool
is_of_type None t = false
is_of_type (Some u) t = eqb t u

-- "for each type, messages sent": how many of type t the rows of c send.
abbrev pub messages_sent : Plant → List ℕ → ℕ → ℕ
messages_sent P c t = count (λ k. is_of_type (row_at P k).sent t) c

-- "messages taken": how many of type t the rows of c take.
abbrev pub messages_taken : Plant → List ℕ → ℕ → ℕ
messages_taken P c t = count (λ k. is_of_type (row_at P k).taken t) c

-- "Its effect is, for each type, messages sent less messages taken."
abbrev pub effect : Plant → List ℕ → ℕ → ℤ
effect P c t = pos (messages_sent P c t) -ℤ pos (messages_taken P c t)
