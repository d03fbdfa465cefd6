-- Marks of states as bits, and what the functions that change them give.
use Rattle.std.specs.Prelude.{◌≡◌, List, [], ◌∷◌, ℕ, zero, suc, ◌/◌, ◌%◌, ◌≤◌, ◌<◌, get_or}

-- What a column has for row k.
abbrev pub column : List ℕ → ℕ → ℕ
column xs k = get_or xs k 0

-- The rows from `first` up to, and not including, `last` have states below 24.
pub record RowsBelow (states : List ℕ) (first last : ℕ) : Type 0 where
  pub ordered : first ≤ last
  pub few : last ≤ 1024
  pub below_24 : (k : ℕ) → first ≤ k → k < last → column states k < 24

-- Marks as bits: the mark of each of n states is the bit of its number.
unfoldable pub marks_of : ℕ → ℕ → List ℕ
marks_of zero bits = []
marks_of (suc n) bits = (bits % 2) ∷ marks_of n (bits / 2)

-- `into` has for each state the states that a row from `first` up to, and not including, `last` leaves to enter it; all are below 24.
pub record Sources (left entered into : List ℕ) (first last : ℕ) : Type 0 where
  pub leaves_in : (k : ℕ) → first ≤ k → k < last → column left k < 24
  pub enters_in : (k : ℕ) → first ≤ k → k < last → column entered k < 24
  pub stands : (k : ℕ) → first ≤ k → k < last → get_or (marks_of 24 (column into (column entered k))) (column left k) 0 ≡ 1

-- No state but those below `state` is marked.
pub record BelowOnly (state : ℕ) (marks : List ℕ) : Type 0 where
  pub above : (x : ℕ) → state ≤ x → x < 24 → get_or marks x 0 ≡ 0

-- The marks of states other than one are kept.
pub record OthersKept (state : ℕ) (before after : List ℕ) : Type 0 where
  pub same : (x : ℕ) → x < 24 → (x ≡ state → ⊥) → get_or after x 0 ≡ get_or before x 0

-- Marks are kept, and a state above `start` is marked only if no row leads from it to `start` or to a state that is not marked. So no path
-- back to `start` goes through a state that is marked only afterwards.
pub record Closed (into : List ℕ) (start : ℕ) (marks after : List ℕ) : Type 0 where
  pub kept : (x : ℕ) → x < 24 → get_or after x 0 ≡ 0 → get_or marks x 0 ≡ 0
  pub to_start : (x : ℕ) → start < x → x < 24 → get_or (marks_of 24 (column into start)) x 0 ≡ 1 → get_or marks x 0 ≡ 0 → get_or after x 0 ≡ 0
  pub onward : (x y : ℕ) → start < x → x < 24 → y < 24 → get_or (marks_of 24 (column into y)) x 0 ≡ 1 → get_or after y 0 ≡ 0 → get_or marks x 0 ≡ 0 → get_or after x 0 ≡ 0
