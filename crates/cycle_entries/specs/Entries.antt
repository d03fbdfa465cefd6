-- The entry of a cycle, and what it is to add entries to a lent list.
use Rattle.std.specs.Prelude.{◌≡◌, cond, List, [], ◌∷◌, ◌++◌, ℕ, ◌+◌, ◌≤◌, Option, Some, None, length, leb}
use Rattle.std.proofs.lemmas.List.Edits.{sets}

-- "each cycle's row count, then its rows", for the rows of a path and one row more.
abbrev pub entry_of : List ℕ → ℕ → List ℕ
entry_of rows k = (length rows + 1) ∷ (rows ++ (k ∷ []))

-- A number that is not above the limit.
unfoldable pub up_to : ℕ → ℕ → Option ℕ
up_to limit n = cond (leb n limit) (Some n) None

-- How much of a list is used, if there was room.
abbrev pub used_if : Option (Unit {0}) → ℕ → Option ℕ
used_if (Some x) used = Some used
used_if None used = None

-- Entries are stored from `pos` on if the list has room for them all, and the numbers then used are known if they are not above the limit.
pub record Added (limit : ℕ) (before : List ℕ) (pos : ℕ) (entries : List ℕ) (used : Option ℕ) (after : List ℕ) : Type 0 where
  pub counted : used ≡ up_to limit (pos + length entries)
  pub stored : pos + length entries ≤ length before → after ≡ sets before pos entries
