-- What is written to a list of bytes.
use Rattle.std.specs.Prelude.{◌≡◌, List, ℕ, ◌+◌, ◌≤◌, length}
use Rattle.std.proofs.lemmas.List.Edits.{sets}
use Rattle.figure_lines.specs.FigureLines.{line_with}

-- The bytes are written from a place on, and the next place is the one after them.
pub record Wrote (before after : List ℕ) (at next : ℕ) (bytes : List ℕ) : Type 0 where
  pub next_is : next ≡ at + length bytes
  pub after_is : after ≡ sets before at bytes

-- A word and figures whose line has at most 512 bytes.
pub record ShortLine (word numbers : List ℕ) : Type 0 where
  pub few : length (line_with word numbers) ≤ 512

-- A line from the start, of at most 512 bytes.
pub record WroteLine (before after : List ℕ) (end : ℕ) (bytes : List ℕ) : Type 0 where
  pub wrote : Wrote before after 0 end bytes
  pub short : end ≤ 512
