-- What the function that writes an answer requires.
use Rattle.std.specs.Prelude.{◌≡◌, ℕ, ◌≤◌}
use Rattle.weighing.specs.Answers.{Answer, cycle}

-- An answer with a cycle of at most 64 rows.
pub record FewRows (a : Answer) : Type 0 where
  pub few : (count : ℕ) → a ≡ cycle count → count ≤ 64
