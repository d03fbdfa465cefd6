-- The weights of a file's bytes (document 01, "The program `ceiling`").
use Rattle.std.specs.Prelude.{cond, List, [], ◌∷◌, ℕ, ◌+◌, ◌*◌, ◌%◌, length, take, replicate, eqb}

-- "two bytes a weight, low byte first": a last single byte gives none.
unfoldable pub weights_of : List ℕ → List ℕ
weights_of [] = []
weights_of (low ∷ []) = []
weights_of (low ∷ high ∷ bytes) = (low + 256 * high) ∷ weights_of bytes

-- The weights as they are handed to weighing: no more than 65, which is more than a plant has types, and 65 where the length is odd.
unfoldable pub handed_over : List ℕ → List ℕ
handed_over bytes = cond (eqb (length bytes % 2) 1) (replicate 65 0) (take 65 (weights_of bytes))
