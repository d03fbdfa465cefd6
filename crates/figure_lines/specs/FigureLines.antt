-- Numbers as decimal figures, and a line of a word and figures (document 01, "The program `ceiling`"), as bytes.
use Rattle.std.specs.Prelude.{cond, List, [], ◌∷◌, ◌++◌, ℕ, zero, suc, ◌+◌, ◌/◌, ◌%◌, ltb}

-- The byte of a digit: `0` is 48.
abbrev pub digit : ℕ → ℕ
digit d = 48 + d

-- The decimal digits of n, at most so many after the first.
unfoldable pub decimal_within : ℕ → ℕ → List ℕ
decimal_within zero n = digit n ∷ []
decimal_within (suc most) n = cond (ltb n 10) (digit n ∷ []) (decimal_within most (n / 10) ++ (digit (n % 10) ∷ []))

-- "Each figure is decimal": no number has more digits than one and itself.
unfoldable pub decimal : ℕ → List ℕ
decimal n = decimal_within n n

-- "Each figure is decimal after one space": the space is 32.
unfoldable pub figure : ℕ → List ℕ
figure n = 32 ∷ decimal n

-- The figures, one after the other.
unfoldable pub figures : List ℕ → List ℕ
figures [] = []
figures (n ∷ ns) = figure n ++ figures ns

-- "a line end closes the line": the line end is 10.
abbrev pub line_end : List ℕ
line_end = 10 ∷ []

-- A word and its figures, closed by a line end.
abbrev pub line_with : List ℕ → List ℕ → List ℕ
line_with word numbers = word ++ figures numbers ++ line_end
