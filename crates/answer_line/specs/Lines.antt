-- The line of the program `ceiling` (document 01, "The program `ceiling`"), as bytes.
use Rattle.std.specs.Prelude.{List, [], ◌∷◌, ℕ, take}
use Rattle.livelock.specs.Figures.{Figures}
use Rattle.figure_lines.specs.FigureLines.{line_with}
use Rattle.weighing.specs.Answers.{Answer, passed, cycle, refused}

-- `passed`, `cycle` and `refused`, letter by letter.
abbrev pub passed_word : List ℕ
passed_word = 112 ∷ 97 ∷ 115 ∷ 115 ∷ 101 ∷ 100 ∷ []

abbrev pub cycle_word : List ℕ
cycle_word = 99 ∷ 121 ∷ 99 ∷ 108 ∷ 101 ∷ []

abbrev pub refused_word : List ℕ
refused_word = 114 ∷ 101 ∷ 102 ∷ 117 ∷ 115 ∷ 101 ∷ 100 ∷ []

-- "`passed F n G`", and the line "prints" n × w "as a fourth number" (document 02, L6).
abbrev pub passed_line : Figures → List ℕ
passed_line f = line_with passed_word (f.base ∷ f.most_states ∷ f.per_progress ∷ f.per_doubling ∷ [])

-- "`cycle` and the rows".
abbrev pub cycle_line : List ℕ → List ℕ
cycle_line rows = line_with cycle_word rows

-- "`refused` with number and place".
abbrev pub refused_line : ℕ → ℕ → List ℕ
refused_line number place = line_with refused_word (number ∷ place ∷ [])

-- "It prints one line": the rows are the front of the list after weighing.
abbrev pub line_of : Answer → List ℕ → List ℕ
line_of (passed f) after = passed_line f
line_of (cycle count) after = cycle_line (take count after)
line_of (refused number place) after = refused_line number place
