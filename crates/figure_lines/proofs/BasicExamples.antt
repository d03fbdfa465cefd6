-- A figure that the checker computes by the definitions alone, so that an edit of a definition is caught here first.
use mathlib.Core.Path.{◌≡◌, refl}
use mathlib.Core.List.{[], ◌∷◌}
use Rattle.figure_lines.specs.FigureLines.{decimal_within, decimal}

-- 1,024 is four digits.
four_digits : decimal 1024 ≡ 49 ∷ 48 ∷ 50 ∷ 52 ∷ []
unfolding decimal_within decimal
four_digits = refl
