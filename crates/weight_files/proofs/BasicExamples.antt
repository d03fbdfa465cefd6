-- Weights that the checker computes by the definitions alone, so that an edit of a definition is caught here first.
use mathlib.Core.Path.{◌≡◌, refl}
use mathlib.Core.List.{[], ◌∷◌}
use Rattle.weight_files.specs.WeightFiles.{weights_of}

-- Low byte first, and a last single byte gives no weight.
low_first : weights_of (1 ∷ 0 ∷ 0xE8 ∷ 3 ∷ 7 ∷ []) ≡ 1 ∷ 1000 ∷ []
unfolding weights_of
low_first = refl
