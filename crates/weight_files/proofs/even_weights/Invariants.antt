-- `even_weights` meets its contract: after i turns the vector holds the first i weights.
use mathlib.Core.Path.{◌≡◌}
use lib.ListN.{take}
use Rattle.weight_files.specs.WeightFiles.{weights_of}
use Rattle.weight_files.proofs.even_weights.Given as goal

abbrev pub invariant-loop-pair : goal.invariant-loop-pair
invariant-loop-pair l = l.weights.items ≡ take l.pair-index (weights_of l.bytes)
