use mathlib.Core.Path.{ap, ◌∙◌}
use mathlib.Core.List.{List, [], ◌∷◌, ◌++◌}
use Prim.Native.Nat.{ℕ}
use native.Mathlib.Omega.{arith}
use Rattle.weight_files.proofs.WeightLaws.{pairs-length, weight_next, first_weights}
use Rattle.weight_files.proofs.even_weights.Goals as goal

pub loop-pair-preserved : goal.loop-pair-preserved
loop-pair-preserved c =
    let pairs = c.as_chunks in
    c.push.ensures.items
    ∙ ap (λ (weights : List ℕ). weights ++ (c.from_le_bytes.result ∷ [])) c.loop-pair.invariant
    ∙ weight_next c.args.bytes.now pairs.result.0.now c.min.result c.loop-pair.pair-index _ pairs.ensures.front pairs.ensures.front_len c.min.ensures c.loop-pair-test.true c.from_le_bytes.ensures

pub returns : goal.returns
returns c =
    let bytes = c.args.bytes.now in
    c.loop-pair.invariant ∙ first_weights bytes c.loop-pair.pair-index (omega (arith, pairs-length bytes c.as_chunks.result.0.now c.min.result c.as_chunks.ensures.front_len c.min.ensures))
