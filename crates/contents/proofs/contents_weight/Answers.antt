-- `contents_weight` meets its contract: it sums the products of the pairs of a weight and a content.
use Rattle.std.proofs.Common.{refl, ◌∙◌, ◌*◌, rules}
use Rattle.std.specs.List.{zip}
use Prim.Native.Nat.{ℕ}
use Rattle.std.proofs.lemmas.Iterator.{YieldsList-from_slice, YieldsList-from_zip, YieldsList-from_map}
use Rattle.std.proofs.lemmas.Iterator.Consumers.{sum_by_from_yields_List}
use Rattle.contents.proofs.AmountLaws.{sum_of_pairs}
use Rattle.contents.proofs.contents_weight.Goals as goal

pub returns : goal.returns
returns c =
    let ws = c.args.weights.now in
    let contents = c.args.contents.now in
    sum_by_from_yields_List (λ p. p.0 * p.1) (zip ws contents) c.map.result c.sum.result c.sum.ensures.ran
    (YieldsList-from_map _ (λ (p : ℕ × ℕ). p.0 * p.1) {f = c.map.result.f} (YieldsList-from_zip (YieldsList-from_slice ws cc) (YieldsList-from_slice contents cc)) refl (λ x r q k. search rules))
    ∙ sum_of_pairs ws contents c.requires.1
