-- What the exit of a `?` hands back.
use Rattle.std.proofs.Common.{◌≡◌, ap}
use Rattle.std.specs.Prelude.{Result, Ok, Err}
use Rattle.std.specs.Result.{IsErrAnd}

-- The fault that was met, as the error.
pub handed_on : {T F : Type 0} {f : F} (r : Result T F) → IsErrAnd r (λ g. g ≡ f) → r ≡ Err f
handed_on (Ok x) h = absurd h
handed_on (Err g) h = ap Err h
