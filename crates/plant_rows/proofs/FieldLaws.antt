-- Laws of the fields of a row that was read.
use Rattle.std.proofs.Common.{ℕ, ◌<◌, refl}
use Rattle.std.specs.Prelude.{Option, Some, None}
use Rattle.std.specs.Option.{ForSome}
use Rattle.livelock.specs.Plants.{TypeIn}

-- Its types are types of a plant with so many.
pub type_in : {types : ℕ} (o : Option ℕ) → ForSome o (λ t. t < types) → TypeIn types o
type_in None h = tt
type_in (Some t) h = h t refl
