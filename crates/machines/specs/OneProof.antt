-- That figures are equal has one proof at most, so that a struct can keep it.
use Rattle.std.specs.Prelude.{◌≡◌}
use Rattle.std.proofs.Math.Nat.{ℕ_set}
use Rattle.livelock.specs.Figures.{Figures}

pub figures_prop : (f g : Figures) → IsProp (f ≡ g)
figures_prop f g = Prim.hlevel (ℕ_set)
