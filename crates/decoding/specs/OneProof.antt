-- What is known of a decoded table has one proof at most, so that a struct can keep it. The definitions by recursion need a law each.
use Rattle.std.specs.Prelude.{List, [], ◌∷◌, ℕ, Option, None, Some}
use Rattle.std.specs.Coded.{×_prop, Unit-prop, le_prop}
use Rattle.std.proofs.Math.Nat.{ℕ_set}
use Rattle.livelock.specs.Lists.{All, Distinct}
use Rattle.livelock.specs.Plants.{Row, Plant, TypeIn}
use Rattle.plant.specs.Limits.{Ascending, WithinLimits}
use Rattle.decoding.specs.Tables.{Ready}
use Rattle.decoding.specs.declared.Shape.{Shape}

all_prop : {A : Type 0} (F : A → Type 0) → ((x : A) → IsProp (F x)) → (xs : List A) → IsProp (All F xs)
unfolding All
all_prop F h [] = Unit-prop
all_prop F h (x ∷ xs) = ×_prop (h x) (all_prop F h xs)

distinct_prop : {A : Type 0} (xs : List A) → IsProp (Distinct xs)
unfolding Distinct
distinct_prop [] = Unit-prop
distinct_prop (x ∷ xs) = ×_prop (all_prop _ (λ y. Prim.hlevel) xs) (distinct_prop xs)

ascending_prop : (rows : List Row) → IsProp (Ascending rows)
unfolding Ascending
ascending_prop [] = Unit-prop
ascending_prop (r ∷ rows) = ×_prop (all_prop _ (λ q. le_prop) rows) (ascending_prop rows)

type_in_prop : (types : ℕ) (t : Option ℕ) → IsProp (TypeIn types t)
type_in_prop types None = Unit-prop
type_in_prop types (Some t) = le_prop

-- A plant within the limits is so in one way,
pub limits_prop : (p : Plant) → IsProp (WithinLimits p)
limits_prop p = Prim.hlevel (le_prop, all_prop, distinct_prop, ascending_prop, type_in_prop)

-- and a shape and a table that are ready are so in one way.
pub ready_prop : (s : Shape) (table : List ℕ) → IsProp (Ready s table)
ready_prop s table = Prim.hlevel (le_prop, ℕ_set)
