-- What holds of every value that reading finds, whatever a fault says.
use mathlib.Core.Path.{◌≡◌, refl, subst}
use mathlib.Core.Bool.{Bool, true, false, cond}
use mathlib.Core.List.{List}
use Prim.Native.Nat.{ℕ, ◌+◌}
use Rattle.livelock.specs.Plants.{Row}
use Rattle.plant.specs.Found.{Found, found, fault, and_then, moved_by}
use Rattle.plant.specs.Twins.{has_twin, unless_twin}

-- P of a value that was found, and the offset after it.
pub data Gives {A : Type 0} (P : A → ℕ → Type 0) : Found A → Type 0 where
  value : {a : A} {next : ℕ} → P a next → Gives P (found a next)
  no_value : {number place : ℕ} → Gives P (fault number place)

-- What holds of every value that can be found holds of the one that was found.
pub given_found : {A : Type 0} {P : A → ℕ → Type 0} {x : Found A} (a : A) (next : ℕ) → Gives P x → x ≡ found a next → P a next
given_found {P = P} a next h e = go (subst (Gives P) e h)
  where
    go : Gives P (found a next) → P a next
    go (value p) = p

-- Two parts read in turn.
pub gives_then : {A B : Type 0} {P : A → ℕ → Type 0} {R : B → ℕ → Type 0} {x : Found A} {k : A → ℕ → Found B}
    → Gives P x → ((a : A) (next : ℕ) → P a next → Gives R (k a next)) → Gives R (and_then x k)
gives_then (value p) f = f _ _ p
gives_then no_value f = no_value

pub gives_weaken : {A : Type 0} {P R : A → ℕ → Type 0} {x : Found A} → ((a : A) (next : ℕ) → P a next → R a next) → Gives P x → Gives R x
gives_weaken f (value p) = value (f _ _ p)
gives_weaken f no_value = no_value

-- Where a test decides between two.
pub gives_cond : {A : Type 0} {P : A → ℕ → Type 0} (b : Bool) {x y : Found A} → (b ≡ true → Gives P x) → (b ≡ false → Gives P y) → Gives P (cond b x y)
gives_cond true f g = f refl
gives_cond false f g = g refl

-- In the part of a file from an offset on.
pub gives_moved : {A : Type 0} {P R : A → ℕ → Type 0} (b : ℕ) {x : Found A} → Gives P x → ((a : A) (next : ℕ) → P a next → R a (b + next)) → Gives R (moved_by b x)
gives_moved b (value p) f = value (f _ _ p)
gives_moved b no_value f = no_value

-- Unless a row is a twin of an earlier one.
pub gives_unless : {P : Row → ℕ → Type 0} (earlier : List Row) (at : ℕ) {x : Found Row} → Gives P x
    → Gives (λ r next. P r next × (has_twin r earlier ≡ false)) (unless_twin earlier at x)
gives_unless earlier at (value {a} p) = gives_cond (has_twin a earlier) (λ t. no_value) (λ t. value (p, t))
gives_unless earlier at no_value = no_value
