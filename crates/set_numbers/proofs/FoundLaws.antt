-- What follows from what was found: the test that decided it, its value and its place.
use mathlib.Core.Path.{◌≡◌, refl}
use mathlib.Core.Bool.{Bool, true, false, cond, false≢true}
use Prim.Native.Nat.{ℕ}
use Rattle.plant.specs.Found.{Found, found, fault, and_then}

-- Where a test decides between a value and a fault and the value was found, the test is true, and it is that value up to that place.
pub tested : {A : Type 0} (t : Bool) (x : Found A) (number place : ℕ) (b : A) (end : ℕ) → cond t x (fault number place) ≡ found b end → (t ≡ true) × (x ≡ found b end)
tested true x number place b end e = (refl, e)
tested false x number place b end e = absurd (false≢true cc)

-- Equal finds have equal values and places.
pub value_same : {A : Type 0} {a b : A} {m n : ℕ} → found a m ≡ found b n → a ≡ b
value_same e = cc

pub place_same : {A : Type 0} {a b : A} {m n : ℕ} → found a m ≡ found b n → m ≡ n
place_same e = cc

-- Reading on and keeping what was read changes nothing.
pub read_on : {A : Type 0} (x : Found A) → and_then x found ≡ x
read_on (found a next) = refl
read_on (fault number place) = refl
