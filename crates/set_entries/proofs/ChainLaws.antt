-- Parts that are read one after the other: where a value is found, each was found, and a fault met first is the fault.
use mathlib.Core.Path.{◌≡◌, refl}
use mathlib.Core.Bool.{false≢true}
use Prim.Native.Nat.{ℕ}
use Rattle.plant.specs.Found.{Found, found, fault, and_then}

-- What was found first, and that what follows it was found.
pub record Chained {A B : Type 0} (x : Found A) (k : A → ℕ → Found B) (b : B) (end : ℕ) : Type 0 where
  pub value : A
  pub next : ℕ
  pub first : x ≡ found value next
  pub second : k value next ≡ found b end

-- Where two parts read in turn were found, each of them was.
pub chained : {A B : Type 0} (x : Found A) (k : A → ℕ → Found B) (b : B) (end : ℕ) → and_then x k ≡ found b end → Chained x k b end
chained (found a next) k b end e = record { value = a; next = next; first = refl; second = e }
chained (fault number place) k b end e = absurd (false≢true cc)

-- A fault met first is the whole's, whatever follows it: of one part,
one_stops : {A B : Type 0} (x : Found A) (k : A → ℕ → Found B) (number place : ℕ) → x ≡ fault number place → fault number place ≡ and_then x k
one_stops (found a next) k number place e = absurd (false≢true cc)
one_stops (fault n p) k number place e = cc

-- of two,
two_stop : {A B C : Type 0} (x : Found A) (f : ℕ → Found B) (k : A → B → ℕ → Found C) (number place : ℕ)
    → and_then x (λ a i. f i) ≡ fault number place → fault number place ≡ and_then x (λ a i. and_then (f i) (k a))
two_stop (found a i) f k number place e = one_stops (f i) (k a) number place e
two_stop (fault n p) f k number place e = cc

-- and of three.
pub three_stop : {A B C D : Type 0} (x : Found A) (f : ℕ → Found B) (g : ℕ → Found C) (k : A → B → C → ℕ → Found D) (number place : ℕ)
    → and_then x (λ a i. and_then (f i) (λ b j. g j)) ≡ fault number place → fault number place ≡ and_then x (λ a i. and_then (f i) (λ b j. and_then (g j) (k a b)))
three_stop (found a i) f g k number place e = two_stop (f i) g (k a) number place e
three_stop (fault n p) f g k number place e = cc
