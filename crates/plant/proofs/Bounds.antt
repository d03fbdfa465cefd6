-- What holds of every byte, field and row that is read, and of every fault: one law for each definition of `Reading`.
use mathlib.Core.Path.{◌≡◌, refl, subst}
use mathlib.Core.Bool.{Bool, true, false, cond}
use Rattle.std.specs.Prelude.{None, Some}
use mathlib.Core.List.{List}
use Prim.Native.Nat.{ℕ, zero, suc, ◌+◌, ◌≤◌, ◌<◌}
use native.Mathlib.Omega.{arith}
use lib.ListN.{length}
use lib.Dec.{ltb}
use borrow.Author.Tests.{ltb-true}
use Rattle.livelock.specs.Plants.{Row, Plant, TypeIn}
use Rattle.livelock.proofs.Tests.{both_iff, less_iff, at_most_iff}
use Rattle.plant.specs.Found.{Found, found, fault, and_then}
use Rattle.plant.specs.Reading.{byte_at, byte_that, in_range, byte_in, has_bit, is_map, map_byte, state_field, type_field, read_row}
use Rattle.plant.specs.Reading.{with_row, read_rows, rows_byte}
use Rattle.plant.specs.Twins.{has_twin, unless_twin}
use Rattle.plant.specs.Limits.{most_row_bytes, Placed, at_the_end, within, at_twin}

-- P of a value and the offset after it, and of a fault that it is placed in a file of n bytes.
pub data Each {A : Type 0} (P : A → ℕ → Type 0) (n : ℕ) : Found A → Type 0 where
  got : {a : A} {next : ℕ} → P a next → Each P n (found a next)
  stopped : {number place : ℕ} → Placed n number place → Each P n (fault number place)

-- What holds of every value that can be found holds of the one that was found,
pub each_found : {A : Type 0} {P : A → ℕ → Type 0} {n : ℕ} {x : Found A} (a : A) (next : ℕ) → Each P n x → x ≡ found a next → P a next
each_found {P = P} {n = n} a next h e = go (subst (Each P n) e h)
  where
    go : Each P n (found a next) → P a next
    go (got p) = p

-- and a fault that was found is placed in the file.
pub each_fault : {A : Type 0} {P : A → ℕ → Type 0} {n : ℕ} {x : Found A} (number place : ℕ) → Each P n x → x ≡ fault number place → Placed n number place
each_fault {P = P} {n = n} number place h e = go (subst (Each P n) e h)
  where
    go : Each P n (fault number place) → Placed n number place
    go (stopped p) = p

-- What holds of all that can follow the first part holds of the two parts read in turn.
pub each_then : {A B : Type 0} {P : A → ℕ → Type 0} {R : B → ℕ → Type 0} {n : ℕ} {x : Found A} {k : A → ℕ → Found B}
    → Each P n x → ((a : A) (next : ℕ) → P a next → Each R n (k a next)) → Each R n (and_then x k)
each_then (got p) f = f _ _ p
each_then (stopped h) f = stopped h

each_weaken : {A : Type 0} {P R : A → ℕ → Type 0} {n : ℕ} {x : Found A} → ((a : A) (next : ℕ) → P a next → R a next) → Each P n x → Each R n x
each_weaken f (got p) = got (f _ _ p)
each_weaken f (stopped h) = stopped h

-- Where a test decides between two, what holds of each where the test chooses it holds of the choice.
pub each-cond : {A : Type 0} {P : A → ℕ → Type 0} {n : ℕ} (b : Bool) {x y : Found A} → (b ≡ true → Each P n x) → (b ≡ false → Each P n y) → Each P n (cond b x y)
each-cond true f g = f refl
each-cond false f g = g refl

-- ---- bytes

-- The offset after what was read lies in a file of n bytes, and at most at a limit.
pub record Next (n limit next : ℕ) : Type 0 where
  pub inside : next ≤ n
  pub near : next ≤ limit

module _ (s : List ℕ) (at : ℕ) where
  byte_at_each : Each (λ b next. (at < length s) × (next ≡ at + 1)) (length s) (byte_at s at)
  unfolding byte_at
  byte_at_each = each-cond (ltb at (length s)) (λ t. got (ltb-true at (length s) t, refl)) (λ t. stopped at_the_end)

  -- A byte that has to pass a test lies in the file, passes it, and the next offset is one further.
  pub byte_that_each : (passes : ℕ → Bool) (number : ℕ) → 2 ≤ number → number ≤ 8
      → Each (λ b next. (at < length s) × (next ≡ at + 1) × (passes b ≡ true)) (length s) (byte_that passes number s at)
  unfolding byte_that
  byte_that_each passes number l u =
      each_then byte_at_each (λ b next h. each-cond (passes b) (λ t. got (h.0, h.1, t)) (λ t. stopped (within l u h.0)))

  -- A byte that has to be in a range takes at most one byte of the file and is in the range.
  pub byte_in_each : (low end number : ℕ) → 2 ≤ number → number ≤ 8 → Each (λ b next. Next (length s) (at + 1) next × ((low ≤ b) × (b < end))) (length s) (byte_in low end number s at)
  unfolding byte_in
  byte_in_each low end number l u =
      each_weaken
      (λ b next h. (record { inside = omega (arith, h.0, h.1); near = omega (arith, h.1) }, (both_iff _ _ (at_most_iff low b) (less_iff b end)).0 h.2))
      (byte_that_each (in_range low end) number l u)

  -- A map byte lies in the file and takes at most one byte of it.
  pub map_byte_each : Each (λ map next. Next (length s) (at + 1) next × (at < length s)) (length s) (map_byte s at)
  unfolding map_byte
  map_byte_each = each_weaken (λ b next h. (record { inside = omega (arith, h.0, h.1); near = omega (arith, h.1) }, h.0)) (byte_that_each is_map 4 (omega arith) (omega arith))

  -- A count of rows takes at most one byte of the file and is at most 255, and at most 1,024 with the rows before it.
  pub rows_byte_each : (used : ℕ) → Each (λ n next. Next (length s) (at + 1) next × ((n ≤ 255) × (used + n ≤ 1024))) (length s) (rows_byte used s at)
  unfolding rows_byte
  rows_byte_each used =
      each_weaken
      (λ n next h.
      let few = (both_iff _ _ (at_most_iff n _) (at_most_iff (used + n) _)).0 h.2 in
      (record { inside = omega (arith, h.0, h.1); near = omega (arith, h.1) }, (omega (arith, few.0), omega (arith, few.1))))
      (byte_that_each _ 7 (omega arith) (omega arith))

  -- A state field takes at most one byte, and none without its bit; it is a state of the machine.
  pub state_field_each : (stands : Bool) (absent states : ℕ) → absent < states → at ≤ length s
      → Each (λ b next. Next (length s) (at + cond stands 1 0) next × (b < states)) (length s) (state_field stands absent states s at)
  unfolding state_field
  state_field_each true absent states a l = each_weaken (λ b next h. (h.0, h.1.1)) (byte_in_each 0 states 5 (omega arith) (omega arith))
  state_field_each false absent states a l = got (record { inside = l; near = omega arith }, a)

  -- A type field takes at most one byte, and none without its bit; it is a type of the plant or none.
  pub type_field_each : (stands : Bool) (types : ℕ) → at ≤ length s
      → Each (λ o next. Next (length s) (at + cond stands 1 0) next × TypeIn types o) (length s) (type_field stands types s at)
  unfolding type_field
  type_field_each true types l = each_then (byte_in_each 0 types 6 (omega arith) (omega arith)) (λ b next h. got {a = Some b} (h.0, h.1.1))
  type_field_each false types l = got {a = None} (record { inside = l; near = omega arith }, tt)

-- ---- rows

-- A row of machine m, which has so many states.
pub record RowIn (m states types : ℕ) (r : Row) : Type 0 where
  pub machine : r.machine ≡ m
  pub left : r.left < states
  pub entered : r.entered < states
  pub sent : TypeIn types r.sent
  pub taken : TypeIn types r.taken

-- A bit adds at most one.
pub one_bit : (b : Bool) → cond b 1 0 ≤ 1
one_bit true = omega arith
one_bit false = omega arith

-- A row begins in the file, takes at most five bytes of it and is a row of the machine, with types of the plant.
pub read_row_each : (s : List ℕ) (m states types implied at : ℕ) → implied < states → at ≤ length s
    → Each (λ r next. Next (length s) (at + most_row_bytes) next × RowIn m states types r × (at < length s)) (length s) (read_row m states types implied s at)
unfolding read_row
read_row_each s m states types implied at hi l =
    each_then (map_byte_each s at) λ map a ha.
    each_then (state_field_each s a (has_bit map 1) implied states hi ha.0.inside) λ left b hb.
    each_then (state_field_each s b (has_bit map 2) left states hb.1 hb.0.inside) λ entered c hc.
    each_then (type_field_each s c (has_bit map 4) types hc.0.inside) λ sent d hd.
    each_then (type_field_each s d (has_bit map 8) types hd.0.inside) λ taken e he.
    got (
      record {
        inside = he.0.inside;
        near =
            omega (arith, ha.0.near, hb.0.near, hc.0.near, hd.0.near, he.0.near, one_bit (has_bit map 1), one_bit (has_bit map 2), one_bit (has_bit map 4), one_bit (has_bit map 8));
      },
      record { machine = refl; left = hb.1; entered = hc.1; sent = hd.1; taken = he.1 },
      ha.1,
    )

-- What holds of every row that can be found, and that it is no twin; a twin is refused where it begins, which has to be in the file.
pub each_unless : {P : Row → ℕ → Type 0} {n : ℕ} (earlier : List Row) (at : ℕ) {x : Found Row} → ((r : Row) (next : ℕ) → P r next → at < n) → Each P n x
    → Each (λ r next. P r next × (has_twin r earlier ≡ false)) n (unless_twin earlier at x)
each_unless earlier at inside (got {a} {next} p) = each-cond (has_twin a earlier) (λ t. stopped (at_twin (inside a next p))) (λ t. got (p, t))
each_unless earlier at inside (stopped h) = stopped h

-- Rows keep what each row keeps. J speaks of the rows still to come, the offset and the plant so far.
pub read_rows_each : (s : List ℕ) (J : ℕ → ℕ → Plant → Type 0) (m states : ℕ)
    → ((k at next : ℕ) (q : Plant) (r : Row) → J (suc k) at q → next ≤ at + most_row_bytes → RowIn m states q.types r → has_twin r q.rows ≡ false
    → J k next (with_row q r))
    → (n implied at : ℕ) (p : Plant) → implied < states → at ≤ length s → J n at p
    → Each (λ q next. (next ≤ length s) × J 0 next q) (length s) (read_rows n m states implied s at p)
unfolding read_rows
read_rows_each s J m states keeps zero implied at p hi l j = got (l, j)
read_rows_each s J m states keeps (suc n) implied at p hi l j =
    each_then (each_unless p.rows at (λ r next h. h.2) (read_row_each s m states p.types implied at hi l)) λ r next h.
    read_rows_each s J m states keeps n r.left next (with_row p r) h.0.1.left h.0.0.inside (keeps n at next p r j h.0.0.near h.0.1 h.1)
